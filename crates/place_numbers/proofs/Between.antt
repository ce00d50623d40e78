-- Marks that are looked for in 64 places at once.
use Rattle.std.proofs.Common.{◌≡◌, ℕ, List, ◌+◌, ◌-◌, ◌<◌, ◌≤◌, inl, inr, length, get_or, arith}
use Rattle.std.specs.Int.{bit_at}
use Rattle.std.proofs.lemmas.Bool.{cases_lt}
use Rattle.place_numbers.specs.Bits.{FirstBit}
use Rattle.place_numbers.specs.Numbers.{FirstAtLeast}
use Rattle.place_numbers.proofs.Moved.{same-place}

module _ (xs : List ℕ) (from place m : ℕ) (order : from ≤ place) (none : (j : ℕ) → from ≤ j → j < place → get_or xs j 0 < 1)
    (read : (i : ℕ) → i < 64 → bit_at m i ≡ get_or xs (place + i) 0) where
  -- no mark comes before the first bit that isn't 0
  pub none-to : (k : ℕ) → k ≤ 64 → ((i : ℕ) → i < k → bit_at m i ≡ 0) → (j : ℕ) → from ≤ j → j < place + k → get_or xs j 0 < 1
  none-to k few zeros j past low = elim (cases_lt j place) [
    | inl before ↦ none j past before
    | inr here ↦
        let is = same-place xs (place + (j - place)) j (omega arith) in let bit = read (j - place) (omega arith) in
        let zero = zeros (j - place) (omega arith) in omega (arith, is, bit, zero)
  ]

  -- and at it one does
  pub first-in : (b : ℕ) → FirstBit m 0 b → place + b < length xs → FirstAtLeast xs 1 from (place + b)
  first-in b it inside =
      let within = it.inside in
      record {
        inside = (omega arith, inside);
        large = let bit = read b within.1 in let one = it.one in omega (arith, bit, one);
        first = none-to b (omega arith) (λ i low. it.first i (omega arith) low);
      }

-- The notes of words in which marks are copied.
use Rattle.std.proofs.Common.{◌≡◌, ℕ, List, ap, ◌∙◌, ◌+◌, ◌-◌, ◌/◌, ◌<◌, ◌≤◌, inl, inr, ◌⊎◌, length, get_or, arith}
use Rattle.std.proofs.lemmas.Bool.{cases_lt}
use Rattle.place_numbers.specs.Bits.{AreNoted, AreNotedAt}
use Rattle.place_numbers.specs.Shifted.{copied}
use Rattle.place_numbers.proofs.Copied.{is-copied}

-- a number lies outside two others, or between them
outside : (w first last : ℕ) → ((w < first) ⊎ (last < w)) ⊎ ((first ≤ w) × (w ≤ last))
outside w first last = elim (cases_lt w first) [
  | inl low ↦ inl (inl low)
  | inr from ↦ elim (cases_lt last w) [
    | inl high ↦ inl (inr high)
    | inr to ↦ inr (from, to)
  ]
]

module _ (xs ys old new : List ℕ) (from to n : ℕ) (some : 0 < n) (from-in : from + n ≤ length xs) (to-in : to + n ≤ length xs) (is : ys ≡ copied from to n xs) where
  -- the marks of other words stay
  same : (j : ℕ) → (j / 64 < to / 64) ⊎ ((to + n - 1) / 64 < j / 64) → get_or ys j 0 ≡ get_or xs j 0
  same j away =
      let all = is-copied xs from to n from-in to-in in
      ap (λ (l : List ℕ). get_or l j 0) is ∙ (elim away [
        | inl low ↦ all.below j (omega arith)
        | inr high ↦ all.after j (omega arith)
      ])

  -- and so notes are right where those of the words with copies are
  pub still-noted : AreNoted xs old → AreNotedAt ys old new (to / 64) ((to + n - 1) / 64) → AreNoted ys new
  still-noted noted at =
      let all = is-copied xs from to n from-in to-in in
      let long : length ys ≡ length xs = ap length is ∙ all.len in
      record {
        few = let few = noted.few in omega (arith, few, long);
        each = at.each ∙ noted.each ∙ ap (λ (k : ℕ). k / 64 + 1) (let back : length xs ≡ length ys = omega (arith, long) in back);
        none = λ j zero. elim (outside (j / 64) (to / 64) ((to + n - 1) / 64)) [
          | inl away ↦ let before = at.others (j / 64) away in let stays = same j away in let none = noted.none j (omega (arith, before, zero)) in omega (arith, stays, none)
          | inr here ↦ at.none (j / 64) here.0 here.1 zero j (omega arith)
        ];
        some = λ w one. elim (outside w (to / 64) ((to + n - 1) / 64)) [
          | inl away ↦
              let before = at.others w away in let mark = noted.some w (omega (arith, before, one)) in
              let stays = same mark.place (rw mark.here away) in
              record {
                place = mark.place;
                here = mark.here;
                one = let there = mark.one in omega (arith, stays, there);
              }
          | inr here ↦ at.some w here.0 here.1 one
        ];
      }

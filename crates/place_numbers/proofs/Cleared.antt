-- Marks that are taken away, and marks that are copied.
use Rattle.std.proofs.Common.{◌≡◌, ℕ, List, ◌∙◌, ◌+◌, ◌-◌, ◌<◌, ◌≤◌, inl, inr, length, get_or, arith}
use Rattle.std.specs.Int.{bit_at}
use Rattle.std.proofs.lemmas.Bool.{cases_lt}
use Rattle.std.proofs.lemmas.Nat.Bits.{bit_at-zero}
use Rattle.place_numbers.specs.Bits.{AreWritten}
use Rattle.place_numbers.specs.Shifted.{copied, shifted_down, shifted_up}
use Rattle.place_numbers.proofs.Moved.{shifted-down, shifted-up, only-down, only-up, same-place}
use Rattle.place_numbers.proofs.Copied.{is-copied, only-copied}

-- the numbers from a place up to another are 0, and the others stay
pub record IsCleared (xs ys : List ℕ) (from end : ℕ) : Type 0 where
  pub len : length ys ≡ length xs
  pub below : (j : ℕ) → j < from → get_or ys j 0 ≡ get_or xs j 0
  pub zeros : (j : ℕ) → from ≤ j → j < end → get_or ys j 0 ≡ 0
  pub after : (j : ℕ) → end ≤ j → get_or ys j 0 ≡ get_or xs j 0

-- so it is where none was moved down
pub is-cleared : (xs : List ℕ) (from end : ℕ) → from ≤ end → end ≤ length xs → IsCleared xs (shifted_down end from 0 xs) from end
is-cleared xs from end order inside =
    let all = shifted-down xs end from 0 order (omega arith) in
    record {
      len = all.len;
      below = all.below;
      zeros = λ j past low. all.zeros j past (omega arith) (omega arith);
      after = λ j past. all.after j (omega arith);
    }

pub only-cleared : (xs ys : List ℕ) (from end : ℕ) → from ≤ end → end ≤ length xs → IsCleared xs ys from end → ys ≡ shifted_down end from 0 xs
only-cleared xs ys from end order inside it =
    only-down xs ys (shifted_down end from 0 xs) from (end - from) (end + 0)
    record {
      len = it.len;
      below = it.below;
      moved = λ j past low. absurd (omega arith);
      zeros = λ j past moved low. it.zeros j past (omega arith);
      after = λ j past. it.after j (omega arith);
    }
    (shifted-down xs end from 0 order (omega arith))

module _ (xs ys : List ℕ) (from place : ℕ) (done : IsCleared xs ys from place) where
  -- zeros are passed over
  pub skip-cleared : (end : ℕ) → place ≤ end → ((j : ℕ) → place ≤ j → j < end → get_or ys j 0 < 1) → IsCleared xs ys from end
  skip-cleared end on none = record {
    len = done.len;
    below = done.below;
    zeros = λ j past low. elim (cases_lt j place) [
      | inl early ↦ done.zeros j past early
      | inr late ↦ let zero = none j late low in omega (arith, zero)
    ];
    after = λ j past. done.after j (omega arith);
  }

  -- and some are written
  pub more-cleared : (zs : List ℕ) (n : ℕ) → from ≤ place → n < 65 → AreWritten ys zs place n 0 → IsCleared xs zs from (place + n)
  more-cleared zs n order few put = record {
    len = put.len ∙ done.len;
    below = λ j low. put.before j (omega arith) ∙ done.below j low;
    zeros = λ j past low. elim (cases_lt j place) [
      | inl early ↦ put.before j early ∙ done.zeros j past early
      | inr late ↦ same-place zs j (place + (j - place)) (omega arith) ∙ put.there (j - place) (omega arith) ∙ bit_at-zero (j - place)
    ];
    after = λ j past. put.after j past ∙ done.after j (omega arith);
  }

-- marks of a word that are read at one place and written at another are copied
pub copied-word : (xs ys : List ℕ) (from to n m : ℕ) → n < 65 → from + n ≤ length xs → to + n ≤ length xs → ((i : ℕ) → i < 64 → bit_at m i ≡ get_or xs (from + i) 0)
    → AreWritten xs ys to n m → ys ≡ copied from to n xs
copied-word xs ys from to n m few from-in to-in read put =
    only-copied xs ys (copied from to n xs) from to n
    record {
      len = put.len;
      below = put.before;
      there = λ j past low. same-place ys j (to + (j - to)) (omega arith) ∙ put.there (j - to) (omega arith) ∙ read (j - to) (omega arith);
      after = put.after;
    }
    (is-copied xs from to n from-in to-in)

-- zeros are copied where those that were there are taken away
pub copied-zeros : (xs : List ℕ) (from to n end : ℕ) → end ≡ to + n → from + n ≤ length xs → to + n ≤ length xs → ((j : ℕ) → from ≤ j → j < from + n → get_or xs j 0 < 1)
    → shifted_down end to 0 xs ≡ copied from to n xs
copied-zeros xs from to n end is from-in to-in none =
    let all = is-cleared xs to end (omega arith) (omega arith) in
    only-copied xs (shifted_down end to 0 xs) (copied from to n xs) from to n
    record {
      len = all.len;
      below = all.below;
      there = λ j past low. let zero = none (from + (j - to)) (omega arith) (omega arith) in all.zeros j past (omega arith) ∙ (let e : 0 ≡ get_or xs (from + (j - to)) 0 = omega (arith, zero) in e);
      after = λ j past. all.after j (omega arith);
    }
    (is-copied xs from to n from-in to-in)

-- numbers are moved down where they are copied, and those after the copies taken away
pub down-cleared : (xs : List ℕ) (from to n : ℕ) → to ≤ from → from + n ≤ length xs → shifted_down (from + n) (to + n) 0 (copied from to n xs) ≡ shifted_down from to n xs
down-cleared xs from to n down inside =
    let ys = copied from to n xs in let first = is-copied xs from to n inside (omega arith) in
    let long = first.len in
    let then = is-cleared ys (to + n) (from + n) (omega arith) (omega arith) in
    only-down xs (shifted_down (from + n) (to + n) 0 ys) (shifted_down from to n xs) to (from - to) (from + n)
    record {
      len = then.len ∙ first.len;
      below = λ j low. then.below j (omega arith) ∙ first.below j low;
      moved = λ j past low. then.below j (omega arith) ∙ first.there j past (omega arith) ∙ same-place xs (from + (j - to)) (j + (from - to)) (omega arith);
      zeros = λ j past moved low. then.zeros j (omega arith) low;
      after = λ j past. then.after j past ∙ first.after j (omega arith);
    }
    (shifted-down xs from to n down inside)

-- and moved up where those before the copies are
pub up-cleared : (xs : List ℕ) (from to n : ℕ) → from ≤ to → to + n ≤ length xs → shifted_down to from 0 (copied from to n xs) ≡ shifted_up from to n xs
up-cleared xs from to n up inside =
    let ys = copied from to n xs in let first = is-copied xs from to n (omega arith) inside in
    let long = first.len in
    let then = is-cleared ys from to up (omega arith) in
    only-up xs (shifted_down to from 0 ys) (shifted_up from to n xs) (to + n) (to - from) from
    record {
      len = then.len ∙ first.len;
      below = λ j low. then.below j low ∙ first.below j (omega arith);
      zeros = λ j past moved low. then.zeros j past (omega arith);
      moved = λ j past low. then.after j (omega arith) ∙ first.there j (omega arith) low ∙ same-place xs (from + (j - to)) (j - (to - from)) (omega arith);
      after = λ j past. then.after j (omega arith) ∙ first.after j past;
    }
    (shifted-up xs from to n up inside)

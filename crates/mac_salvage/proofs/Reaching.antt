-- How far the bytes of a part reach.
use Rattle.std.proofs.Common.{◌≡◌, ℕ, ◌-◌, ◌<◌, ◌≤◌, ◌∙◌, inl, inr, List, [], length, take, drop, min, refl, sym, ap, subst, arith, length-drop, length-take}
use Rattle.std.proofs.lemmas.Bool.{cases_lt}
use Rattle.std.proofs.lemmas.List.{drop_all, take_all}

pub take_clip : (n : ℕ) (xs : List ℕ) → take (min n (length xs)) xs ≡ take n xs
take_clip n xs = elim (cases_lt n (length xs)) [
  | inl inside ↦ ap (λ (k : ℕ). take k xs) (omega (arith, inside))
  | inr past ↦ take_all (min n (length xs)) xs (omega (arith, past)) ∙ sym (take_all n xs past)
]

pub drop_clip : (n : ℕ) (xs : List ℕ) → drop (min n (length xs)) xs ≡ drop n xs
drop_clip n xs = elim (cases_lt n (length xs)) [
  | inl inside ↦ ap (λ (k : ℕ). drop k xs) (omega (arith, inside))
  | inr past ↦ drop_all (min n (length xs)) xs (omega (arith, past)) ∙ sym (drop_all n xs past)
]

-- the bytes from a place on, as far as they reach
pub reached : (bytes : List ℕ) (offset count start found : ℕ) → start ≡ min offset (length bytes) → found ≡ min count (length bytes - start)
    → take found (drop start bytes) ≡ take count (drop offset bytes)
reached bytes offset count start found at is =
    ap (λ (n : ℕ). take n (drop start bytes)) (is ∙ ap (λ (n : ℕ). min count n) (sym (length-drop start bytes)))
    ∙ take_clip count (drop start bytes)
    ∙ ap (λ (xs : List ℕ). take count xs) (ap (λ (n : ℕ). drop n bytes) at ∙ drop_clip offset bytes)

-- how many they are
pub reached_count : (bytes : List ℕ) (offset count start found : ℕ) → start ≡ min offset (length bytes) → found ≡ min count (length bytes - start)
    → length (take count (drop offset bytes)) ≡ found
reached_count bytes offset count start found at is =
    ap (λ (xs : List ℕ). length xs) (sym (reached bytes offset count start found at is))
    ∙ length-take found (drop start bytes) ∙ ap (λ (n : ℕ). min found n) (length-drop start bytes) ∙ omega (arith, is)

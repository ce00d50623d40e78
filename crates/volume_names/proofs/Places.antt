-- The first of some elements that passes.
use Rattle.std.proofs.Common.{◌≡◌, ℕ, ◌<◌, ◌≤◌, Bool, true, false, cond, ltb, lt-ltb, le-ltb, List, length, get_or, Option, None, Some, refl, arith}
use Rattle.std.specs.Prelude.{position}
use Rattle.std.specs.List.{position_or_len}
use Rattle.std.proofs.lemmas.List.Sums.{position_or_len_is}

found_at : (at len k : ℕ) → at ≡ k → k < len → Some k ≡ cond (ltb at len) (Some at) None
found_at at len k e lt = let inside : at < len = omega arith in rw (lt-ltb at len inside, e) refl

none_at : (at len : ℕ) → at ≡ len → None ≡ cond (ltb at len) (Some at) None
none_at at len e = let past : len ≤ at = omega arith in rw (le-ltb at len past) refl

module _ {X : Type 0} (p : X → Bool) (xs : List X) where
  -- it passes, and none before it does
  pub first_at : (i : ℕ) (d : X) → i < length xs → ((k : ℕ) → k < i → p (get_or xs k d) ≡ false) → p (get_or xs i d) ≡ true → Some i ≡ position p xs
  first_at i d at before here = found_at (position_or_len p xs) (length xs) i (position_or_len_is p xs i d (omega arith) before (λ lt. here)) at

  -- none passes
  pub none_passes : (d : X) → ((k : ℕ) → k < length xs → p (get_or xs k d) ≡ false) → None ≡ position p xs
  none_passes d fails = none_at (position_or_len p xs) (length xs) (position_or_len_is p xs (length xs) d (omega arith) fails (λ lt. absurd (omega arith)))

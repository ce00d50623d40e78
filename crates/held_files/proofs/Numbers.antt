-- The first of a range of numbers that passes a test.
use Rattle.std.proofs.Common.{◌≡◌, ap, sym, subst, ℕ, zero, suc, ◌+◌, ◌<◌, ◌≤◌, Bool, true, false, refl, arith, Some, None}
use Rattle.std.specs.List.{find, range_with_len}

-- none passes
pub none_first : (test : ℕ → Bool) (from count : ℕ) → ((k : ℕ) → from ≤ k → k < from + count → test k ≡ false) → find test (range_with_len from count) ≡ None
none_first test from zero fail = refl
none_first test from (suc count) fail = rw (fail from (omega arith) (omega arith)) (none_first test (from + 1) count (λ k low high. fail k (omega arith) (omega arith)))

-- the one after some that don't
pub first_passes : (test : ℕ → Bool) (from before count at : ℕ) → at ≡ from + before → ((k : ℕ) → from ≤ k → k < at → test k ≡ false) → before < count → test at ≡ true
    → find test (range_with_len from count) ≡ Some at
first_passes test from before zero at is fail few here = absurd (omega arith)
first_passes test from zero (suc count) at is fail few here =
    let same : from ≡ at = omega arith in
    let passes : test from ≡ true = subst (λ (k : ℕ). test k ≡ true) (sym same) here in
    rw passes (ap Some same)
first_passes test from (suc before) (suc count) at is fail few here =
    rw (fail from (omega arith) (omega arith)) (first_passes test (from + 1) before count at (omega arith) (λ k low high. fail k (omega arith) high) (omega arith) here)

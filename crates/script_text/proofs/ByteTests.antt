-- Tests of bytes.
use Rattle.std.proofs.Common.{◌≡◌, ℕ, Bool, true, false, eqb, List, [], ◌∷◌, refl, sym, ap, ◌∙◌}
use Rattle.std.specs.Prelude.{not}
use Rattle.std.specs.List.{list_all}
use Rattle.std.proofs.lemmas.Bool.{eqb-true, and_parts as and_true}

-- a test that passes, denied twice
pub not_not : (a : Bool) → a ≡ true → not (not a) ≡ true
not_not true e = refl
not_not false e = absurd cc

-- a test denied twice that passes
pub not_not_back : (a : Bool) → not (not a) ≡ true → a ≡ true
not_not_back true e = refl
not_not_back false e = absurd cc

-- the same test, denied twice
pub passes_twice : (test : ℕ → Bool) (bytes : List ℕ) → list_all test bytes ≡ true → list_all (λ x. not (not (test x))) bytes ≡ true
passes_twice test [] all = refl
passes_twice test (byte ∷ bytes) all = let both = and_true _ _ all in rw (not_not (test byte) both.0, passes_twice test bytes both.1) refl

-- the same, back
pub passes_back : (test : ℕ → Bool) (bytes : List ℕ) → list_all (λ x. not (not (test x))) bytes ≡ true → list_all test bytes ≡ true
passes_back test [] all = refl
passes_back test (byte ∷ bytes) all = let both = and_true _ _ all in let first : test byte ≡ true = not_not_back (test byte) both.0 in rw (first, passes_back test bytes both.1) refl

differ : true ≡ false → ⊥
differ e = absurd cc

at_number_by : (test : ℕ → Bool) (byte n : ℕ) (b : Bool) → eqb byte n ≡ b → test n ≡ false → test byte ≡ true → eqb byte n ≡ false
at_number_by test byte n true e fails passes = absurd (differ (sym passes ∙ ap test (eqb-true byte n e) ∙ fails))
at_number_by test byte n false e fails passes = e

-- a byte that a test passes is no byte that it does not pass
pub at_number : (test : ℕ → Bool) (byte n : ℕ) → test n ≡ false → test byte ≡ true → eqb byte n ≡ false
at_number test byte n fails passes = at_number_by test byte n (eqb byte n) refl fails passes

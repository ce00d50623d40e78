-- The keys of handles distinguish them.
use Rattle.std.proofs.Common.{◌≡◌, refl, ap, arith, ℕ, ◌+◌, ◌*◌, ◌%◌, ◌<◌, Bool, true, false, ◌==◌}
use Rattle.std.proofs.lemmas.Bool.Decides.{nat_tests}
use Rattle.std.proofs.lemmas.Bool.{eqb-true}
use Rattle.res_table.specs.Keyed.{key_of_handle}

-- handles with one key are the same
one_key : (g h a b : ℕ) → a < 4294967296 → b < 4294967296 → a ≡ (g * 2654435761) % 4294967296 → b ≡ (h * 2654435761) % 4294967296 → a * 4294967296 + g ≡ b * 4294967296 + h → g ≡ h
one_key g h a b low_a low_b is_a is_b same = omega arith

told : (g h : ℕ) → g ≡ h → (g == h) ≡ false → ⊥
told g h same is = grind (arith, nat_tests)

below : (n : ℕ) → n % 4294967296 < 4294967296
below n = omega arith

same_key : (g h : ℕ) → (key_of_handle g == key_of_handle h) ≡ true → g ≡ h
same_key g h is = one_key g h _ _ (below (g * 2654435761)) (below (h * 2654435761)) refl refl (eqb-true (key_of_handle g) (key_of_handle h) is)

pub key_tells : (g h : ℕ) → (key_of_handle g == key_of_handle h) ≡ (g == h)
key_tells g h = by (key_of_handle g == key_of_handle h) (g == h) refl refl
  where
    by : (e f : Bool) → (key_of_handle g == key_of_handle h) ≡ e → (g == h) ≡ f → e ≡ f
    by true true e f = refl
    by false false e f = refl
    by true false e f = absurd (told g h (same_key g h e) f)
    by false true e f = absurd (told (key_of_handle g) (key_of_handle h) (ap key_of_handle (eqb-true g h f)) e)

-- The bits of a state.
use Rattle.std.proofs.Common.{◌≡◌, ℕ, zero, suc, ◌*◌, ◌/◌, ◌%◌, ◌<◌, not, eqb, refl, ap, ◌∙◌, arith, bit_and}
use Rattle.std.proofs.lemmas.Bool.Decides.{nat_tests}
use Rattle.std.proofs.lemmas.Nat.Bits.{and_high}

bit_test : (b m : ℕ) → b < 2 → 0 < m → not (eqb (b * m) 0) ≡ eqb b 1
bit_test zero m small some = let none : 0 * m ≡ 0 = omega arith in rw none refl
bit_test (suc zero) m small some = let same : 1 * m ≡ m = omega arith in rw same (grind (arith, nat_tests))
bit_test (suc (suc b)) m small some = absurd (omega arith)

-- a bit of a number is set where the number masked by it isn't zero
pub masked-lock : (n : ℕ) → not (eqb (bit_and n 128) 0) ≡ eqb ((n / 128) % 2) 1
masked-lock n = ap (λ m. not (eqb m 0)) (and_high n 1 7) ∙ bit_test ((n / 128) % 2) 128 (omega arith) (omega arith)

-- the same of the purge bit
pub masked-purge : (n : ℕ) → not (eqb (bit_and n 64) 0) ≡ eqb ((n / 64) % 2) 1
masked-purge n = ap (λ m. not (eqb m 0)) (and_high n 1 6) ∙ bit_test ((n / 64) % 2) 64 (omega arith) (omega arith)

-- the same of the resource bit
pub masked-resource : (n : ℕ) → not (eqb (bit_and n 32) 0) ≡ eqb ((n / 32) % 2) 1
masked-resource n = ap (λ m. not (eqb m 0)) (and_high n 1 5) ∙ bit_test ((n / 32) % 2) 32 (omega arith) (omega arith)

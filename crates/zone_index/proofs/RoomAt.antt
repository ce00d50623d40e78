-- Whether so many bytes are enough.
use Rattle.std.proofs.Common.{◌≡◌, ℕ, ◌<◌, false, sym, arith}
use Rattle.std.specs.Prelude.{nat_le}
use Rattle.std.proofs.lemmas.Bool.{false_from_ne_true, leb-true}

-- fewer bytes are not enough
pub too-few : (k n : ℕ) → n < k → false ≡ nat_le k n
too-few k n few = sym (false_from_ne_true (nat_le k n) (λ h. let le = leb-true k n h in absurd (omega (arith, le, few))))

-- How long digits are.
use Rattle.std.proofs.Common.{◌≡◌, ℕ, ◌*◌, List, [], ◌∷◌, length, arith, refl}
use Rattle.script_lang.specs.Text.{in_digits}

-- two for each byte
pub digits_long : (bytes : List ℕ) → length (in_digits bytes) ≡ 2 * length bytes
digits_long [] = refl
digits_long (byte ∷ bytes) = let later = digits_long bytes in omega arith

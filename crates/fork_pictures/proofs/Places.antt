-- Where the bytes of pixels are.
use Rattle.std.proofs.Common.{ℕ, ◌*◌, ◌<◌, arith}
use Rattle.std.proofs.lemmas.Nat.{mul-le}

-- a row's place is a number of 48 bits
pub row_place : (width y : ℕ) → width < 65536 → y < 4294967296 → width * y < 281474976710656
row_place width y narrow low = omega (arith, mul-le width y 65535 4294967295 (omega arith) (omega arith))

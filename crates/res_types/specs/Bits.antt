-- Numbers and bytes in bits, the highest bit first.
use Rattle.std.specs.Prelude.{ℕ, zero, suc, ◌+◌, ◌*◌, ◌/◌, ◌%◌, ◌==◌, Bool, true, false, nat_le, if◌then◌else◌, List, [], ◌∷◌, ◌++◌, length, take, drop, Option, None, Some, option_and_then}
use Rattle.std.specs.List.{flat_map}

infixl 10 ◌>>=◌
abbrev pub ◌>>=◌ : {A B : Type 0} → Option A → (A → Option B) → Option B
o >>= f = option_and_then f o

-- a bit as a number
abbrev pub digit : Bool → ℕ
digit true = 1
digit false = 0

-- the number whose higher bits are this number, and then these bits
abbrev pub number_from : ℕ → List Bool → ℕ
number_from n [] = n
number_from n (b ∷ bs) = number_from (2 * n + digit b) bs

-- a number in so many bits
unfoldable pub bits_of : ℕ → ℕ → List Bool
bits_of zero n = []
bits_of (suc w) n = bits_of w (n / 2) ++ (n % 2 == 1) ∷ []

-- bytes in bits
abbrev pub byte_bits : List ℕ → List Bool
byte_bits bytes = flat_map (bits_of 8) bytes

-- the number in so many bits, at most 32, and the bits after it
unfoldable pub number_at : ℕ → List Bool → Option (ℕ × List Bool)
number_at w bits = if nat_le w 32 then (if nat_le w (length bits) then Some (number_from 0 (take w bits), drop w bits) else None) else None

-- so many bytes, and the bits after them
abbrev pub bytes_at : ℕ → List Bool → Option (List ℕ × List Bool)
bytes_at zero bits = Some ([], bits)
bytes_at (suc n) bits = do
  byte ← number_at 8 bits
  others ← bytes_at n byte.1
  Some (byte.0 ∷ others.0, others.1)

-- the bytes up to a 0, in so many turns at most, and the bits after it
abbrev pub ended_at : ℕ → List Bool → Option (List ℕ × List Bool)
ended_at zero bits = None
ended_at (suc turns) bits = do
  byte ← number_at 8 bits
  if byte.0 == 0 then Some ([], byte.1) else (do
    others ← ended_at turns byte.1
    Some (byte.0 ∷ others.0, others.1))

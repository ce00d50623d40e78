-- The bytes of digits, one after the other.
use Rattle.std.proofs.Common.{◌≡◌, ℕ, List, [], ◌∷◌, Result, refl}
use Rattle.mac_files.specs.declared.bin_hex.digits.Placed.{Placed}
use Rattle.mac_files.specs.declared.bin_hex.fault.BinHexFault.{BinHexFault}
use Rattle.mac_files.specs.declared.bin_hex.packed.Held.{Held}
use Rattle.mac_files.specs.declared.bin_hex.packed.Held.TheVariants.{Nothing, Second, Third}
use Rattle.mac_files.specs.BinHex.{Reading, before, ends, packed, first_byte, second_byte, third_byte}
use Rattle.mac_files.specs.BinHexLeft.{bytes_of, packed_after}

packed_first : (a b : Placed) (digits : List Placed) → packed (a ∷ b ∷ digits) ≡ first_byte a b ∷ packed_after (Second b.value) digits
unfolding packed packed_after
packed_first a b [] = refl
packed_first a b (c ∷ []) = refl
packed_first a b (c ∷ d ∷ digits) = refl

-- no digit is left
pub bytes_end : (held : Held) (r : Reading) (ending : Result ℕ BinHexFault) → r ≡ ends ending → bytes_of held r ≡ ends ending
unfolding packed packed_after
bytes_end Nothing r ending e = rw e refl
bytes_end (Second b) r ending e = rw e refl
bytes_end (Third c) r ending e = rw e refl

-- one digit is left
pub bytes_end_inside : (r s : Reading) (a : Placed) (ending : Result ℕ BinHexFault) → r ≡ before (a ∷ []) s → s ≡ ends ending → bytes_of Nothing r ≡ ends ending
unfolding packed packed_after
bytes_end_inside r s a ending first rest = rw (first, rest) refl

pub bytes_first : (r s t : Reading) (a b : Placed) → r ≡ before (a ∷ []) s → s ≡ before (b ∷ []) t
    → bytes_of Nothing r ≡ before (first_byte a b ∷ []) (bytes_of (Second b.value) t)
unfolding packed_after
bytes_first r s t a b first second = rw (first, second, packed_first a b t.values) refl

pub bytes_second : (r s : Reading) (b : ℕ) (c : Placed) → r ≡ before (c ∷ []) s
    → bytes_of (Second b) r ≡ before (second_byte (record { value = b; at = 0 }) c ∷ []) (bytes_of (Third c.value) s)
unfolding packed_after
bytes_second r s b c e = rw e refl

pub bytes_third : (r s : Reading) (c : ℕ) (d : Placed) → r ≡ before (d ∷ []) s
    → bytes_of (Third c) r ≡ before (third_byte (record { value = c; at = 0 }) d ∷ []) (bytes_of Nothing s)
unfolding packed_after
bytes_third r s c d e = rw e refl

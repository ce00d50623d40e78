-- Texts in bits.
use Rattle.std.specs.Prelude.{◌≡◌, ℕ, ◌+◌, ◌-◌, ◌==◌, ◌&&◌, not, Bool, true, false, nat_le, nat_lt, if◌then◌else◌, List, [], ◌∷◌, ◌++◌, length, take, drop, replicate, Option, None, Some, option_map}
use Rattle.std.specs.List.{list_all, position}
use Rattle.res_types.specs.declared.field.CountSize.{CountSize}
use Rattle.res_types.specs.declared.field.CountSize.TheVariants.{Byte, Integer, Longint}
use Rattle.res_types.specs.declared.field.TextForm.{TextForm}
use Rattle.res_types.specs.declared.field.TextForm.TheVariants.{Fixed, Counted, Ended, CountedWithin, EndedWithin}
use Rattle.res_types.specs.Bits.{◌>>=◌, bits_of, byte_bits, number_at, bytes_at, ended_at}

-- how many bits a count has
abbrev pub width_of : CountSize → ℕ
width_of Byte = 8
width_of Integer = 16
width_of Longint = 32

-- the greatest count of this size
abbrev pub greatest : CountSize → ℕ
greatest Byte = 255
greatest Integer = 65535
greatest Longint = 4294967295

-- each is a byte
abbrev pub are_bytes : List ℕ → Bool
are_bytes bytes = list_all (λ byte. nat_lt byte 256) bytes

-- each is 0
abbrev pub are_zeros : List ℕ → Bool
are_zeros bytes = list_all (λ byte. byte == 0) bytes

-- none is 0
abbrev pub has_no_zero : List ℕ → Bool
has_no_zero bytes = list_all (λ byte. not (byte == 0)) bytes

-- the text of a byte that counts, so many bytes, and zeros
unfoldable pub counted_within : List ℕ → Option (List ℕ)
counted_within [] = None
counted_within (count ∷ bytes) = if nat_le count (length bytes) && are_zeros (drop count bytes) then Some (take count bytes) else None

-- the text of bytes that aren't 0, and then zeros, at least one
unfoldable pub ended_within : List ℕ → Option (List ℕ)
ended_within bytes = elim (position (λ byte. byte == 0) bytes) [ None ↦ None | Some n ↦ if are_zeros (drop n bytes) then Some (take n bytes) else None ]

-- the text in this form, and the bits after it
unfoldable pub text_at : TextForm → List Bool → Option (List ℕ × List Bool)
text_at (Fixed n) bits = bytes_at n bits
text_at (Counted size) bits = number_at (width_of size) bits >>= λ count. bytes_at count.0 count.1
text_at Ended bits = ended_at (length bits) bits
text_at (CountedWithin n) bits = bytes_at (n + 1) bits >>= λ bytes. counted_within bytes.0 >>= λ text. Some (text, bytes.1)
text_at (EndedWithin n) bits = bytes_at n bits >>= λ bytes. ended_within bytes.0 >>= λ text. Some (text, bytes.1)

-- the bits of a text in this form, if it can be in it
unfoldable pub bits_in : TextForm → List ℕ → Option (List Bool)
bits_in (Fixed n) text = if length text == n then Some (byte_bits text) else None
bits_in (Counted size) text = if nat_le (length text) (greatest size) then Some (bits_of (width_of size) (length text) ++ byte_bits text) else None
bits_in Ended text = if has_no_zero text then Some (byte_bits (text ++ 0 ∷ [])) else None
bits_in (CountedWithin n) text = if nat_le (length text) n then Some (byte_bits (length text ∷ (text ++ replicate (n - length text) 0))) else None
bits_in (EndedWithin n) text = if has_no_zero text && nat_lt (length text) n then Some (byte_bits (text ++ replicate (n - length text) 0)) else None

-- the bits of a text, which is of bytes
unfoldable pub text_bits : TextForm → List ℕ → Option (List Bool)
text_bits form text = if are_bytes text then bits_in form text else None

-- the bits that a text has were added, or none were where it has none
abbrev pub Adds : List Bool → List Bool → Bool → Option (List Bool) → Type 0
Adds old new true given = option_map (λ bits. old ++ bits) given ≡ Some new
Adds old new false given = (given ≡ None) × (new ≡ old)

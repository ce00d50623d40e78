-- What a value of a declared type is: the bits of its parts.
use Rattle.std.specs.Prelude.{◌≡◌, ◌≢◌, ℕ, ◌==◌, Bool, if◌then◌else◌, List, [], ◌++◌, length, slice_get, slice_set, true, false, Some, Result, Ok, Err}
use Rattle.res_types.specs.declared.declaration.Declaration.{Declaration}
use Rattle.res_types.specs.declared.declaration.Tail.{Tail}
use Rattle.res_types.specs.declared.declaration.Tail.TheVariants.{Nothing, Text, Elements}
use Rattle.res_types.specs.declared.reading.End.TheVariants.{Whole}
use Rattle.res_types.specs.declared.value.Part.{Part}
use Rattle.res_types.specs.declared.value.Part.TheVariants as parts
use Rattle.res_types.specs.declared.stop.Stop.{Stop}
use Rattle.res_types.specs.declared.stop.Stop.TheVariants as stops
use Rattle.res_types.specs.Bits.{byte_bits}
use Rattle.res_types.specs.Texts.{are_bytes}
use Rattle.res_types.specs.Reading.{◌>>=◌, Read, read, read_whole_list, read_whole_text}
use Rattle.res_types.specs.Writing.{Written, write, write_list, write_whole_text}

-- the parts of a tail, which goes on to the last bit
abbrev pub read_tail : ℕ → Tail → List Bool → Read
read_tail whole Nothing bits = Ok ([], bits)
read_tail whole (Text style) bits = read_whole_text bits
read_tail whole (Elements body) bits = read_whole_list (read whole body) Whole bits

-- the parts that bits have, all of them
unfoldable pub decode : Declaration → List Bool → Result (List Part) ℕ
decode declaration bits = do
  fields ← read (length bits) declaration.fields bits
  tail ← read_tail (length bits) declaration.tail fields.1
  if length tail.1 == 0 then Ok (fields.0 ++ tail.0) else Err (length tail.1)

-- the bits of the parts of a tail
abbrev pub write_tail : Tail → ℕ → List Part → Written
write_tail Nothing at ps = Ok ([], ps)
write_tail (Text style) at ps = write_whole_text ps
write_tail (Elements body) at ps = write_list (write body) at ps

-- the bits of a value, if these are the parts of one
unfoldable pub encode : Declaration → List Part → Result (List Bool) ℕ
encode declaration ps = do
  fields ← write declaration.fields 0 ps
  tail ← write_tail declaration.tail (length fields.0) fields.1
  if length tail.1 == 0 then Ok (fields.0 ++ tail.0) else Err (length tail.1)

-- no bytes have the bits of these parts, unless the host has no memory
abbrev pub HasNoBytes : Declaration → List Part → Stop → Type 0
HasNoBytes declaration ps stops.HostFull = Unit {0}
HasNoBytes declaration ps (stops.Unfit left) = (bytes : List ℕ) → encode declaration ps ≢ Ok (byte_bits bytes)

-- whether a part is a text
abbrev pub is_text : Part → Bool
is_text (parts.Text text) = true
is_text (parts.Number n) = false
is_text (parts.Elements n) = false
is_text (parts.Case chosen) = false

-- new bytes are those of the same value with another text in the place of one
abbrev pub SetsText : Declaration → List ℕ → ℕ → List ℕ → List ℕ → Type 0
SetsText declaration old place text new =
    (ps : List Part) × (was : List ℕ) × (slice_get ps place ≡ Some (parts.Text was)) × (encode declaration ps ≡ Ok (byte_bits old))
    × (encode declaration (slice_set ps place (parts.Text text)) ≡ Ok (byte_bits new))

-- a value whose text is set to what it was has the same bytes
abbrev pub IsSameAgain : Type 0
IsSameAgain = (declaration : Declaration) (old new : List ℕ) (ps : List Part) (place : ℕ) (was : List ℕ) → are_bytes old ≡ true → are_bytes new ≡ true
    → slice_get ps place ≡ Some (parts.Text was) → encode declaration ps ≡ Ok (byte_bits old) → encode declaration (slice_set ps place (parts.Text was)) ≡ Ok (byte_bits new) → new ≡ old

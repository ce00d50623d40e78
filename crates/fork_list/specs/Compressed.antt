-- Compressed resources of System 7: a signature in four bytes, the length of the header in two, a version in one,
-- attributes in one, and the length of the unpacked bytes in four.
use Rattle.std.specs.Prelude.{ℕ, ◌+◌, ◌*◌, ◌==◌, ◌||◌, Bool, not, nat_lt, if◌then◌else◌, List, [], ◌∷◌, length, take, slice_index, bytes_eq, Option, Some, None}
use Rattle.std.specs.Int.RustNames.{bit_and}
use Rattle.std.specs.List.{list_any}
use Rattle.mac_base.specs.declared.resource.Resource.{Resource}

-- what each of them begins with: $A89F6572
abbrev pub signature : List ℕ
signature = 168 ∷ 159 ∷ 101 ∷ 114 ∷ []

-- whether bit 0 of these attributes is clear, so that the resource isn't compressed
abbrev pub is_plain : ℕ → Bool
is_plain attributes = bit_and attributes 1 == 0

-- whether one of these resources may be compressed
abbrev pub has_marked : {X : Type 0} → List (Resource X) → Bool
has_marked rows = list_any (λ row. not (is_plain row.attributes.0)) rows

-- how many bytes a resource of these attributes has unpacked: bit 0 is set, and the bytes have such a header
abbrev pub unpacked_length : ℕ → List ℕ → Option ℕ
unpacked_length attributes bytes =
    if is_plain attributes || nat_lt (length bytes) 12 then None
    else if not (bytes_eq (take 4 bytes) signature) then None
    else Some ((slice_index bytes 8 * 256 + slice_index bytes 9) * 65536 + (slice_index bytes 10 * 256 + slice_index bytes 11))

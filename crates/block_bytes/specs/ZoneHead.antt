-- The header of a zone as bytes.
use Rattle.std.specs.Prelude.{ℕ, ◌+◌, ◌*◌, ◌<◌, ◌≤◌, ◌^◌, List, ◌++◌, length, replicate}
use Rattle.byteorder.specs.Endian.{big_bytes, big_number}
use Rattle.mac_base.specs.HeadKind.{slot_count, zone_header}
use Rattle.raw_region.specs.Bytes.{part}
use Rattle.raw_region.specs.Span.{IsFree}
use Rattle.raw_region.specs.State.{State}

-- where it has the address after the last block, the first free slot, the free bytes, and the header of the lowest
-- free block
abbrev pub end_field : ℕ
end_field = 0

abbrev pub front_field : ℕ
front_field = 8

abbrev pub free_field : ℕ
free_field = 12

abbrev pub lowest_field : ℕ
lowest_field = 48

-- n bytes of zero
abbrev pub zeros : ℕ → List ℕ
zeros n = replicate n 0

-- the address after the last block, at 0; the first free slot, at 8; the free bytes, at 12; how many master pointers a
-- master block has, at 20; the header of the lowest free block, at 48; and zero in the other bytes
abbrev pub zone_head : ℕ → ℕ → ℕ → ℕ → List ℕ
zone_head end front free lowest =
    big_bytes 4 end ++ (zeros 4 ++ (big_bytes 4 front ++ (big_bytes 4 free ++ (zeros 4 ++ (big_bytes 2 slot_count ++ (zeros 26 ++ big_bytes 4 lowest))))))

-- the free bytes may be counted anew, where some came to them and some went, and the index has these numbers
pub record CanCount (m : State) (index : List ℕ) (base gained lost : ℕ) : Type 0 where
  pub inside : zone_header ≤ length m.bytes
  pub unlent : IsFree m.lent 0 zone_header
  pub few : big_number 4 (part m.bytes free_field 4) + gained < 2 ^ 32
  pub counted : lost ≤ big_number 4 (part m.bytes free_field 4) + gained
  pub small : base + 4 * length index < 2 ^ 32

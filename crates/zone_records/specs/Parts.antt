-- The block that has a byte; the parts of a zone's structure, byte by byte, and bytes that are in none of them.
use Rattle.std.specs.Prelude.{◌≡◌, ℕ, ◌+◌, ◌-◌, ◌≤◌, ◌<◌, ◌⊎◌, IsTrue, List, [], length, slice_index}
use Rattle.mac_base.specs.HeadKind.{head_size, zone_header}
use Rattle.raw_region.specs.Bytes.{part}
use Rattle.zone_records.specs.declared.structure.Part.{Part}
use Rattle.zone_records.specs.declared.structure.Part.TheVariants.{ZoneHeader, BlockHeader, MasterPointer}
use Rattle.zone_records.specs.Places.{RecordAt, SlotAt, has_bytes}
use Rattle.zone_records.specs.Records.{ZoneRecords, bytes_of, address_after}

-- the block at `start` has the byte at an address, in its header or after it
pub record HoldsByte (z : ZoneRecords) (at start : ℕ) : Type 0 where
  pub block : RecordAt z start
  pub low : start ≤ at
  pub high : at < start + block.here.size

-- the byte at an address lies before all blocks, or after them
abbrev pub LiesOutside : ZoneRecords → ℕ → Type 0
LiesOutside z at = (at < address_after z.shape []) ⊎ (address_after z.shape z.blocks ≤ at)

-- the header of a block has the byte at an offset from the zone's start
pub record InHeader (z : ZoneRecords) (at : ℕ) : Type 0 where
  pub start : ℕ
  pub block : RecordAt z start
  pub low : start ≤ z.shape.base + at
  pub high : z.shape.base + at < start + head_size z.shape.heads

-- a master pointer has it
pub record InPointer (z : ZoneRecords) (at : ℕ) : Type 0 where
  pub number : ℕ
  pub slot : SlotAt z number
  pub low : number ≤ z.shape.base + at
  pub high : z.shape.base + at < number + 4

-- the byte at an offset is in this part of a zone's structure
abbrev pub IsInPart : ZoneRecords → ℕ → Part → Type 0
IsInPart z at ZoneHeader = at < zone_header
IsInPart z at BlockHeader = InHeader z at
IsInPart z at MasterPointer = InPointer z at

-- the bytes that are in no part of a zone's structure are as they were
abbrev pub OthersStay : ZoneRecords → List ℕ → List ℕ → Type 0
OthersStay z old new = (at : ℕ) → ((part : Part) → IsInPart z at part → ⊥) → slice_index new at ≡ slice_index old at

-- so are the contents of each handle's and each pointer's block
abbrev pub ContentsStay : ZoneRecords → List ℕ → List ℕ → Type 0
ContentsStay z old new = (start : ℕ) (b : RecordAt z start) → IsTrue (has_bytes b.here.content) → let at = start - z.shape.base + head_size z.shape.heads in
    part new at (length (bytes_of b.here.content)) ≡ part old at (length (bytes_of b.here.content))

-- The block that has a byte; the parts of a zone's structure, byte by byte, and bytes that are in none of them.
use Rattle.std.specs.Prelude.{◌≡◌, ℕ, ◌+◌, ◌<◌, ◌≤◌, ◌⊎◌, Contains, List, [], Some, slice_index}
use Rattle.mac_base.specs.declared.block.Block.{Block}
use Rattle.mac_base.specs.BlockReport.{report_at}
use Rattle.mac_base.specs.HandleTable.{bytes_of}
use Rattle.mac_base.specs.HeadKind.{head_size, zone_header}
use Rattle.mac_base.specs.Suits.{slots}
use Rattle.mac_base.specs.ZoneMap.{address_after}
use Rattle.mac_base.specs.ZoneState.{ZoneState}
use Rattle.zone_records.specs.declared.structure.Part.{Part}
use Rattle.zone_records.specs.declared.structure.Part.TheVariants.{ZoneHeader, BlockHeader, MasterPointer}
use Rattle.linked_zone.specs.Places.{EntryAt}
use Rattle.linked_zone.specs.Structure.{shown}

-- the zone has this block, and the block has the byte at an address, in its header or after it
pub record IsHolder (z : ZoneState) (at : ℕ) (b : Block) : Type 0 where
  pub there : report_at z.shape z.heap b.address ≡ Some b
  pub low : b.address ≤ at
  pub high : at < b.address + b.entry.size

-- the byte at an address lies before all blocks, or after them
abbrev pub LiesOutside : ZoneState → ℕ → Type 0
LiesOutside z at = (at < address_after z.shape []) ⊎ (address_after z.shape z.heap.map ≤ at)

-- the header of a block has the byte at an offset from the zone's start
pub record InHeader (z : ZoneState) (at : ℕ) : Type 0 where
  pub start : ℕ
  pub block : EntryAt z start
  pub low : start ≤ z.shape.base + at
  pub high : z.shape.base + at < start + head_size z.shape.heads

-- a master pointer has it
pub record InPointer (z : ZoneState) (at : ℕ) : Type 0 where
  pub number : ℕ
  pub slot : Contains (slots z.shape z.heap.map) number
  pub low : number ≤ z.shape.base + at
  pub high : z.shape.base + at < number + 4

-- the byte at an offset is in this part of a zone's structure
abbrev pub IsInPart : ZoneState → ℕ → Part → Type 0
IsInPart z at ZoneHeader = at < zone_header
IsInPart z at BlockHeader = InHeader z at
IsInPart z at MasterPointer = InPointer z at

-- the bytes that are in no part of a zone's structure are as they were
abbrev pub OthersStay : ZoneState → List ℕ → List ℕ → Type 0
OthersStay z old new = (at : ℕ) → ((part : Part) → IsInPart z at part → ⊥) → slice_index new at ≡ slice_index old at

-- so are the contents that bytes have for each handle and each pointer
abbrev pub ContentsStay : ZoneState → List ℕ → List ℕ → Type 0
ContentsStay z old new = (x : ℕ) → bytes_of (shown z new).heap.table x ≡ bytes_of (shown z old).heap.table x

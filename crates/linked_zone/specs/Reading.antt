-- How the handle table, the zone map and the free slots are read off the blocks.
use Rattle.std.specs.Prelude.{◌≡◌, ℕ, ◌+◌, ◌%◌, ◌≤◌, ◌==◌, ◌||◌, if◌then◌else◌, List, [], ◌∷◌, ◌++◌, length, flat_map}
use Rattle.mac_base.specs.declared.block.Flags.{Flags}
use Rattle.mac_base.specs.HeadKind.{Shape, head_size, zone_header, address_end}
use Rattle.mac_base.specs.Loans.{owner_of}
use Rattle.mac_base.specs.ZoneMap.{ZoneMap, block, total_size}
use Rattle.mac_base.specs.HandleTable.{Live, EmptyHandle, FullHandle, Pointer}
use Rattle.mac_base.specs.ZoneState.{ZoneState}
use Rattle.zone_records.specs.declared.slot.Slot.{Slot}
use Rattle.zone_records.specs.declared.slot.Slot.TheVariants as slot
use Rattle.zone_records.specs.Records.{Content, BlockRecord, ZoneRecords, Free, Fixed, Master, Relocatable, address_after, kind_of}
use Rattle.zone_records.specs.Slots.{addressed, all_slots, chain}
use Rattle.linked_zone.specs.declared.zone.LinkedZone.TheInside.{Inside}
use Rattle.linked_zone.specs.Owned.{records_of}
use Rattle.linked_zone.specs.Fit.{Fits, HasSizes, HasRooms}

-- the zone map that blocks are, the first at an address
abbrev pub map_in : Shape → ℕ → List BlockRecord → ZoneMap
map_in s at [] = []
map_in s at (b ∷ bs) = block (kind_of (at + head_size s.heads) b.content) b.size ∷ map_in s (at + b.size) bs

-- the flags that are in one of two places
abbrev pub either_flags : Flags → Flags → Flags
either_flags f g = record { lock = f.lock || g.lock; purge = f.purge || g.purge; resource = f.resource || g.resource }

-- what is live where a block is that of the handle h, whose slot says these flags
abbrev pub live_there : ℕ → Flags → Content → List Live
live_there h flags Free = []
live_there h flags (Fixed bytes) = []
live_there h flags (Master slots) = []
live_there h flags (Relocatable g header bytes) = if g == h then FullHandle (either_flags flags header) bytes ∷ [] else []

-- the handle h with the block that is its own among these
abbrev pub lives_there : ℕ → Flags → List BlockRecord → List (ℕ × Live)
lives_there h flags [] = []
lives_there h flags (b ∷ bs) = flat_map (λ l. (h, l) ∷ []) (live_there h flags b.content) ++ lives_there h flags bs

-- what a slot says is live, where the blocks are these
abbrev pub live_in : List BlockRecord → ℕ × Slot → List (ℕ × Live)
live_in all (h, slot.Free next) = []
live_in all (h, slot.Empty) = (h, EmptyHandle) ∷ []
live_in all (h, slot.Full flags contents) = lives_there h flags all

-- what a block whose contents begin at an address says is live
abbrev pub live_of : List BlockRecord → ℕ → Content → List (ℕ × Live)
live_of all at Free = []
live_of all at (Fixed bytes) = (at, Pointer bytes) ∷ []
live_of all at (Master slots) = flat_map (live_in all) (addressed at slots)
live_of all at (Relocatable h flags bytes) = []

-- what blocks say is live, the first at an address, in order of number
abbrev pub lives_in : Shape → List BlockRecord → ℕ → List BlockRecord → List (ℕ × Live)
lives_in s all at [] = []
lives_in s all at (b ∷ bs) = live_of all (at + head_size s.heads) b.content ++ lives_in s all (at + b.size) bs

-- the handles and pointers whose blocks are lent, the first block at an address, in the order of these
abbrev pub lents_in : Shape → ℕ → List BlockRecord → List ℕ
lents_in s at [] = []
lents_in s at (b ∷ bs) = (if b.lent then owner_of (kind_of (at + head_size s.heads) b.content) else []) ++ lents_in s (at + b.size) bs

-- the zone that blocks stand for
abbrev pub state_in : ZoneRecords → ZoneState
state_in z = let start = address_after z.shape [] in let all = all_slots z.shape start z.blocks in record {
  memory = z.memory;
  shape = z.shape;
  heap = record {
    table = record { live = lives_in z.shape z.blocks start z.blocks; lent = lents_in z.shape start z.blocks };
    map = map_in z.shape start z.blocks;
    free_slots = chain (length all) all z.front;
  };
}

-- what the field stands for
abbrev pub state_of_field : Inside → ZoneState
state_of_field z = state_in z.records

-- the blocks are those of the zone that they stand for; sizes are possible, slots can say addresses, and none is 0; the
-- zone begins at a multiple of four
pub record StandsAsRead (z : Inside) : Type 0 where
  pub blocks : z.records ≡ records_of (state_in z.records)
  pub fits : Fits (state_in z.records)
  pub sizes : HasSizes (state_in z.records)
  pub rooms : HasRooms (state_in z.records)
  pub within : zone_header + total_size (state_in z.records).heap.map ≤ z.records.shape.limit
  pub even : z.records.shape.base % 4 ≡ 0
  pub low : 0x1000 ≤ z.records.shape.base
  pub high : z.records.shape.base + z.records.shape.limit ≤ address_end z.records.shape.heads

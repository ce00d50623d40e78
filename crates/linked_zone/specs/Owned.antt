-- The blocks and slots that a handle table, a zone map and free slots call for.
use Rattle.std.specs.Prelude.{ℕ, Bool, false, ◌+◌, ◌==◌, if◌then◌else◌, List, [], ◌∷◌, map, slice_index, Option, Some, None}
use Rattle.mac_base.specs.declared.block.Entry.{Entry}
use Rattle.mac_base.specs.declared.block.Flags.{Flags}
use Rattle.mac_base.specs.declared.block.HeadKind.{HeadKind}
use Rattle.mac_base.specs.declared.block.HeadKind.TheVariants.{Bits24, Bits32}
use Rattle.mac_base.specs.declared.block.Kind.{Kind}
use Rattle.mac_base.specs.declared.block.Kind.TheVariants as kind
use Rattle.mac_base.specs.HeadKind.{Shape, head_size, slot_count}
use Rattle.mac_base.specs.ZoneMap.{ZoneMap, address_after, contents_of}
use Rattle.mac_base.specs.HandleTable.{Live, EmptyHandle, FullHandle, Pointer, live_at, no_flags, bytes_of, flags_of, is_lent}
use Rattle.mac_base.specs.Heap.{front_slot}
use Rattle.mac_base.specs.Suits.{slots_from}
use Rattle.mac_base.specs.ZoneState.{ZoneState}
use Rattle.zone_records.specs.declared.slot.Slot.{Slot}
use Rattle.zone_records.specs.declared.slot.Slot.TheVariants as slot
use Rattle.zone_records.specs.Records.{Content, BlockRecord, ZoneRecords, Free, Fixed, Master, Relocatable}

-- of a handle's flags, those that its slot says: all, or none where its block's header says them
abbrev pub slot_flags : HeadKind → Flags → Flags
slot_flags Bits24 flags = flags
slot_flags Bits32 flags = no_flags

-- those that its block's header says
abbrev pub header_flags : HeadKind → Flags → Flags
header_flags Bits24 flags = no_flags
header_flags Bits32 flags = flags

-- what is written for the owners of blocks: what each slot says, the flags in the header of each handle's block, the
-- bytes of each handle and pointer, and whether these are lent
pub record Owners : Type 0 where
  pub slot : ℕ → Slot
  pub flags : ℕ → Flags
  pub bytes : ℕ → List ℕ
  pub lent : ℕ → Bool

-- the free slot after x in the order in which they are given, and 0 after the last
abbrev pub next_free : List ℕ → ℕ → ℕ
next_free [] x = 0
next_free (y ∷ ys) x = if y == x then slice_index ys 0 else next_free ys x

-- what the slot of x says, where its block's contents begin at an address and another free slot follows
abbrev pub slot_of_live : HeadKind → Option Live → ℕ → ℕ → Slot
slot_of_live heads None contents next = slot.Free next
slot_of_live heads (Some EmptyHandle) contents next = slot.Empty
slot_of_live heads (Some (FullHandle flags bytes)) contents next = slot.Full (slot_flags heads flags) contents
slot_of_live heads (Some (Pointer bytes)) contents next = slot.Empty

-- what the slot of x says of it in a zone
abbrev pub slot_of : ZoneState → ℕ → Slot
slot_of z x = slot_of_live z.shape.heads (live_at z.heap.table x) (contents_of z.shape x z.heap.map) (next_free z.heap.free_slots x)

-- what is written in a zone
abbrev pub owners_of : ZoneState → Owners
owners_of z = record { slot = slot_of z; flags = λ h. header_flags z.shape.heads (flags_of z.heap.table h); bytes = bytes_of z.heap.table; lent = is_lent z.heap.table }

-- the slots of a master block whose contents begin at an address
abbrev pub slots_at : Owners → ℕ → List Slot
slots_at o at = map o.slot (slots_from slot_count at)

-- what is in a block of a kind whose contents begin at an address
abbrev pub content_of : Owners → ℕ → Kind → Content
content_of o at kind.Free = Free
content_of o at kind.Master = Master (slots_at o at)
content_of o at (kind.Ptr p) = Fixed (o.bytes p)
content_of o at (kind.Rel h) = Relocatable h (o.flags h) (o.bytes h)

-- whether a block of a kind is lent
abbrev pub lent_of : Owners → Kind → Bool
lent_of o kind.Free = false
lent_of o kind.Master = false
lent_of o (kind.Ptr p) = o.lent p
lent_of o (kind.Rel h) = o.lent h

-- the block of an entry whose header is at an address
abbrev pub record_of : Owners → Shape → ℕ → Entry → BlockRecord
record_of o s at e = record { size = e.size; content = content_of o (at + head_size s.heads) e.kind; lent = lent_of o e.kind }

-- the blocks of a zone map, the first at an address
abbrev pub records_from : Owners → Shape → ℕ → ZoneMap → List BlockRecord
records_from o s at [] = []
records_from o s at (e ∷ es) = record_of o s at e ∷ records_from o s (at + e.size) es

-- the blocks of a zone
abbrev pub records_of : ZoneState → ZoneRecords
records_of z = record { memory = z.memory; shape = z.shape; front = front_slot z.heap; blocks = records_from (owners_of z) z.shape (address_after z.shape []) z.heap.map }

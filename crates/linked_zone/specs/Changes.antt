-- What each change makes of a zone.
use Rattle.std.specs.Prelude.{ℕ, ◌+◌, ◌-◌, if◌then◌else◌, [], ◌∷◌, ◌++◌, map, drop}
use Rattle.mac_base.specs.declared.block.Entry.{Entry}
use Rattle.mac_base.specs.declared.block.Flags.{Flags}
use Rattle.mac_base.specs.declared.block.Kind.TheVariants.{Free, Master, Ptr, Rel}
use Rattle.mac_base.specs.HeadKind.{zone_header, head_size, slot_count}
use Rattle.mac_base.specs.ZoneMap.{ZoneMap, block, free_block, is_named, total_size}
use Rattle.mac_base.specs.ZoneSizes.{ZoneSizes, shape_of}
use Rattle.mac_base.specs.HandleTable.{HandleTable, EmptyHandle, FullHandle, Pointer, new_table, no_flags, zeros, bytes_of, resized, with_live, with_bytes, with_flags, without, emptied}
use Rattle.mac_base.specs.Suits.{slots_from}
use Rattle.mac_base.specs.ZoneState.{Memory, ZoneState, with_heap}
use Rattle.linked_zone.specs.Places.{FreeAt, FreePair, CanHold, CanGrow, MovablePair, ParcelAt, ParcelUpTo}

-- the zone with another map
abbrev pub with_map : ZoneMap → ZoneState → ZoneState
with_map m z = record z { heap = record { table = z.heap.table; map = m; free_slots = z.heap.free_slots } }

-- the zone grown to its limit: the bytes up to there are a free block after the others
abbrev pub extended : ZoneState → ZoneState
extended z = with_map (z.heap.map ++ free_block (z.shape.limit - (zone_header + total_size z.heap.map))) z

-- a new zone without a slot: one free block
abbrev pub bare_zone : Memory → ZoneSizes → ZoneState
bare_zone memory sizes = record { memory = memory; shape = shape_of sizes; heap = record { table = new_table; map = block Free (sizes.size - zone_header) ∷ []; free_slots = [] } }

-- the free slot h, which is the next to be given, is an empty handle
abbrev pub taken : ℕ → ZoneState → ZoneState
taken h z = with_heap (record { table = with_live h EmptyHandle z.heap.table; map = z.heap.map; free_slots = drop 1 z.heap.free_slots }) z

-- the handle h isn't live, and its slot is the next to be given
abbrev pub given_back : ℕ → ZoneState → ZoneState
given_back h z = with_heap (record { table = without h z.heap.table; map = z.heap.map; free_slots = h ∷ z.heap.free_slots }) z

-- the handle h has n bytes of zero in a block that was free
abbrev pub pointed : ℕ → ℕ → {at : ℕ} → (z : ZoneState) → FreeAt z at → ZoneState
pointed h n z free = with_heap (record {
  table = with_live h (FullHandle no_flags (zeros n)) z.heap.table;
  map = free.before ++ block (Rel h) free.size ∷ free.after;
  free_slots = z.heap.free_slots;
}) z

-- the blocks, with the one that x names free
abbrev pub freed : ℕ → ZoneMap → ZoneMap
freed x m = map (λ (e : Entry). if is_named x e.kind then block Free e.size else e) m

-- the handle h is empty, and its block free
abbrev pub without_block : ℕ → ZoneState → ZoneState
without_block h z = with_heap (record { table = emptied h z.heap.table; map = freed h z.heap.map; free_slots = z.heap.free_slots }) z

-- a free block is two, the first of so many bytes
abbrev pub cut_in_two : ℕ → {at : ℕ} → (z : ZoneState) → FreeAt z at → ZoneState
cut_in_two size z free = with_map (free.before ++ block Free size ∷ block Free (free.size - size) ∷ free.after) z

-- two free neighbours are one block
abbrev pub joined_pair : {at : ℕ} → (z : ZoneState) → FreePair z at → ZoneState
joined_pair z pair = with_map (pair.before ++ block Free (pair.first + pair.second) ∷ pair.after) z

-- a free block is a master block, whose slots are the next to be given, in order of address
abbrev pub with_master : {at : ℕ} → (z : ZoneState) → FreeAt z at → ZoneState
with_master {at = at} z free = with_heap (record {
  table = z.heap.table;
  map = free.before ++ block Master free.size ∷ free.after;
  free_slots = slots_from slot_count (at + head_size z.shape.heads) ++ z.heap.free_slots;
}) z

-- the handle h has these flags
abbrev pub flagged : ℕ → Flags → ZoneState → ZoneState
flagged h flags z = with_heap (record { table = with_flags h flags z.heap.table; map = z.heap.map; free_slots = z.heap.free_slots }) z

-- a free block is that of a new pointer with n bytes of zero, whose number is where they begin
abbrev pub fixed : ℕ → {at : ℕ} → (z : ZoneState) → FreeAt z at → ZoneState
fixed n {at = at} z free = let p = at + head_size z.shape.heads in with_heap (record {
  table = with_live p (Pointer (zeros n)) z.heap.table;
  map = free.before ++ block (Ptr p) free.size ∷ free.after;
  free_slots = z.heap.free_slots;
}) z

-- the pointer p isn't live, and its block is free
abbrev pub unfixed : ℕ → ZoneState → ZoneState
unfixed p z = with_heap (record { table = without p z.heap.table; map = freed p z.heap.map; free_slots = z.heap.free_slots }) z

-- the table in which x has n bytes: those that it had, as far as they go, and zeros after them
abbrev pub sized : ℕ → ℕ → HandleTable → HandleTable
sized x n t = with_bytes x (resized n (bytes_of t x)) t

-- the block of x has so many of its bytes, n of them contents, and the others are free
abbrev pub held_there : {x size n : ℕ} → (z : ZoneState) → CanHold z x size n → ZoneState
held_there {x = x} {size = size} {n = n} z can = with_heap (record {
  table = sized x n z.heap.table;
  map = can.before ++ block can.here.kind size ∷ free_block (can.here.size - size) ++ can.after;
  free_slots = z.heap.free_slots;
}) z

-- the block of x has so many of its bytes and of those right after it, n of them contents, and the others are free
abbrev pub enlarged : {x size n : ℕ} → (z : ZoneState) → CanGrow z x size n → ZoneState
enlarged {x = x} {size = size} {n = n} z can = with_heap (record {
  table = sized x n z.heap.table;
  map = can.before ++ block can.here.kind size ∷ free_block (can.here.size + can.free - size) ++ can.after;
  free_slots = z.heap.free_slots;
}) z

-- two neighbours have changed places; every handle and pointer has the same bytes
abbrev pub exchanged : {at : ℕ} → (z : ZoneState) → MovablePair z at → ZoneState
exchanged z pair = with_map (pair.before ++ pair.second ∷ pair.first ∷ pair.after) z

-- the zone with the block after the run
abbrev pub carried_up : {start end : ℕ} → (z : ZoneState) → ParcelAt z start end → ZoneState
carried_up z parcel = with_map (parcel.before ++ (parcel.blocks ++ parcel.here ∷ parcel.after)) z

-- the zone with the block before the run
abbrev pub sunk : {start at : ℕ} → (z : ZoneState) → ParcelUpTo z start at → ZoneState
sunk z parcel = with_map (parcel.before ++ (parcel.here ∷ parcel.blocks ++ parcel.after)) z

-- the block of the handle h is the free one, with n bytes, and its old block is free
abbrev pub relocated : ℕ → ℕ → {at : ℕ} → (z : ZoneState) → FreeAt z at → ZoneState
relocated h n z free = with_heap (record {
  table = sized h n z.heap.table;
  map = freed h free.before ++ block (Rel h) free.size ∷ freed h free.after;
  free_slots = z.heap.free_slots;
}) z

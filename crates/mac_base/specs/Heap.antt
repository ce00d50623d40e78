-- The heap of a program: its handle table, its zone map, and the free slots in the order in which they will be used.
use Rattle.std.specs.List.{list_all}
use Rattle.std.specs.Prelude.{Bool, true, false, ℕ, ◌+◌, ◌-◌, List, [], ◌∷◌, ◌++◌, drop, fold, slice_index}
use Rattle.mac_base.specs.declared.block.Kind.TheVariants.{Free, Master}
use Rattle.mac_base.specs.HeadKind.{Shape, need, zone_header, slot_count, master_length}
use Rattle.mac_base.specs.ZoneMap.{ZoneMap, block, released, at_limit}
use Rattle.mac_base.specs.HandleTable.{HandleTable, new_table, is_handle, FullHandle, Pointer, EmptyHandle, with_live, with_bytes, bytes_of, resized, zeros, no_flags, emptied}
use Rattle.mac_base.specs.Suits.{slots_from, slots}
use Rattle.mac_base.specs.declared.request.Request.{Request}
use Rattle.mac_base.specs.declared.request.Request.TheVariants.{NewBlock, NewEmpty, NewPointer, NewMaster, Reserve, Resize, Replace}
use Rattle.mac_base.specs.Request.{candidates_in}

-- a handle table, the zone map that places it, and the slots that aren't live, in the order in which they are given
pub record Heap : Type 0 where
  pub table : HandleTable
  pub map : ZoneMap
  pub free_slots : List ℕ

-- the map of a new zone of so many bytes: a master block, and the rest free
abbrev pub new_map : Shape → ℕ → ZoneMap
new_map s size = let master = need s.heads master_length in block Master master ∷ block Free (size - (zone_header + master)) ∷ []

-- the heap of a new zone of so many bytes: nothing is live, and the slots are given in order of address
abbrev pub new_heap : Shape → ℕ → Heap
new_heap s size = record { table = new_table; map = new_map s size; free_slots = slots s (new_map s size) }

-- the slot that the next new handle takes
abbrev pub front_slot : Heap → ℕ
front_slot heap = slice_index heap.free_slots 0

-- the heap once the handle h is empty, and its block free
abbrev pub with_emptied : Heap → ℕ → Heap
with_emptied heap h = record heap { table = emptied h heap.table; map = released h heap.map }

-- the same of each of these handles
abbrev pub with_all_emptied : List ℕ → Heap → Heap
with_all_emptied hs heap = fold with_emptied heap hs

-- the heap with another table
abbrev pub with_table : HandleTable → Heap → Heap
with_table t heap = record heap { table = t }

-- the heap with another map
abbrev pub with_map : ZoneMap → Heap → Heap
with_map m heap = record heap { map = m }

-- the heap with its zone grown to the limit
abbrev pub grown : Shape → Heap → Heap
grown s heap = with_map (at_limit s heap.map) heap

-- the heap in which all handles that may be purged are empty
abbrev pub all_purged : Heap → Heap
all_purged heap = with_all_emptied (candidates_in heap.table [] heap.map) heap

-- whether a list has no number
abbrev pub has_none : List ℕ → Bool
has_none [] = true
has_none (x ∷ xs) = false

-- whether every slot of the zone is live
abbrev pub every_slot_live : Shape → Heap → Bool
every_slot_live s heap = list_all (is_handle heap.table) (slots s heap.map)

-- the table once a request is served, and has given the number x
abbrev pub table_granted : Request → ℕ → HandleTable → HandleTable
table_granted (NewBlock n) x t = with_live x (FullHandle no_flags (zeros n)) t
table_granted NewEmpty x t = with_live x EmptyHandle t
table_granted (NewPointer n) x t = with_live x (Pointer (zeros n)) t
table_granted NewMaster x t = t
table_granted (Reserve n) x t = t
table_granted (Resize y n) x t = with_bytes y (resized n (bytes_of t y)) t
table_granted (Replace h n) x t = with_live h (FullHandle no_flags (zeros n)) t

-- the free slots then: a new handle has taken the front one, a new master block has put its own in front
abbrev pub slots_granted : Request → ℕ → List ℕ → List ℕ
slots_granted (NewBlock n) x slots = drop 1 slots
slots_granted NewEmpty x slots = drop 1 slots
slots_granted NewMaster x slots = slots_from slot_count x ++ slots
slots_granted _ x slots = slots

-- the heap once a request is served
abbrev pub granted : Request → ℕ → ZoneMap → Heap → Heap
granted r x m heap = record { table = table_granted r x heap.table; map = m; free_slots = slots_granted r x heap.free_slots }

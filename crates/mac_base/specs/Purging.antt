-- Purging: handles that may be purged become empty, in order of address, until it is enough.
use Rattle.std.specs.Prelude.{ℕ, nat_le, List, []}
use Rattle.mac_base.specs.declared.request.Request.{Request}
use Rattle.mac_base.specs.HeadKind.{Shape}
use Rattle.mac_base.specs.ZoneMap.{ZoneMap, largest_free}
use Rattle.mac_base.specs.Request.{fits, candidates, candidates_in, purged_until}
use Rattle.mac_base.specs.Heap.{Heap, with_all_emptied}

-- the heap once as few candidates as serve the request are empty, and all where none do
abbrev pub purged : Shape → List ℕ → Request → Heap → Heap
purged s protected r heap = with_all_emptied (purged_until (fits s heap.table r) (candidates heap.table protected r heap.map) heap.map) heap

-- the heap once as few candidates as leave n free bytes in one block are empty, and all where none do
abbrev pub purged_for : ℕ → Heap → Heap
purged_for n heap = with_all_emptied (purged_until (λ (m : ZoneMap). nat_le n (largest_free m)) (candidates_in heap.table [] heap.map) heap.map) heap

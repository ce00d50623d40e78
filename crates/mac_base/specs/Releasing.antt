-- The calls that release a block, and what each makes of the heap.
use Rattle.std.specs.Prelude.{ℕ, ◌∷◌}
use Rattle.mac_base.specs.declared.releasing.ReleasingCall.{ReleasingCall}
use Rattle.mac_base.specs.declared.releasing.ReleasingCall.TheVariants.{DisposesHandle, DisposesPtr, Empties}
use Rattle.mac_base.specs.ZoneMap.{released}
use Rattle.mac_base.specs.HandleTable.{without}
use Rattle.mac_base.specs.Heap.{Heap, with_emptied}

-- the operand of such a call
abbrev pub operand_of : ReleasingCall → ℕ
operand_of (DisposesHandle h) = h
operand_of (DisposesPtr p) = p
operand_of (Empties h) = h

-- the heap once such a call is done
abbrev pub heap_released : ReleasingCall → Heap → Heap
heap_released (DisposesHandle h) heap = record { table = without h heap.table; map = released h heap.map; free_slots = h ∷ heap.free_slots }
heap_released (DisposesPtr p) heap = record heap { table = without p heap.table; map = released p heap.map }
heap_released (Empties h) heap = with_emptied heap h

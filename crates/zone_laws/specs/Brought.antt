-- A copy from a pointer is what a call makes of the pointer's bytes that brings them from outside the zone.
use Rattle.std.specs.Prelude.{◌≡◌, ◌≤◌, ◌==◌, ℕ, Bool, not, IsTrue, List, take, None}
use Rattle.std.specs.List.{list_all}
use Rattle.mac_base.specs.HandleTable.{bytes_of}
use Rattle.mac_base.specs.HeadKind.{Shape, max_size}
use Rattle.mac_base.specs.Heap.{Heap}
use Rattle.mac_base.specs.Releasing.{operand_of}
use Rattle.mac_base.specs.Sound.{Sound}
use Rattle.mac_base.specs.declared.releasing.ReleasingCall.{ReleasingCall}
use Rattle.mac_base.specs.declared.memory_call.MemoryCall.{MemoryCall}
use Rattle.mac_base.specs.declared.memory_call.MemoryCall.TheVariants.{Filling}
use Rattle.mac_base.specs.declared.memory_call.FillingCall.TheVariants.{Append, NewHandleOf, PtrAndHand, PtrToHand, PtrToXHand, SetHandleTo}
use Rattle.mac_base.specs.ExactStep.{exact_step}
use Rattle.mac_base.specs.GrowZone.{Answer}
use Rattle.mac_base.specs.Tests.{refusal}

-- whether no call of these answers is on x
abbrev pub leave_alone : ℕ → List Answer → Bool
leave_alone x answers = list_all (λ (a : Answer). list_all (λ (c : ReleasingCall). not (operand_of c == x)) a.calls) answers

-- the one call, unless it is refused, does what the other does
abbrev pub DoesAs : Shape → List Answer → Heap → MemoryCall → MemoryCall → Type 0
DoesAs s answers heap call other = refusal s heap call ≡ None → exact_step s answers heap call ≡ exact_step s answers heap other

-- A copy of the first n bytes of p, that isn't refused, does what the call does that brings these bytes, where no
-- answer would release p.
abbrev pub CopiesAreBrought : Type 0
CopiesAreBrought = (s : Shape) (answers : List Answer) (heap : Heap) (p h n : ℕ) → Sound s heap → n ≤ max_size → IsTrue (leave_alone p answers)
    → (let bytes = take n (bytes_of heap.table p) in DoesAs s answers heap (Filling (PtrToHand p n)) (Filling (NewHandleOf bytes))
    × DoesAs s answers heap (Filling (PtrToXHand p h n)) (Filling (SetHandleTo h bytes)) × DoesAs s answers heap (Filling (PtrAndHand p h n)) (Filling (Append h bytes)))

-- The handles that a call purges, one after another: each could as well be emptied by EmptyHandle before the call.
use Rattle.std.specs.Prelude.{◌≡◌, ℕ, ◌==◌, Bool, true, false, ◌&&◌, List, [], ◌∷◌, Option, Some, None, Ok, IsTrue, IsFalse}
use Rattle.mac_base.specs.declared.error.OsErr.{OsErr}
use Rattle.mac_base.specs.declared.request.Request.{Request}
use Rattle.mac_base.specs.declared.request.Request.TheVariants.{NewMaster}
use Rattle.mac_base.specs.declared.memory_call.MemoryCall.{MemoryCall}
use Rattle.mac_base.specs.declared.memory_call.MemoryCall.TheVariants.{OnBlock, OnZone}
use Rattle.mac_base.specs.declared.memory_call.BlockCall.TheVariants.{DisposeHandle, DisposePtr, EmptyHandle}
use Rattle.mac_base.specs.declared.memory_call.ZoneCall.TheVariants.{PurgeMem, MaxMem}
use Rattle.mac_base.specs.declared.reply.Results.TheVariants.{Nothing}
use Rattle.mac_base.specs.Attempt.{attempted}
use Rattle.mac_base.specs.Effect.{request_of}
use Rattle.mac_base.specs.ExactStep.{exact_step, heap_after}
use Rattle.mac_base.specs.GrowZone.{Answer}
use Rattle.mac_base.specs.HandleTable.{has_block}
use Rattle.mac_base.specs.HeadKind.{Shape}
use Rattle.mac_base.specs.Heap.{Heap, has_none}
use Rattle.mac_base.specs.Loans.{LoansAreFixed}
use Rattle.mac_base.specs.Request.{makes_handle}
use Rattle.mac_base.specs.Sound.{Sound}
use Rattle.mac_base.specs.Tests.{protected_by, refusal}
use Rattle.zone_heap.specs.NextPurge.{BeforePurge, before_purge, next_of_all, next_to}

-- before a call that purges nothing
abbrev pub none_before : Heap → BeforePurge
none_before heap = record { heap = heap; next = None }

-- Before a request purges that comes after one for a master block: if that one purges, before it does. Where no master
-- block can be made there is no such request.
abbrev pub before_after : Shape → List ℕ → Request → BeforePurge → Option ℕ → Option (ℕ × Heap) → BeforePurge
before_after s protected r master (Some h) made = master
before_after s protected r master None None = master
before_after s protected r master None (Some made) = before_purge s protected r made.1

-- before the request of a call purges, after one for a master block or not
abbrev pub before_request : Shape → List ℕ → Request → Heap → Bool → BeforePurge
before_request s protected r heap false = before_purge s protected r heap
before_request s protected r heap true =
    let master = before_purge s protected NewMaster heap in before_after s protected r master master.next (attempted s NewMaster master.heap)

-- before a call purges that makes no request
abbrev pub before_quiet : MemoryCall → Heap → BeforePurge
before_quiet (OnZone (PurgeMem n)) heap = record { heap = heap; next = next_to n heap }
before_quiet (OnZone MaxMem) heap = record { heap = heap; next = next_of_all heap }
before_quiet call heap = none_before heap

-- before a call that isn't refused purges, by its request, if it makes one
abbrev pub before_asking : Shape → Heap → MemoryCall → Option Request → BeforePurge
before_asking s heap call (Some r) = before_request s (protected_by call) r heap (makes_handle r && has_none heap.free_slots)
before_asking s heap call None = before_quiet call heap

-- before a call purges, by its refusal, if it is refused
abbrev pub before_unless : Shape → Heap → MemoryCall → Option OsErr → BeforePurge
before_unless s heap call (Some code) = none_before heap
before_unless s heap call None = before_asking s heap call (request_of heap.table call)

-- The heap just before a call purges, and the handle that it purges first. Up to there the zone has grown to its limit
-- where the call's request doesn't fit, and has a new master block where the call lacked a slot.
abbrev pub before_call : Shape → Heap → MemoryCall → BeforePurge
before_call s heap call = before_unless s heap call (refusal s heap call)

-- Before each purge these handles are emptied by EmptyHandle, in this order, and then the call purges none: this is the
-- heap just before it would.
abbrev pub PurgesInTurn : Shape → MemoryCall → Heap → List ℕ → Heap → Type 0
PurgesInTurn s call heap [] last = let before = before_call s heap call in (before.next ≡ None) × (last ≡ before.heap)
PurgesInTurn s call heap (h ∷ hs) last =
    let before = before_call s heap call in
    (before.next ≡ Some h) × PurgesInTurn s call (heap_after s before.heap (OnBlock (EmptyHandle h) ∷ [])) hs last

-- ---- laws

-- The call made just before it purges does what it does made before.
abbrev pub ReadyIsExact : Type 0
ReadyIsExact = (s : Shape) (answers : List Answer) (heap : Heap) (call : MemoryCall) → Sound s heap
    → exact_step s answers (before_call s heap call).heap call ≡ exact_step s answers heap call

-- The handle that it purges first can be emptied, and the call made after that does what it does made before.
abbrev pub EmptiedIsExact : Type 0
EmptiedIsExact = (s : Shape) (answers : List Answer) (heap : Heap) (call : MemoryCall) (h : ℕ) → Sound s heap → LoansAreFixed heap
    → (let before = before_call s heap call in before.next ≡ Some h → (let emptied = exact_step s [] before.heap (OnBlock (EmptyHandle h)) in
    (emptied.outcome ≡ Ok Nothing) × (exact_step s answers emptied.heap call ≡ exact_step s answers heap call)))

-- Made after all of them are emptied in turn, it does what it does made before.
abbrev pub InTurnIsExact : Type 0
InTurnIsExact = (s : Shape) (answers : List Answer) (heap : Heap) (call : MemoryCall) (hs : List ℕ) (last : Heap) → Sound s heap → LoansAreFixed heap
    → PurgesInTurn s call heap hs last → exact_step s answers last call ≡ exact_step s answers heap call

-- whether the call frees the block of its operand x
abbrev pub frees : MemoryCall → ℕ → Bool
frees (OnBlock (DisposeHandle h)) x = h == x
frees (OnBlock (DisposePtr p)) x = p == x
frees (OnBlock (EmptyHandle h)) x = h == x
frees _ x = false

-- Where there is none, and no procedure answers, the call purges nothing: what had a block has it still, unless the call
-- is to free it.
abbrev pub NoneIsPurged : Type 0
NoneIsPurged = (s : Shape) (heap : Heap) (call : MemoryCall) (x : ℕ) → Sound s heap → (before_call s heap call).next ≡ None
    → IsTrue (has_block heap.table x) → IsFalse (frees call x) → IsTrue (has_block (exact_step s [] heap call).heap.table x)

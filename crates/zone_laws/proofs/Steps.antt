-- The steps of calls that are refused, and of some that make no request.
use Rattle.std.proofs.Common.{◌≡◌, ℕ, List, [], take, drop, Some, None, Ok, Err, refl, sym, subst}
use Rattle.mac_base.specs.declared.error.OsErr.{OsErr}
use Rattle.mac_base.specs.HeadKind.{Shape}
use Rattle.mac_base.specs.HandleTable.{bytes_of, with_bytes}
use Rattle.mac_base.specs.Heap.{Heap, with_table}
use Rattle.mac_base.specs.Trial.{SameHeap}
use Rattle.mac_base.specs.declared.memory_call.MemoryCall.{MemoryCall}
use Rattle.mac_base.specs.declared.memory_call.MemoryCall.TheVariants.{OnBlock, Showing}
use Rattle.mac_base.specs.declared.memory_call.BlockCall.TheVariants.{Poke}
use Rattle.mac_base.specs.declared.memory_call.ShowingCall.TheVariants.{Peek}
use Rattle.mac_base.specs.Tests.{refusal}
use Rattle.mac_base.specs.Effect.{request_of}
use Rattle.mac_base.specs.ZoneState.{written}
use Rattle.mac_base.specs.declared.reply.Results.TheVariants.{Nothing, Bytes}
use Rattle.mac_base.specs.Outcomes.{Outcome}
use Rattle.mac_base.specs.MemoryStep.{RunRelation, StepBy, StepUnless, StepAsking, QuietStep}

-- a heap is the same as itself
pub same_heap : (heap : Heap) → SameHeap heap heap
same_heap heap = record { table = refl; map = refl }

module _ (Run : RunRelation) where
  -- a call that is refused leaves the heap as it was
  pub step-refused : (s : Shape) (heap : Heap) (call : MemoryCall) (code : OsErr) → refusal s heap call ≡ Some code → StepBy Run s heap call [] (Err code) heap
  step-refused s heap call code is = subst (λ o. StepUnless Run o s heap call [] (Err code) heap) (sym is) (refl, refl, same_heap heap)

  -- a call that makes no request does what a quiet step may
  pub step-quiet : (s : Shape) (heap : Heap) (call : MemoryCall) (outcome : Outcome) (new : Heap) → refusal s heap call ≡ None → request_of heap.table call ≡ None → QuietStep s heap call outcome new
      → StepBy Run s heap call [] outcome new
  step-quiet s heap call outcome new is none quiet = subst (λ o. StepUnless Run o s heap call [] outcome new) (sym is) (subst (λ r. StepAsking Run r s heap call [] outcome new) (sym none) (refl, quiet))

  -- Poke writes the bytes
  pub step-Poke : (s : Shape) (heap : Heap) (x at : ℕ) (bytes : List ℕ) → refusal s heap (OnBlock (Poke x at bytes)) ≡ None
      → StepBy Run s heap (OnBlock (Poke x at bytes)) [] (Ok Nothing) (with_table (with_bytes x (written at bytes (bytes_of heap.table x)) heap.table) heap)
  step-Poke s heap x at bytes is = step-quiet s heap (OnBlock (Poke x at bytes)) (Ok Nothing) (with_table (with_bytes x (written at bytes (bytes_of heap.table x)) heap.table) heap) is refl (record { table = refl; map = refl }, refl)

  -- Peek gives the bytes, and changes nothing
  pub step-Peek : (s : Shape) (heap : Heap) (x at n : ℕ) → refusal s heap (Showing (Peek x at n)) ≡ None → StepBy Run s heap (Showing (Peek x at n)) [] (Ok (Bytes (take n (drop at (bytes_of heap.table x))))) heap
  step-Peek s heap x at n is = step-quiet s heap (Showing (Peek x at n)) (Ok (Bytes (take n (drop at (bytes_of heap.table x))))) heap is refl (same_heap heap, refl)

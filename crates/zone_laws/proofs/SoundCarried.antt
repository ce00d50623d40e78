-- A sound heap stays sound where an answer's calls are carried out.
use Rattle.std.proofs.Common.{◌≡◌, ℕ, true, false, cond, List, [], ◌∷◌, ◌++◌, Some, None, Option, refl}
use Rattle.mac_base.specs.declared.error.OsErr.{OsErr}
use Rattle.mac_base.specs.declared.error.OsErr.TheVariants.{MemPurErr}
use Rattle.mac_base.specs.HeadKind.{Shape}
use Rattle.mac_base.specs.Heap.{Heap}
use Rattle.mac_base.specs.Sound.{Sound}
use Rattle.mac_base.specs.Request.{is_among}
use Rattle.mac_base.specs.Tests.{IsHandle, IsPointer, NotLent, NotLocked, refusal}
use Rattle.mac_base.specs.declared.releasing.ReleasingCall.{ReleasingCall}
use Rattle.mac_base.specs.declared.releasing.ReleasingCall.TheVariants.{DisposesHandle, DisposesPtr, Empties}
use Rattle.mac_base.specs.Releasing.{operand_of, heap_released}
use Rattle.mac_base.specs.GrowZone.{Carried, memory_call, heap_unless, carried_once, carried_from, carried_out}
use Rattle.zone_laws.proofs.SoundReleased.{sound-disposed, sound-disposed_pointer, sound-emptied}
use Rattle.zone_laws.proofs.Refusals.{first_passed, passed-IsHandle, passed-IsPointer, passed-DisposeHandle}

-- a call that releases a block and isn't refused
pub sound-carried : (s : Shape) (heap : Heap) (call : ReleasingCall) → Sound s heap → refusal s heap (memory_call call) ≡ None → Sound s (heap_released call heap)
sound-carried s heap (DisposesHandle h) sound is = let facts = passed-DisposeHandle s heap h is in sound-disposed s heap h sound facts.live
sound-carried s heap (DisposesPtr p) sound is = sound-disposed_pointer s heap p sound (passed-IsPointer s heap p (first_passed s heap (IsPointer p) (NotLent p ∷ []) is).0)
sound-carried s heap (Empties h) sound is = sound-emptied s heap h sound (passed-IsHandle s heap h (first_passed s heap (IsHandle h) (NotLent h ∷ NotLocked MemPurErr h ∷ []) is).0).1

carried_one : (s : Shape) (call : ReleasingCall) (heap : Heap) (o : Option OsErr) → refusal s heap (memory_call call) ≡ o → Sound s heap → Sound s (heap_unless o (heap_released call heap) heap)
carried_one s call heap None is sound = sound-carried s heap call sound is
carried_one s call heap (Some code) is sound = sound

-- one more call of an answer
pub sound-carried_once : (s : Shape) (protected : List ℕ) (call : ReleasingCall) (c : Carried) → Sound s c.heap → Sound s (carried_once s protected call c).heap
sound-carried_once s protected call c sound =
    elim (is_among protected (operand_of call)) as (λ b. Sound s (cond b c (record { heap = heap_unless (refusal s c.heap (memory_call call)) (heap_released call c.heap) c.heap; calls = c.calls ++ (call, refusal s c.heap (memory_call call)) ∷ [] })).heap) [
      | true ↦ sound
      | false ↦ carried_one s call c.heap (refusal s c.heap (memory_call call)) refl sound
    ]

-- and more calls of an answer
pub sound-carried_from : (s : Shape) (protected : List ℕ) (calls : List ReleasingCall) (c : Carried) → Sound s c.heap → Sound s (carried_from s protected calls c).heap
sound-carried_from s protected [] c sound = sound
sound-carried_from s protected (call ∷ calls) c sound = sound-carried_from s protected calls (carried_once s protected call c) (sound-carried_once s protected call c sound)

-- all calls of an answer
pub sound-carried_out : (s : Shape) (protected : List ℕ) (calls : List ReleasingCall) (heap : Heap) → Sound s heap → Sound s (carried_out s protected calls heap).heap
sound-carried_out s protected calls heap sound = sound-carried_from s protected calls (record { heap = heap; calls = [] }) sound

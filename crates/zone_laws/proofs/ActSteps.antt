-- A step of a call: it may be made, leaves a sound heap, and says where contents are.
use Rattle.std.proofs.Common.{arith, ◌≡◌, ℕ, true, length, List, Option, Ok, ap, sym, subst, ◌∙◌}
use Rattle.mac_base.specs.declared.releasing.ReleasingCall.{ReleasingCall}
use Rattle.mac_base.specs.declared.releasing.ReleasingCall.TheVariants.{DisposesHandle, DisposesPtr, Empties}
use Rattle.mac_base.specs.declared.block.Flags.{Flags}
use Rattle.mac_base.specs.HandleTable.{FullHandle, bytes_of, is_full, is_handle, is_pointer, live_bytes, live_full, live_handle, live_pointer, with_live}
use Rattle.mac_base.specs.HeadKind.{Shape}
use Rattle.mac_base.specs.Heap.{Heap, with_table}
use Rattle.mac_base.specs.Releasing.{heap_released}
use Rattle.mac_base.specs.Sound.{Sound}
use Rattle.mac_base.specs.ZoneMap.{contents_of}
use Rattle.mac_base.specs.declared.error.OsErr.{OsErr}
use Rattle.mac_base.specs.declared.memory_call.MemoryCall.{MemoryCall}
use Rattle.mac_base.specs.declared.memory_call.MemoryCall.TheVariants.{OnBlock}
use Rattle.mac_base.specs.declared.memory_call.BlockCall.TheVariants.{Deref}
use Rattle.mac_base.specs.declared.reply.Results.{Results}
use Rattle.mac_base.specs.declared.reply.Results.TheVariants.{Address}
use Rattle.mac_base.specs.RequestRun.{RequestRun}
use Rattle.mac_base.specs.Tests.{refusal}
use Rattle.mac_base.specs.ExactStep.{IsExactStep, StepEnd}
use Rattle.mac_base.specs.GrowZone.{Ask, answers_in}
use Rattle.mac_base.specs.MemoryStep.{MemoryStep, StepUnless}
use Rattle.mac_base.specs.Outcomes.{Outcome}
use Rattle.zone_laws.proofs.SoundReleased.{sound-disposed, sound-disposed_pointer, sound-emptied}
use Rattle.zone_laws.proofs.SoundWritten.{sound-same_shape}
use Rattle.zone_laws.proofs.Tables.{by_number, full_handle, handle_no_pointer, in_order-with_live, live_at-with_live_same, with_live_agrees}
use Rattle.zone_laws.proofs.StepPermitted.{exact-permitted, sound-exact_step}
use Rattle.zone_laws.specs.Act.{HasOperand}
use Rattle.zone_laws.specs.Headline.{TellsAddress}

-- an exact step is permitted
pub step-may : (s : Shape) (old : Heap) (call : MemoryCall) (asks : List Ask) (outcome : Outcome) (new : Heap) → Sound s old → IsExactStep s old call asks outcome new → MemoryStep s old call asks outcome new
step-may s old call asks outcome new sound is = subst (λ (e : StepEnd). MemoryStep s old call e.asks e.outcome e.heap) is (exact-permitted s (answers_in asks) old call sound)

-- and leaves a sound heap
pub step-sound : (s : Shape) (old : Heap) (call : MemoryCall) (asks : List Ask) (outcome : Outcome) (new : Heap) → Sound s old → IsExactStep s old call asks outcome new → Sound s new
step-sound s old call asks outcome new sound is = subst (λ (e : StepEnd). Sound s e.heap) is (sound-exact_step s (answers_in asks) old call sound)

-- bytes and flags given to a handle that has as many bytes
pub sound-filled : (s : Shape) (heap : Heap) (h : ℕ) (flags : Flags) (bytes : List ℕ) → Sound s heap → is_full heap.table h ≡ true → length bytes ≡ length (bytes_of heap.table h) → Sound s (with_table (with_live h (FullHandle flags bytes) heap.table) heap)
sound-filled s heap h flags bytes sound full long =
    let l = FullHandle flags bytes in
    let u = with_live h l heap.table in
    let has = live_at-with_live_same h l heap.table in
    let agree = with_live_agrees h l heap.table in
    let handle = full_handle heap.table h full in
    sound-same_shape s heap u sound
    (record {
      full = by_number (λ y. is_full u y ≡ is_full heap.table y) h (ap live_full has ∙ sym full) (λ y apart. ap live_full (agree.others y apart));
      pointer = by_number (λ y. is_pointer u y ≡ is_pointer heap.table y) h (ap live_pointer has ∙ sym (handle_no_pointer heap.table h handle)) (λ y apart. ap live_pointer (agree.others y apart));
      long = by_number (λ y. length (bytes_of u y) ≡ length (bytes_of heap.table y)) h (ap (λ o. length (live_bytes o)) has ∙ long) (λ y apart. ap (λ o. length (live_bytes o)) (agree.others y apart));
    })
    (by_number (λ y. is_handle u y ≡ is_handle heap.table y) h (ap live_handle has ∙ sym handle) (λ y apart. ap live_handle (agree.others y apart)))
    (in_order-with_live h l heap.table sound.suits.coherent.in_order)

-- what is there is released
pub released-sound : (s : Shape) (heap : Heap) (call : ReleasingCall) → Sound s heap → HasOperand heap call → Sound s (heap_released call heap)
released-sound s heap (DisposesHandle h) sound may = sound-disposed s heap h sound may
released-sound s heap (DisposesPtr p) sound may = sound-disposed_pointer s heap p sound may
released-sound s heap (Empties h) sound may = sound-emptied s heap h sound may

-- Deref gives the address of the contents
address-unless : (s : Shape) (old : Heap) (h : ℕ) (r : Results) (asks : List Ask) (new : Heap) (o : Option OsErr) → StepUnless RequestRun o s old (OnBlock (Deref h)) asks (Ok r) new → r ≡ Address (contents_of s h old.map)
address-unless s old h r asks new v6 step = grind arith

pub step-address : (s : Shape) (old : Heap) (call : MemoryCall) (asks : List Ask) (outcome : Outcome) (new : Heap) → MemoryStep s old call asks outcome new → TellsAddress s old call outcome
step-address s old (OnBlock (Deref h)) asks (Ok r) new step = address-unless s old h r asks new (refusal s old (OnBlock (Deref h))) step
step-address s old call asks outcome new step = tt

-- Where there is none to purge, a call purges nothing.
use Rattle.std.proofs.Common.{◌≡◌, ℕ, ◌<◌, Bool, true, false, List, [], ◌∷◌, length, Option, Some, None, refl, ap, sym, ◌∙◌, subst, inl, inr, arith}
use Rattle.std.specs.Prelude.{◌⊎◌, ◌&&◌, ◌||◌, ◌==◌, nat_le}
use Rattle.std.specs.List.{slice_get}
use Rattle.std.specs.Option.{option_map}
use Rattle.std.proofs.lemmas.Bool.{true≢false}
use Rattle.std.proofs.lemmas.Bool.Decides.{nat_tests}
use Rattle.mac_base.specs.declared.error.OsErr.{OsErr}
use Rattle.mac_base.specs.declared.request.Request.{Request}
use Rattle.mac_base.specs.declared.request.Request.TheVariants.{NewBlock, NewEmpty, NewPointer, NewMaster, Reserve, Resize, Replace}
use Rattle.mac_base.specs.declared.releasing.ReleasingCall.{ReleasingCall}
use Rattle.mac_base.specs.declared.releasing.ReleasingCall.TheVariants.{DisposesHandle, DisposesPtr, Empties}
use Rattle.mac_base.specs.declared.memory_call.MemoryCall.{MemoryCall}
use Rattle.mac_base.specs.declared.memory_call.MemoryCall.TheVariants.{Filling, OnBlock, OnZone, Requesting, Showing}
use Rattle.mac_base.specs.declared.memory_call.BlockCall.TheVariants as block_call
use Rattle.mac_base.specs.declared.memory_call.FillingCall.TheVariants.{HandToHand, PtrToHand, PtrToXHand, PtrAndHand, NewHandleOf, SetHandleTo, Append, HandAndHand}
use Rattle.mac_base.specs.declared.memory_call.ZoneCall.TheVariants.{CompactMem, PurgeMem, MaxMem, PurgeSpace, MaxBlock, FreeMem, MaxApplZone}
use Rattle.mac_base.specs.Attempt.{attempted}
use Rattle.mac_base.specs.Effect.{effect_of, request_of, table_copied}
use Rattle.mac_base.specs.ExactRequest.{Ending, request_run}
use Rattle.mac_base.specs.ExactStep.{after_master, rearranged, request_end, request_step, step_asking, step_unless}
use Rattle.mac_base.specs.GrowZone.{Ask, carried_out, most_answers}
use Rattle.mac_base.specs.HandleTable.{EmptyHandle, FullHandle, HandleTable, Pointer, has_block, live_full, live_pointer, no_flags, zeros, resized, bytes_of}
use Rattle.mac_base.specs.HeadKind.{Shape}
use Rattle.mac_base.specs.Heap.{Heap, front_slot, granted, has_none, table_granted, with_all_emptied}
use Rattle.mac_base.specs.Releasing.{heap_released, operand_of}
use Rattle.mac_base.specs.Request.{candidates_in, makes_handle, purged_until}
use Rattle.mac_base.specs.Serve.{serve}
use Rattle.mac_base.specs.Sound.{Sound}
use Rattle.mac_base.specs.Tests.{protected_by, refusal}
use Rattle.mac_base.specs.ZoneMap.{ZoneMap, largest_free}
use Rattle.zone_laws.proofs.Emptied.{purged_until-none}
use Rattle.zone_laws.proofs.Losing.{given-keeps, released-keeps, written-keeps}
use Rattle.zone_laws.proofs.RunAnswers.{last, trial}
use Rattle.zone_laws.proofs.ServedRequests.{front_slot-not_live}
use Rattle.zone_laws.proofs.SoundServed.{sound-serve}
use Rattle.zone_laws.proofs.StepPermitted.{slot-free}
use Rattle.zone_heap.specs.NextPurge.{BeforePurge, before_purge, grown_for}
use Rattle.mem_calls.specs.Purges.{NoneIsPurged, before_after, before_asking, before_quiet, before_request, before_unless, frees}
use Rattle.mem_calls.proofs.PurgeSteps.{first-none, master-slots, prepared-none, slots-ready, sound-ready, table-ready}

-- ---- what a request that is served keeps

-- a slot that is given is not live
slot-has_none : (s : Shape) (heap : Heap) → Sound s heap → 0 < length heap.free_slots → has_block heap.table (front_slot heap) ≡ false
slot-has_none s heap sound some = ap (λ o. live_full o || live_pointer o) (front_slot-not_live s heap sound some)

granted-keeps : (s : Shape) (heap : Heap) (r : Request) (found : ℕ × ZoneMap) (x : ℕ) → Sound s heap → (makes_handle r && has_none heap.free_slots) ≡ false
    → serve s heap.table (front_slot heap) heap.map r ≡ Some found → has_block heap.table x ≡ true → has_block (table_granted r found.0 heap.table) x ≡ true
granted-keeps s heap (NewBlock n) found x sound slot serves has = given-keeps found.0 (FullHandle no_flags (zeros n)) heap.table x (λ _. refl) has
granted-keeps s heap NewEmpty found x sound slot serves has =
    let given : front_slot heap ≡ found.0 = ap (λ (o : Option (ℕ × ZoneMap)). unwrap_first o) serves in
    given-keeps found.0 EmptyHandle heap.table x
    (λ full. absurd (true≢false (sym full ∙ ap (has_block heap.table) (sym given) ∙ slot-has_none s heap sound (slot-free true heap.free_slots slot refl)))) has
  where
    unwrap_first : Option (ℕ × ZoneMap) → ℕ
    unwrap_first None = 0
    unwrap_first (Some found) = found.0
granted-keeps s heap (NewPointer n) found x sound slot serves has = given-keeps found.0 (Pointer (zeros n)) heap.table x (λ _. refl) has
granted-keeps s heap NewMaster found x sound slot serves has = has
granted-keeps s heap (Reserve n) found x sound slot serves has = has
granted-keeps s heap (Resize y n) found x sound slot serves has = written-keeps y (resized n (bytes_of heap.table y)) heap.table x has
granted-keeps s heap (Replace h n) found x sound slot serves has = given-keeps h (FullHandle no_flags (zeros n)) heap.table x (λ _. refl) has

-- so does what is copied then
copied-keeps : (call : MemoryCall) (y : ℕ) (entry t : HandleTable) (x : ℕ) → has_block t x ≡ true → has_block (table_copied call y entry t) x ≡ true
copied-keeps (Filling (HandToHand h)) y entry t x has = written-keeps _ _ t x has
copied-keeps (Filling (PtrToHand p n)) y entry t x has = written-keeps _ _ t x has
copied-keeps (Filling (PtrToXHand p h n)) y entry t x has = written-keeps _ _ t x has
copied-keeps (Filling (PtrAndHand p h n)) y entry t x has = written-keeps _ _ t x has
copied-keeps (Filling (NewHandleOf bytes)) y entry t x has = written-keeps _ _ t x has
copied-keeps (Filling (SetHandleTo h bytes)) y entry t x has = written-keeps _ _ t x has
copied-keeps (Filling (Append h bytes)) y entry t x has = written-keeps _ _ t x has
copied-keeps (Filling (HandAndHand a b)) y entry t x has = written-keeps _ _ t x has
copied-keeps (Requesting call) y entry t x has = has
copied-keeps (OnBlock call) y entry t x has = has
copied-keeps (OnZone call) y entry t x has = has
copied-keeps (Showing call) y entry t x has = has

module _ (s : Shape) (call : MemoryCall) (r : Request) (x : ℕ) where
  abbrev guarded : List ℕ
  guarded = protected_by call

  -- a run that purges none
  own-keeps : (from : Heap) (entry : HandleTable) (asks : List Ask) → Sound s from → (makes_handle r && has_none from.free_slots) ≡ false → (before_purge s guarded r from).next ≡ None
      → has_block from.table x ≡ true
      → (let e = request_run s guarded r most_answers [] from in has_block (request_end call entry asks e e.given).heap.table x ≡ true)
  own-keeps from entry asks sound slot none has =
      let here = grown_for s r from in
      let c = carried_out s guarded [] here in
      subst (λ (e : Ending). has_block (request_end call entry asks e e.given).heap.table x ≡ true)
      (sym (ap (λ mid. last s r mid (carried_out s guarded [] mid) (most_answers == 0) (trial s r mid)) (prepared-none s guarded r from sound none)))
      (elim (trial s r here) as (λ o. trial s r here ≡ o
      → (let e = last s r here c (most_answers == 0) o in has_block (request_end call entry asks e e.given).heap.table x ≡ true)) [
        | Some found ↦ λ serves. copied-keeps call found.0 entry (table_granted r found.0 here.table) x
            (granted-keeps s here r found x (sound-ready s guarded r from sound) (ap (λ xs. makes_handle r && has_none xs) (slots-ready s r from) ∙ slot) serves
            (ap (λ t. has_block t x) (table-ready s r from) ∙ has))
        | None ↦ λ _. ap (λ t. has_block t x) (table-ready s r from) ∙ has
      ] refl)

  module _ (heap : Heap) (sound : Sound s heap) (has : has_block heap.table x ≡ true) where
    abbrev master : BeforePurge
    master = before_purge s guarded NewMaster heap

    -- the heap at the end, after a request for a master block
    abbrev at_end : Ending → Heap
    at_end first = let e = after_master s guarded r first first.given in (request_end call heap.table first.asks e e.given).heap

    abbrev made : Option (ℕ × ZoneMap) → Option (ℕ × Heap)
    made o = option_map (λ (found : ℕ × ZoneMap). (found.0, granted NewMaster found.0 found.1 master.heap)) o

    master-keeps : master.next ≡ None → (before_after s guarded r master None (attempted s NewMaster master.heap)).next ≡ None
        → has_block (at_end (request_run s guarded NewMaster most_answers [] heap)).table x ≡ true
    master-keeps none later =
        let here = master.heap in
        let c = carried_out s guarded [] here in
        let table = ap (λ t. has_block t x) (table-ready s NewMaster heap) ∙ has in
        subst (λ (e : Ending). has_block (at_end e).table x ≡ true)
        (sym (ap (λ mid. last s NewMaster mid (carried_out s guarded [] mid) (most_answers == 0) (trial s NewMaster mid)) (prepared-none s guarded NewMaster heap sound none)))
        (elim (trial s NewMaster here) as (λ o. trial s NewMaster here ≡ o → (before_after s guarded r master None (made o)).next ≡ None
        → has_block (at_end (last s NewMaster here c (most_answers == 0) o)).table x ≡ true) [
          | Some found ↦ λ serves later. own-keeps (granted NewMaster found.0 found.1 here) heap.table []
              (sound-serve s NewMaster here found.0 found.1 (sound-ready s guarded NewMaster heap sound) tt serves)
              (master-slots (makes_handle r) 63 found.0 here.free_slots) later table
          | None ↦ λ _ _. table
        ] refl later)

    request-keeps : (b : Bool) → (makes_handle r && has_none heap.free_slots) ≡ b → (before_request s guarded r heap b).next ≡ None
        → has_block (request_step s [] heap call b r).heap.table x ≡ true
    request-keeps false slot none = own-keeps heap heap.table [] sound slot none has
    request-keeps true lacks none = by_next master.next refl none
      where
        by_next : (o : Option ℕ) → (before_purge s guarded NewMaster heap).next ≡ o
            → (before_after s guarded r (before_purge s guarded NewMaster heap) o (attempted s NewMaster (before_purge s guarded NewMaster heap).heap)).next ≡ None
            → has_block (request_step s [] heap call true r).heap.table x ≡ true
        by_next (Some h) is none = absurd (cc (sym is ∙ none))
        by_next None is none = master-keeps is none

-- ---- a call that makes no request

module _ (s : Shape) (heap : Heap) (x : ℕ) (has : has_block heap.table x ≡ true) where
  released-other : (call : ReleasingCall) → (operand_of call == x) ≡ false → has_block (heap_released call heap).table x ≡ true
  released-other call apart = elim (released-keeps call heap x has) [
    | inl here ↦ here
    | inr same ↦ absurd (true≢false (sym (equal (operand_of call) x same) ∙ apart))
  ]
    where
      equal : (a b : ℕ) → a ≡ b → (a == b) ≡ true
      equal a b h = grind (arith, nat_tests)

  quiet-keeps : (call : MemoryCall) → frees call x ≡ false → (before_quiet call heap).next ≡ None → has_block (effect_of s call (rearranged call heap)).table x ≡ true
  quiet-keeps (OnBlock (block_call.DisposeHandle h)) apart none = released-other (DisposesHandle h) apart
  quiet-keeps (OnBlock (block_call.DisposePtr p)) apart none = released-other (DisposesPtr p) apart
  quiet-keeps (OnBlock (block_call.EmptyHandle h)) apart none = released-other (Empties h) apart
  quiet-keeps (OnBlock (block_call.HLock h)) apart none = given-keeps h _ heap.table x (λ _. refl) has
  quiet-keeps (OnBlock (block_call.HLockHi h)) apart none = given-keeps h _ heap.table x (λ _. refl) has
  quiet-keeps (OnBlock (block_call.HUnlock h)) apart none = given-keeps h _ heap.table x (λ _. refl) has
  quiet-keeps (OnBlock (block_call.HPurge h)) apart none = given-keeps h _ heap.table x (λ _. refl) has
  quiet-keeps (OnBlock (block_call.HNoPurge h)) apart none = given-keeps h _ heap.table x (λ _. refl) has
  quiet-keeps (OnBlock (block_call.HSetRBit h)) apart none = given-keeps h _ heap.table x (λ _. refl) has
  quiet-keeps (OnBlock (block_call.HClrRBit h)) apart none = given-keeps h _ heap.table x (λ _. refl) has
  quiet-keeps (OnBlock (block_call.HSetState h n)) apart none = given-keeps h _ heap.table x (λ _. refl) has
  quiet-keeps (OnBlock (block_call.Poke y at bytes)) apart none = written-keeps y _ heap.table x has
  quiet-keeps (OnBlock (block_call.BlockMove y at z to n)) apart none = written-keeps z _ heap.table x has
  quiet-keeps (OnBlock (block_call.GetHandleSize h)) apart none = has
  quiet-keeps (OnBlock (block_call.GetPtrSize p)) apart none = has
  quiet-keeps (OnBlock (block_call.HGetState h)) apart none = has
  quiet-keeps (OnBlock (block_call.MoveHHi h)) apart none = has
  quiet-keeps (OnBlock (block_call.Deref h)) apart none = has
  quiet-keeps (OnBlock (block_call.RecoverHandle a)) apart none = has
  quiet-keeps (OnZone (PurgeMem n)) apart none = by_none (first-none (nat_le n (largest_free heap.map)) (candidates_in heap.table [] heap.map) none)
    where
      by_none : (nat_le n (largest_free heap.map) ≡ true) ⊎ (candidates_in heap.table [] heap.map ≡ []) → has_block (rearranged (OnZone (PurgeMem n)) heap).table x ≡ true
      by_none (inl enough) = subst (λ hs. has_block (with_all_emptied hs heap).table x ≡ true)
          (sym (purged_until-none (λ (m : ZoneMap). nat_le n (largest_free m)) (candidates_in heap.table [] heap.map) heap.map enough)) has
      by_none (inr empty) = subst (λ hs. has_block (with_all_emptied (purged_until (λ (m : ZoneMap). nat_le n (largest_free m)) hs heap.map) heap).table x ≡ true) (sym empty) has
  quiet-keeps (OnZone MaxMem) apart none = subst (λ hs. has_block (with_all_emptied hs heap).table x ≡ true) (sym (no_first (candidates_in heap.table [] heap.map) none)) has
    where
      no_first : (hs : List ℕ) → slice_get hs 0 ≡ None → hs ≡ []
      no_first [] is = refl
      no_first (h ∷ hs) is = absurd (cc is)
  quiet-keeps (OnZone (CompactMem n)) apart none = has
  quiet-keeps (OnZone PurgeSpace) apart none = has
  quiet-keeps (OnZone MaxBlock) apart none = has
  quiet-keeps (OnZone FreeMem) apart none = has
  quiet-keeps (OnZone MaxApplZone) apart none = has
  quiet-keeps (Showing call) apart none = has
  quiet-keeps (Requesting call) apart none = has
  quiet-keeps (Filling call) apart none = has

-- ---- any call

module _ (s : Shape) (heap : Heap) (call : MemoryCall) (x : ℕ) (sound : Sound s heap) (has : has_block heap.table x ≡ true) (apart : frees call x ≡ false) where
  asking-keeps : (o : Option Request) → (before_asking s heap call o).next ≡ None → has_block (step_asking s [] heap call o).heap.table x ≡ true
  asking-keeps (Some r) none = request-keeps s call r x heap sound has (makes_handle r && has_none heap.free_slots) refl none
  asking-keeps None none = quiet-keeps s heap x has call apart none

  unless-keeps : (o : Option OsErr) → (before_unless s heap call o).next ≡ None → has_block (step_unless s [] heap call o).heap.table x ≡ true
  unless-keeps (Some code) none = has
  unless-keeps None none = asking-keeps (request_of heap.table call) none

pub none_is_purged : NoneIsPurged
none_is_purged s heap call x sound none has apart = unless-keeps s heap call x sound has apart (refusal s heap call) none

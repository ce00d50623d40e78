-- Calls on heaps in a cipher end as they do, in the cipher.
use Rattle.std.proofs.Common.{◌≡◌, ℕ, ◌+◌, ◌-◌, Bool, true, false, List, [], ◌∷◌, ◌++◌, length, take, drop, Option, Some, None, Ok, Err, refl}
use Rattle.std.specs.Prelude.{◌&&◌, map, nat_le}
use Rattle.std.proofs.lemmas.List.{length-map, map-append, take-map}
use Rattle.mac_base.specs.declared.block.Flags.{Flags}
use Rattle.mac_base.specs.declared.block.Kind.{Kind}
use Rattle.mac_base.specs.declared.block.Kind.TheVariants.{Free, Master, Ptr, Rel}
use Rattle.mac_base.specs.declared.error.OsErr.{OsErr}
use Rattle.mac_base.specs.declared.error.OsErr.TheVariants.{MemFullErr}
use Rattle.mac_base.specs.declared.releasing.ReleasingCall.TheVariants.{DisposesHandle, DisposesPtr, Empties}
use Rattle.mac_base.specs.declared.request.Request.{Request}
use Rattle.mac_base.specs.declared.request.Request.TheVariants.{NewMaster}
use Rattle.mac_base.specs.BlockReport.{block_flags, reports_from}
use Rattle.mac_base.specs.FlagState.{flags_from}
use Rattle.mac_base.specs.HandleTable.{HandleTable, bytes_of, flags_of, with_flags}
use Rattle.mac_base.specs.HeadKind.{Shape}
use Rattle.mac_base.specs.Heap.{Heap, all_purged, has_none, with_table}
use Rattle.mac_base.specs.Reports.{largest_purge_space, purge_space}
use Rattle.mac_base.specs.Request.{candidates_in, makes_handle}
use Rattle.mac_base.specs.Suits.{wanted_length}
use Rattle.mac_base.specs.ZoneMap.{ZoneMap, address_after, largest_free}
use Rattle.mac_base.specs.ZoneState.{written}
use Rattle.mac_base.specs.declared.memory_call.MemoryCall.{MemoryCall}
use Rattle.mac_base.specs.declared.memory_call.MemoryCall.TheVariants as memory_call
use Rattle.mac_base.specs.declared.memory_call.BlockCall.TheVariants as block_call
use Rattle.mac_base.specs.declared.memory_call.FillingCall.TheVariants as filling_call
use Rattle.mac_base.specs.declared.memory_call.RequestingCall.TheVariants as requesting_call
use Rattle.mac_base.specs.declared.memory_call.ShowingCall.TheVariants as showing_call
use Rattle.mac_base.specs.declared.memory_call.ZoneCall.TheVariants as zone_call
use Rattle.mac_base.specs.declared.reply.Results.TheVariants.{Nothing}
use Rattle.mac_base.specs.Effect.{effect_of, request_of, table_copied}
use Rattle.mac_base.specs.ExactRequest.{Ending, request_run}
use Rattle.mac_base.specs.ExactStep.{after_master, exact_step, heap_after, outcomes_to, quiet_outcome, quiet_step, rearranged, request_end, request_step, step_asking, step_unless}
use Rattle.mac_base.specs.GrowZone.{Answer, Ask, most_answers}
use Rattle.mac_base.specs.Outcomes.{given_results, outcome_of}
use Rattle.mac_base.specs.Tests.{protected_by, refusal, tests_of}
use Rattle.zone_laws.proofs.FixesSame.{gaps-same}
use Rattle.zone_laws.specs.Contents.{call_ciphered, end_ciphered, heap_ciphered, outcome_ciphered, table_ciphered}
use Rattle.zone_laws.proofs.Ciphered.{bytes-ciphered, chosen, fixes-ciphered, flags-ciphered, length-ciphered, purgeable-ciphered, slice-ciphered, with_bytes-ciphered, with_flags-ciphered, written-ciphered}
use Rattle.zone_laws.proofs.CipheredRuns.{all_emptied-ciphered, ending_ciphered, first_refusal-ciphered, purged_for-ciphered, released-ciphered, run-ciphered}
use Rattle.zone_laws.proofs.SameLayout.{all_down-same, candidates_in-same, compacted-same, moved_high-same}

module _ (cipher : ℕ → ℕ) where
  -- ---- a call in the cipher: it asks for the same, and is refused alike

  refusal-ciphered : (s : Shape) (heap : Heap) (call : MemoryCall) → refusal s (heap_ciphered cipher heap) (call_ciphered cipher call) ≡ refusal s heap call
  refusal-ciphered s heap (memory_call.OnBlock (block_call.Poke x at bytes)) = rw (length-map bytes cipher) (first_refusal-ciphered cipher s heap (tests_of (memory_call.OnBlock (block_call.Poke x at bytes))))
  refusal-ciphered s heap (memory_call.Filling (filling_call.NewHandleOf bytes)) = rw (length-map bytes cipher) (first_refusal-ciphered cipher s heap (tests_of (memory_call.Filling (filling_call.NewHandleOf bytes))))
  refusal-ciphered s heap (memory_call.Filling (filling_call.SetHandleTo h bytes)) = rw (length-map bytes cipher) (first_refusal-ciphered cipher s heap (tests_of (memory_call.Filling (filling_call.SetHandleTo h bytes))))
  refusal-ciphered s heap (memory_call.Filling (filling_call.Append h bytes)) = rw (length-map bytes cipher) (first_refusal-ciphered cipher s heap (tests_of (memory_call.Filling (filling_call.Append h bytes))))
  refusal-ciphered s heap call = first_refusal-ciphered cipher s heap (tests_of call)

  protected-ciphered : (call : MemoryCall) → protected_by (call_ciphered cipher call) ≡ protected_by call
  protected-ciphered (memory_call.OnBlock (block_call.Poke x at bytes)) = refl
  protected-ciphered (memory_call.Filling (filling_call.NewHandleOf bytes)) = refl
  protected-ciphered (memory_call.Filling (filling_call.SetHandleTo h bytes)) = refl
  protected-ciphered (memory_call.Filling (filling_call.Append h bytes)) = refl
  protected-ciphered call = refl

  request-ciphered : (t : HandleTable) (call : MemoryCall) → request_of (table_ciphered cipher t) (call_ciphered cipher call) ≡ request_of t call
  request-ciphered t (memory_call.Filling (filling_call.HandToHand h)) = rw (length-ciphered cipher t h)
  request-ciphered t (memory_call.Filling (filling_call.PtrAndHand p h n)) = rw (length-ciphered cipher t h)
  request-ciphered t (memory_call.Filling (filling_call.HandAndHand a b)) = rw (length-ciphered cipher t b, length-ciphered cipher t a)
  request-ciphered t (memory_call.OnBlock (block_call.Poke x at bytes)) = refl
  request-ciphered t (memory_call.Filling (filling_call.NewHandleOf bytes)) = rw (length-map bytes cipher)
  request-ciphered t (memory_call.Filling (filling_call.SetHandleTo h bytes)) = rw (length-map bytes cipher)
  request-ciphered t (memory_call.Filling (filling_call.Append h bytes)) = rw (length-ciphered cipher t h, length-map bytes cipher)
  request-ciphered t call = refl

  given-ciphered : (call : MemoryCall) (x : ℕ) → Ok (given_results (call_ciphered cipher call) x) ≡ outcome_ciphered cipher (Ok (given_results call x))
  given-ciphered (memory_call.Requesting (requesting_call.NewHandle n)) x = refl
  given-ciphered (memory_call.Requesting requesting_call.NewEmptyHandle) x = refl
  given-ciphered (memory_call.Requesting (requesting_call.NewPtr n)) x = refl
  given-ciphered (memory_call.Filling (filling_call.HandToHand h)) x = refl
  given-ciphered (memory_call.Filling (filling_call.PtrToHand p n)) x = refl
  given-ciphered (memory_call.OnBlock (block_call.Poke y at bytes)) x = refl
  given-ciphered (memory_call.Filling (filling_call.NewHandleOf bytes)) x = refl
  given-ciphered (memory_call.Filling (filling_call.SetHandleTo h bytes)) x = refl
  given-ciphered (memory_call.Filling (filling_call.Append h bytes)) x = refl
  given-ciphered call x = refl

  -- what it copies
  copied-ciphered : (call : MemoryCall) (x : ℕ) (entry t : HandleTable) → table_copied (call_ciphered cipher call) x (table_ciphered cipher entry) (table_ciphered cipher t) ≡ table_ciphered cipher (table_copied call x entry t)
  copied-ciphered (memory_call.Filling (filling_call.HandToHand h)) x entry t = rw (bytes-ciphered cipher entry h) (with_bytes-ciphered cipher x (bytes_of entry h) t)
  copied-ciphered (memory_call.Filling (filling_call.PtrToHand p n)) x entry t = rw (bytes-ciphered cipher entry p, take-map) (with_bytes-ciphered cipher x (take n (bytes_of entry p)) t)
  copied-ciphered (memory_call.Filling (filling_call.PtrToXHand p h n)) x entry t = rw (bytes-ciphered cipher entry p, take-map) (with_bytes-ciphered cipher h (take n (bytes_of entry p)) t)
  copied-ciphered (memory_call.Filling (filling_call.PtrAndHand p h n)) x entry t =
      let old = bytes_of entry h in
      let added = take n (bytes_of entry p) in
      rw (bytes-ciphered cipher entry h, bytes-ciphered cipher entry p, take-map, ← map-append cipher old added) (with_bytes-ciphered cipher h (old ++ added) t)
  copied-ciphered (memory_call.Filling (filling_call.HandAndHand a b)) x entry t =
      rw (bytes-ciphered cipher entry b, bytes-ciphered cipher entry a, ← map-append cipher (bytes_of entry b) (bytes_of entry a)) (with_bytes-ciphered cipher b (bytes_of entry b ++ bytes_of entry a) t)
  copied-ciphered (memory_call.OnBlock (block_call.Poke y at bytes)) x entry t = refl
  copied-ciphered (memory_call.Filling (filling_call.NewHandleOf bytes)) x entry t = with_bytes-ciphered cipher x bytes t
  copied-ciphered (memory_call.Filling (filling_call.SetHandleTo h bytes)) x entry t = with_bytes-ciphered cipher h bytes t
  copied-ciphered (memory_call.Filling (filling_call.Append h bytes)) x entry t = rw (bytes-ciphered cipher entry h, ← map-append cipher (bytes_of entry h) bytes) (with_bytes-ciphered cipher h (bytes_of entry h ++ bytes) t)
  copied-ciphered call x entry t = refl

  -- ---- a call that makes a request

  end-ciphered : (call : MemoryCall) (entry : HandleTable) (asks : List Ask) (e : Ending) (o : Option ℕ)
      → request_end (call_ciphered cipher call) (table_ciphered cipher entry) asks (ending_ciphered cipher e) o ≡ end_ciphered cipher (request_end call entry asks e o)
  end-ciphered call entry asks e (Some x) = rw (given-ciphered call x, copied-ciphered call x entry e.heap.table)
  end-ciphered call entry asks e None = refl

  module _ (keeps : cipher 0 ≡ 0) where
    after_master-ciphered : (s : Shape) (protected : List ℕ) (r : Request) (e : Ending) (o : Option ℕ) → after_master s protected r (ending_ciphered cipher e) o ≡ ending_ciphered cipher (after_master s protected r e o)
    after_master-ciphered s protected r e (Some x) = run-ciphered cipher keeps s protected r (most_answers - length e.asks) e.left e.heap
    after_master-ciphered s protected r e None = refl

    request_step-ciphered : (s : Shape) (answers : List Answer) (heap : Heap) (call : MemoryCall) (master : Bool) (r : Request)
        → request_step s answers (heap_ciphered cipher heap) (call_ciphered cipher call) master r ≡ end_ciphered cipher (request_step s answers heap call master r)
    request_step-ciphered s answers heap call false r =
        let e = request_run s (protected_by call) r most_answers answers heap in
        rw (protected-ciphered call, run-ciphered cipher keeps s (protected_by call) r most_answers answers heap) (end-ciphered call heap.table [] e e.given)
    request_step-ciphered s answers heap call true r =
        let master = request_run s (protected_by call) NewMaster most_answers answers heap in
        let e = after_master s (protected_by call) r master master.given in
        rw (protected-ciphered call, run-ciphered cipher keeps s (protected_by call) NewMaster most_answers answers heap, after_master-ciphered s (protected_by call) r master master.given)
        (end-ciphered call heap.table master.asks e e.given)

  -- ---- a call that makes none

  all_purged-ciphered : (heap : Heap) → all_purged (heap_ciphered cipher heap) ≡ heap_ciphered cipher (all_purged heap)
  all_purged-ciphered heap = rw (candidates_in-same (fixes-ciphered cipher heap.table) (purgeable-ciphered cipher heap.table) [] heap.map) (all_emptied-ciphered cipher (candidates_in heap.table [] heap.map) heap)

  rearranged-ciphered : (call : MemoryCall) (heap : Heap) → rearranged (call_ciphered cipher call) (heap_ciphered cipher heap) ≡ heap_ciphered cipher (rearranged call heap)
  rearranged-ciphered (memory_call.OnZone (zone_call.CompactMem n)) heap = rw (compacted-same (fixes-ciphered cipher heap.table) n heap.map)
  rearranged-ciphered (memory_call.OnZone (zone_call.PurgeMem n)) heap = purged_for-ciphered cipher n heap
  rearranged-ciphered (memory_call.OnZone zone_call.MaxMem) heap = rw (all_purged-ciphered heap, all_down-same (fixes-ciphered cipher heap.table) (all_purged heap).map)
  rearranged-ciphered (memory_call.OnBlock (block_call.MoveHHi h)) heap = rw (moved_high-same (fixes-ciphered cipher heap.table) h heap.map)
  rearranged-ciphered (memory_call.OnBlock (block_call.HLockHi h)) heap = rw (moved_high-same (fixes-ciphered cipher heap.table) h heap.map)
  rearranged-ciphered (memory_call.OnBlock (block_call.Poke x at bytes)) heap = refl
  rearranged-ciphered (memory_call.Filling (filling_call.NewHandleOf bytes)) heap = refl
  rearranged-ciphered (memory_call.Filling (filling_call.SetHandleTo h bytes)) heap = refl
  rearranged-ciphered (memory_call.Filling (filling_call.Append h bytes)) heap = refl
  rearranged-ciphered call heap = refl

  flagged-ciphered : (h : ℕ) (change : Flags → Flags) (heap : Heap)
      → with_table (with_flags h (change (flags_of (table_ciphered cipher heap.table) h)) (table_ciphered cipher heap.table)) (heap_ciphered cipher heap) ≡ heap_ciphered cipher (with_table (with_flags h (change (flags_of heap.table h)) heap.table) heap)
  flagged-ciphered h change heap = rw (with_flags-ciphered cipher h change heap.table)

  effect-ciphered : (s : Shape) (call : MemoryCall) (heap : Heap) → effect_of s (call_ciphered cipher call) (heap_ciphered cipher heap) ≡ heap_ciphered cipher (effect_of s call heap)
  effect-ciphered s (memory_call.OnBlock (block_call.DisposeHandle h)) heap = released-ciphered cipher (DisposesHandle h) heap
  effect-ciphered s (memory_call.OnBlock (block_call.DisposePtr p)) heap = released-ciphered cipher (DisposesPtr p) heap
  effect-ciphered s (memory_call.OnBlock (block_call.EmptyHandle h)) heap = released-ciphered cipher (Empties h) heap
  effect-ciphered s (memory_call.OnBlock (block_call.HLock h)) heap = flagged-ciphered h (λ flags. record flags { lock = true }) heap
  effect-ciphered s (memory_call.OnBlock (block_call.HLockHi h)) heap = flagged-ciphered h (λ flags. record flags { lock = true }) heap
  effect-ciphered s (memory_call.OnBlock (block_call.HUnlock h)) heap = flagged-ciphered h (λ flags. record flags { lock = false }) heap
  effect-ciphered s (memory_call.OnBlock (block_call.HPurge h)) heap = flagged-ciphered h (λ flags. record flags { purge = true }) heap
  effect-ciphered s (memory_call.OnBlock (block_call.HNoPurge h)) heap = flagged-ciphered h (λ flags. record flags { purge = false }) heap
  effect-ciphered s (memory_call.OnBlock (block_call.HSetRBit h)) heap = flagged-ciphered h (λ flags. record flags { resource = true }) heap
  effect-ciphered s (memory_call.OnBlock (block_call.HClrRBit h)) heap = flagged-ciphered h (λ flags. record flags { resource = false }) heap
  effect-ciphered s (memory_call.OnBlock (block_call.HSetState h n)) heap = flagged-ciphered h (λ flags. flags_from n) heap
  effect-ciphered s (memory_call.OnBlock (block_call.Poke x at bytes)) heap = rw (bytes-ciphered cipher heap.table x, written-ciphered cipher at bytes (bytes_of heap.table x), with_bytes-ciphered cipher x (written at bytes (bytes_of heap.table x)) heap.table)
  effect-ciphered s (memory_call.OnBlock (block_call.BlockMove x at y to n)) heap =
      let t = heap.table in
      let moved = take n (drop at (bytes_of t x)) in
      rw (bytes-ciphered cipher t x, slice-ciphered cipher at n (bytes_of t x), bytes-ciphered cipher t y, written-ciphered cipher to moved (bytes_of t y), with_bytes-ciphered cipher y (written to moved (bytes_of t y)) t)
  effect-ciphered s (memory_call.OnZone zone_call.MaxApplZone) heap = refl
  effect-ciphered s (memory_call.Filling (filling_call.NewHandleOf bytes)) heap = refl
  effect-ciphered s (memory_call.Filling (filling_call.SetHandleTo h bytes)) heap = refl
  effect-ciphered s (memory_call.Filling (filling_call.Append h bytes)) heap = refl
  effect-ciphered s call heap = refl

  -- ---- what it gives

  wanted-ciphered : (t : HandleTable) (k : Kind) → wanted_length (table_ciphered cipher t) k ≡ wanted_length t k
  wanted-ciphered t Free = refl
  wanted-ciphered t Master = refl
  wanted-ciphered t (Ptr p) = length-ciphered cipher t p
  wanted-ciphered t (Rel h) = length-ciphered cipher t h

  block_flags-ciphered : (t : HandleTable) (k : Kind) → block_flags (table_ciphered cipher t) k ≡ block_flags t k
  block_flags-ciphered t Free = refl
  block_flags-ciphered t Master = refl
  block_flags-ciphered t (Ptr p) = refl
  block_flags-ciphered t (Rel h) = flags-ciphered cipher t h

  reports-ciphered : (t : HandleTable) (at : ℕ) (m : ZoneMap) → reports_from (table_ciphered cipher t) at m ≡ reports_from t at m
  reports-ciphered t at [] = refl
  reports-ciphered t at (e ∷ es) = rw (wanted-ciphered t e.kind, block_flags-ciphered t e.kind, reports-ciphered t (at + e.size) es)

  purge_space-ciphered : (t : HandleTable) (m : ZoneMap) → purge_space (table_ciphered cipher t) m ≡ purge_space t m
  purge_space-ciphered t m = rw (candidates_in-same (fixes-ciphered cipher t) (purgeable-ciphered cipher t) [] m)

  spaces-ciphered : (t : HandleTable) (m : ZoneMap) → largest_purge_space (table_ciphered cipher t) m ≡ largest_purge_space t m
  spaces-ciphered t m = simp (gaps-same t (table_ciphered cipher t) (fixes-ciphered cipher t) m, candidates_in-same (fixes-ciphered cipher t) (purgeable-ciphered cipher t) [])

  outcome_of-ciphered : (s : Shape) (heap : Heap) (call : MemoryCall) → outcome_of s (heap_ciphered cipher heap) (call_ciphered cipher call) ≡ outcome_ciphered cipher (outcome_of s heap call)
  outcome_of-ciphered s heap (memory_call.OnBlock (block_call.GetHandleSize h)) = rw (length-ciphered cipher heap.table h)
  outcome_of-ciphered s heap (memory_call.OnBlock (block_call.GetPtrSize p)) = rw (length-ciphered cipher heap.table p)
  outcome_of-ciphered s heap (memory_call.OnBlock (block_call.HGetState h)) = rw (flags-ciphered cipher heap.table h)
  outcome_of-ciphered s heap (memory_call.Showing (showing_call.Peek x at n)) = rw (bytes-ciphered cipher heap.table x, slice-ciphered cipher at n (bytes_of heap.table x))
  outcome_of-ciphered s heap (memory_call.OnZone zone_call.PurgeSpace) = rw (purge_space-ciphered heap.table heap.map, spaces-ciphered heap.table heap.map)
  outcome_of-ciphered s heap (memory_call.OnZone zone_call.MaxBlock) = rw (gaps-same heap.table (table_ciphered cipher heap.table) (fixes-ciphered cipher heap.table) heap.map)
  outcome_of-ciphered s heap (memory_call.Showing showing_call.ZoneMap) = rw (reports-ciphered heap.table (address_after s []) heap.map)
  outcome_of-ciphered s heap (memory_call.OnBlock (block_call.Poke x at bytes)) = refl
  outcome_of-ciphered s heap (memory_call.Filling (filling_call.NewHandleOf bytes)) = refl
  outcome_of-ciphered s heap (memory_call.Filling (filling_call.SetHandleTo h bytes)) = refl
  outcome_of-ciphered s heap (memory_call.Filling (filling_call.Append h bytes)) = refl
  outcome_of-ciphered s heap call = refl

  quiet_outcome-ciphered : (s : Shape) (heap : Heap) (call : MemoryCall) → quiet_outcome s (heap_ciphered cipher heap) (call_ciphered cipher call) ≡ outcome_ciphered cipher (quiet_outcome s heap call)
  quiet_outcome-ciphered s heap (memory_call.OnZone (zone_call.PurgeMem n)) = chosen (outcome_ciphered cipher) (nat_le n (largest_free heap.map)) (Ok Nothing) (Err MemFullErr)
  quiet_outcome-ciphered s heap (memory_call.Filling (filling_call.HandToHand h)) = refl
  quiet_outcome-ciphered s heap (memory_call.OnBlock (block_call.HLock h)) = refl
  quiet_outcome-ciphered s heap call = outcome_of-ciphered s heap call

  quiet-ciphered : (s : Shape) (answers : List Answer) (heap : Heap) (call : MemoryCall) → quiet_step s answers (heap_ciphered cipher heap) (call_ciphered cipher call) ≡ end_ciphered cipher (quiet_step s answers heap call)
  quiet-ciphered s answers heap call = rw (rearranged-ciphered call heap, effect-ciphered s call (rearranged call heap), quiet_outcome-ciphered s (effect_of s call (rearranged call heap)) call)

  -- ---- each call

  module _ (keeps : cipher 0 ≡ 0) (s : Shape) where
    asking-ciphered : (answers : List Answer) (heap : Heap) (call : MemoryCall) (o : Option Request) → step_asking s answers (heap_ciphered cipher heap) (call_ciphered cipher call) o ≡ end_ciphered cipher (step_asking s answers heap call o)
    asking-ciphered answers heap call (Some r) = request_step-ciphered keeps s answers heap call (makes_handle r && has_none heap.free_slots) r
    asking-ciphered answers heap call None = quiet-ciphered s answers heap call

    unless-ciphered : (answers : List Answer) (heap : Heap) (call : MemoryCall) (o : Option OsErr) → step_unless s answers (heap_ciphered cipher heap) (call_ciphered cipher call) o ≡ end_ciphered cipher (step_unless s answers heap call o)
    unless-ciphered answers heap call (Some refusal) = refl
    unless-ciphered answers heap call None = rw (request-ciphered heap.table call) (asking-ciphered answers heap call (request_of heap.table call))

    pub step-ciphered : (answers : List Answer) (heap : Heap) (call : MemoryCall) → exact_step s answers (heap_ciphered cipher heap) (call_ciphered cipher call) ≡ end_ciphered cipher (exact_step s answers heap call)
    step-ciphered answers heap call = rw (refusal-ciphered s heap call) (unless-ciphered answers heap call (refusal s heap call))

    -- and calls in a row
    pub heap_after-ciphered : (heap : Heap) (calls : List MemoryCall) → heap_after s (heap_ciphered cipher heap) (map (call_ciphered cipher) calls) ≡ heap_ciphered cipher (heap_after s heap calls)
    heap_after-ciphered heap [] = refl
    heap_after-ciphered heap (call ∷ calls) = rw (step-ciphered [] heap call, heap_after) (heap_after-ciphered (exact_step s [] heap call).heap calls)

    pub outcomes-ciphered : (heap : Heap) (calls : List MemoryCall) → outcomes_to s (heap_ciphered cipher heap) (map (call_ciphered cipher) calls) ≡ map (outcome_ciphered cipher) (outcomes_to s heap calls)
    outcomes-ciphered heap [] = refl
    outcomes-ciphered heap (call ∷ calls) = rw (step-ciphered [] heap call, outcomes-ciphered (exact_step s [] heap call).heap calls)

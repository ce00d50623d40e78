-- Locked handles keep the address of their contents: over one call.
use Rattle.std.proofs.Common.{◌≡◌, ℕ, ◌-◌, ◌<◌, Bool, true, false, cond, length, take, List, [], ◌∷◌, ◌++◌, Option, Some, None, MatchOption, refl, sym, subst, ◌∙◌}
use Rattle.std.specs.Prelude.{◌&&◌, ◌==◌, ⊤, nat_le}
use Rattle.mac_base.specs.declared.error.OsErr.{OsErr}
use Rattle.mac_base.specs.declared.releasing.ReleasingCall.{ReleasingCall}
use Rattle.mac_base.specs.declared.releasing.ReleasingCall.TheVariants.{DisposesHandle, DisposesPtr, Empties}
use Rattle.mac_base.specs.declared.request.Request.{Request}
use Rattle.mac_base.specs.declared.request.Request.TheVariants.{NewMaster}
use Rattle.mac_base.specs.Compaction.{all_down, compacted, moved_high}
use Rattle.mac_base.specs.HandleTable.{HandleTable, bytes_of, is_locked, live_at}
use Rattle.mac_base.specs.HeadKind.{Shape}
use Rattle.mac_base.specs.Heap.{Heap, all_purged, front_slot, has_none, with_table}
use Rattle.mac_base.specs.Releasing.{heap_released, operand_of}
use Rattle.mac_base.specs.Request.{candidates_in, is_among, makes_handle, purged_until}
use Rattle.mac_base.specs.Serve.{serve}
use Rattle.mac_base.specs.Sound.{Sound}
use Rattle.mac_base.specs.Suits.{is_handle_block}
use Rattle.mac_base.specs.ZoneMap.{ZoneMap, addresses, contents_of, largest_free}
use Rattle.mac_base.specs.declared.memory_call.MemoryCall.{MemoryCall}
use Rattle.mac_base.specs.declared.memory_call.MemoryCall.TheVariants as memory_call
use Rattle.mac_base.specs.declared.memory_call.BlockCall.TheVariants as block_call
use Rattle.mac_base.specs.declared.memory_call.FillingCall.TheVariants as filling_call
use Rattle.mac_base.specs.declared.memory_call.ZoneCall.TheVariants as zone_call
use Rattle.mac_base.specs.Effect.{effect_of, request_of, table_copied}
use Rattle.mac_base.specs.ExactRequest.{Ending, after_ask, asked, prepared, request_run, served_or, unserved}
use Rattle.mac_base.specs.ExactStep.{IsExactStep, StepEnd, after_master, exact_step, rearranged, request_end, request_step, step_asking, step_unless}
use Rattle.mac_base.specs.GrowZone.{Answer, Ask, Carried, answers_in, carried_from, carried_once, carried_out, heap_unless, memory_call as as_call, most_answers}
use Rattle.mac_base.specs.Outcomes.{Outcome}
use Rattle.mac_base.specs.Tests.{protected_by, refusal}
use Rattle.zone_laws.proofs.Lent.{contents_of-same}
use Rattle.zone_laws.proofs.KeepsLoans.{addresses-handle, locked_full, rearranged-stays}
use Rattle.zone_laws.proofs.RearrangingAll.{all_down-Rearranged, compacted-Rearranged, moved_high-Rearranged}
use Rattle.zone_laws.proofs.SoundServed.{MayServe}
use Rattle.zone_laws.proofs.Stays.{Stay, stay-grown, stay-prepared, stay-purged, stay-refl, stay-released, stay-serve, stay-then, written-locked}
use Rattle.zone_laws.proofs.Prepared.{prepared-is}
use Rattle.zone_laws.proofs.RunPermitted.{Guards, RunFacts, may-kept, run-facts, running-carried_out, running-prepared}
use Rattle.zone_laws.proofs.SoundCarried.{sound-carried_out}
use Rattle.zone_laws.proofs.StepPermitted.{makes-first, may_serve-from, operand-handle, slot-free}
use Rattle.zone_laws.proofs.StepRequests.{AsksSoundly, asks-soundly}

-- an answer's calls are carried out
stay-unless : (s : Shape) (call : ReleasingCall) (heap : Heap) (o : Option OsErr) → Stay s heap (heap_unless o (heap_released call heap) heap)
stay-unless s call heap None = stay-released s call heap
stay-unless s call heap (Some code) = stay-refl s heap

stay-once : (s : Shape) (protected : List ℕ) (call : ReleasingCall) (c : Carried) → Stay s c.heap (carried_once s protected call c).heap
stay-once s protected call c =
    elim (is_among protected (operand_of call)) as (λ b. Stay s c.heap (cond b c (record { heap = heap_unless (refusal s c.heap (as_call call)) (heap_released call c.heap) c.heap; calls = c.calls ++ (call, refusal s c.heap (as_call call)) ∷ [] })).heap) [
      | true ↦ stay-refl s c.heap
      | false ↦ stay-unless s call c.heap (refusal s c.heap (as_call call))
    ]

stay-from : (s : Shape) (protected : List ℕ) (calls : List ReleasingCall) (c : Carried) → Stay s c.heap (carried_from s protected calls c).heap
stay-from s protected [] c = stay-refl s c.heap
stay-from s protected (call ∷ calls) c = let next = carried_once s protected call c in stay-then s c.heap next.heap (carried_from s protected calls next).heap (stay-once s protected call c) (stay-from s protected calls next)

stay-carried : (s : Shape) (protected : List ℕ) (calls : List ReleasingCall) (heap : Heap) → Stay s heap (carried_out s protected calls heap).heap
stay-carried s protected calls heap = stay-from s protected calls (record { heap = heap; calls = [] })

-- ---- a run of a request

by_trial : (s : Shape) (r : Request) (mid : Heap) (left : List Answer) (other : Ending) (o : Option (ℕ × ZoneMap)) → serve s mid.table (front_slot mid) mid.map r ≡ o → Sound s mid → MayServe mid r → Stay s mid other.heap → Stay s mid (served_or r mid left other o).heap
by_trial s r mid left other (Some found) is sound may following = stay-serve s mid sound r found.0 found.1 may is
by_trial s r mid left other None is sound may following = following

stay-run : (s : Shape) (protected : List ℕ) (r : Request) (allowed : ℕ) (answers : List Answer) (heap : Heap) → Sound s heap → Guards protected r → MayServe heap r → Stay s heap (request_run s protected r allowed answers heap).heap
stay-run s protected r allowed [] heap sound guards may =
    let mid = prepared s protected r heap in
    let p = prepared-is s protected r heap sound in
    let asks = cond (allowed == 0) [] (asked s r None (carried_out s protected [] mid) ∷ []) in
    stay-then s heap mid (request_run s protected r allowed [] heap).heap (subst (Stay s heap) (sym p.is) (stay-prepared s p.preparation heap))
    (by_trial s r mid [] (unserved mid asks []) (serve s mid.table (front_slot mid) mid.map r) refl p.sound (may-kept protected r heap mid guards (running-prepared s protected r heap mid p) may) (stay-refl s mid))
stay-run s protected r allowed (a ∷ later) heap sound guards may =
    let mid = prepared s protected r heap in
    let p = prepared-is s protected r heap sound in
    let c = carried_out s protected a.calls mid in
    let ask = asked s r (Some a) c in
    let may_mid = may-kept protected r heap mid guards (running-prepared s protected r heap mid p) may in
    let carried = stay-carried s protected a.calls mid in
    let next = request_run s protected r (allowed - 1) later c.heap in
    let rest = stay-run s protected r (allowed - 1) later c.heap (sound-carried_out s protected a.calls mid p.sound) guards (may-kept protected r mid c.heap guards (running-carried_out s protected a.calls mid) may_mid) in
    stay-then s heap mid (request_run s protected r allowed (a ∷ later) heap).heap (subst (Stay s heap) (sym p.is) (stay-prepared s p.preparation heap))
    (by_trial s r mid (a ∷ later) (cond (allowed == 0) (unserved mid [] (a ∷ later)) (cond (a.value == 0) (unserved c.heap (ask ∷ []) later) (after_ask ask next))) (serve s mid.table (front_slot mid) mid.map r) refl p.sound may_mid
    (elim (allowed == 0) as (λ b. Stay s mid (cond b (unserved mid [] (a ∷ later)) (cond (a.value == 0) (unserved c.heap (ask ∷ []) later) (after_ask ask next))).heap) [
      | true ↦ stay-refl s mid
      | false ↦ elim (a.value == 0) as (λ b. Stay s mid (cond b (unserved c.heap (ask ∷ []) later) (after_ask ask next)).heap) [
        | true ↦ carried
        | false ↦ stay-then s mid c.heap next.heap carried rest
      ]
    ]))

-- ---- a call

copied-locked : (call : MemoryCall) (x : ℕ) (entry t : HandleTable) (h : ℕ) → is_locked (table_copied call x entry t) h ≡ true → is_locked t h ≡ true
copied-locked (memory_call.Filling (filling_call.HandToHand g)) x entry t h l = written-locked x (bytes_of entry g) t h l
copied-locked (memory_call.Filling (filling_call.PtrToHand p n)) x entry t h l = written-locked x (take n (bytes_of entry p)) t h l
copied-locked (memory_call.Filling (filling_call.PtrToXHand p g n)) x entry t h l = written-locked g (take n (bytes_of entry p)) t h l
copied-locked (memory_call.Filling (filling_call.PtrAndHand p g n)) x entry t h l = written-locked g (bytes_of entry g ++ take n (bytes_of entry p)) t h l
copied-locked (memory_call.Filling (filling_call.NewHandleOf bytes)) x entry t h l = written-locked x bytes t h l
copied-locked (memory_call.Filling (filling_call.SetHandleTo g bytes)) x entry t h l = written-locked g bytes t h l
copied-locked (memory_call.Filling (filling_call.Append g bytes)) x entry t h l = written-locked g (bytes_of entry g ++ bytes) t h l
copied-locked (memory_call.Filling (filling_call.HandAndHand a b)) x entry t h l = written-locked b (bytes_of entry b ++ bytes_of entry a) t h l
copied-locked call x entry t h l = l

-- the block of a handle that is locked before and after is where it was
abbrev pub LockedStand : Shape → Heap → Heap → Type 0
LockedStand s old new = (h : ℕ) → is_locked old.table h ≡ true → is_locked new.table h ≡ true → addresses s (is_handle_block h) new.map ≡ addresses s (is_handle_block h) old.map

stand : (s : Shape) (old new : Heap) → Stay s old new → LockedStand s old new
stand s old new stay h _ l = stay.place h l

quiet-stand : (s : Shape) (heap : Heap) (call : MemoryCall) → LockedStand s heap (effect_of s call (rearranged call heap))
quiet-stand s heap (memory_call.OnZone (zone_call.CompactMem n)) h was is = rearranged-stays s heap.table heap.map (compacted heap.table n heap.map) h (compacted-Rearranged s heap.table n heap.map) was
quiet-stand s heap (memory_call.OnZone (zone_call.PurgeMem n)) h was is = (stay-purged s (purged_until (λ (m : ZoneMap). nat_le n (largest_free m)) (candidates_in heap.table [] heap.map) heap.map) heap).place h is
quiet-stand s heap (memory_call.OnZone zone_call.MaxMem) h was is =
    let mid = all_purged heap in
    rearranged-stays s heap.table mid.map (all_down heap.table mid.map) h (all_down-Rearranged s heap.table mid.map) was ∙ (stay-purged s (candidates_in heap.table [] heap.map) heap).place h is
quiet-stand s heap (memory_call.OnBlock (block_call.MoveHHi g)) h was is = rearranged-stays s heap.table heap.map (moved_high heap.table g heap.map) h (moved_high-Rearranged s heap.table g heap.map) was
quiet-stand s heap (memory_call.OnBlock (block_call.HLockHi g)) h was is = rearranged-stays s heap.table heap.map (moved_high heap.table g heap.map) h (moved_high-Rearranged s heap.table g heap.map) was
quiet-stand s heap (memory_call.OnBlock (block_call.DisposeHandle g)) h was is = (stay-released s (DisposesHandle g) heap).place h is
quiet-stand s heap (memory_call.OnBlock (block_call.DisposePtr p)) h was is = (stay-released s (DisposesPtr p) heap).place h is
quiet-stand s heap (memory_call.OnBlock (block_call.EmptyHandle g)) h was is = (stay-released s (Empties g) heap).place h is
quiet-stand s heap (memory_call.OnZone zone_call.MaxApplZone) h was is = (stay-grown s heap).place h is
quiet-stand s heap call h was is = refl

module _ (s : Shape) (answers : List Answer) (heap : Heap) (call : MemoryCall) (sound : Sound s heap) where
  -- the call's last request, which ended so
  ended : (first : List Ask) (e : Ending) (given : Option ℕ) → Stay s heap e.heap → Stay s heap (request_end call heap.table first e given).heap
  ended first e None stay = stay
  ended first e (Some x) stay = stay-then s heap e.heap (with_table (table_copied call x heap.table e.heap.table) e.heap) stay
      (record { locked = λ h l. copied-locked call x heap.table e.heap.table h l; place = λ h l. refl })

  after-stay : (r : Request) (master : Ending) → AsksSoundly s heap call r → makes_handle r ≡ true → RunFacts s (protected_by call) NewMaster most_answers heap master → Stay s heap master.heap
      → (given : Option ℕ) → master.given ≡ given → Stay s heap (let e = after_master s (protected_by call) r master given in request_end call heap.table master.asks e e.given).heap
  after-stay r master asks makes facts stay (Some x) is =
      let slots : 0 < length master.heap.free_slots = subst (λ o. MatchOption o ⊤ (λ x. 0 < length master.heap.free_slots)) is facts.gives in
      let allowed = most_answers - length master.asks in
      let e = request_run s (protected_by call) r allowed master.left master.heap in
      ended master.asks e e.given (stay-then s heap master.heap e.heap stay
      (stay-run s (protected_by call) r allowed master.left master.heap facts.sound asks.guards (may_serve-from master.heap r (operand-handle master.heap r makes) (λ _. slots))))
  after-stay r master asks makes facts stay None is = stay

  request-stay : (r : Request) (b : Bool) → (makes_handle r && has_none heap.free_slots) ≡ b → AsksSoundly s heap call r → Stay s heap (request_step s answers heap call b r).heap
  request-stay r false is asks =
      let may = may_serve-from heap r asks.operand (slot-free (makes_handle r) heap.free_slots is) in
      let e = request_run s (protected_by call) r most_answers answers heap in
      ended [] e e.given (stay-run s (protected_by call) r most_answers answers heap sound asks.guards may)
  request-stay r true is asks =
      let master = request_run s (protected_by call) NewMaster most_answers answers heap in
      after-stay r master asks (makes-first (makes_handle r) (has_none heap.free_slots) is) (run-facts s (protected_by call) NewMaster most_answers answers heap sound tt tt)
      (stay-run s (protected_by call) NewMaster most_answers answers heap sound tt tt) master.given refl

  asking-stand : (o : Option Request) → request_of heap.table call ≡ o → refusal s heap call ≡ None → LockedStand s heap (step_asking s answers heap call o).heap
  asking-stand (Some r) is passed =
      let b = makes_handle r && has_none heap.free_slots in
      stand s heap (request_step s answers heap call b r).heap (request-stay r b refl (subst (λ o. MatchOption o ⊤ (AsksSoundly s heap call)) is (asks-soundly s heap call passed)))
  asking-stand None is passed = quiet-stand s heap call

  unless-stand : (o : Option OsErr) → refusal s heap call ≡ o → LockedStand s heap (step_unless s answers heap call o).heap
  unless-stand (Some code) is = λ h _ _. refl
  unless-stand None is = asking-stand (request_of heap.table call) refl is

-- a call leaves the blocks of handles where they are that are locked before and after it
pub locked-exact_step : (s : Shape) (answers : List Answer) (heap : Heap) (call : MemoryCall) → Sound s heap → LockedStand s heap (exact_step s answers heap call).heap
locked-exact_step s answers heap call sound = unless-stand s answers heap call sound (refusal s heap call) refl

-- the contents of a handle are where its block is
pub stand-contents : (s : Shape) (old new : Heap) (h : ℕ) → Sound s old → Sound s new → is_locked old.table h ≡ true → is_locked new.table h ≡ true → addresses s (is_handle_block h) new.map ≡ addresses s (is_handle_block h) old.map
    → contents_of s h new.map ≡ contents_of s h old.map
stand-contents s old new h sound after was locked stands =
    contents_of-same s h old.map new.map (addresses-handle s new.table new.map h after.suits (locked_full (live_at new.table h) locked) ∙ stands ∙ sym (addresses-handle s old.table old.map h sound.suits (locked_full (live_at old.table h) was)))

-- so the contents of a locked handle stay where they are
pub step-locked : (s : Shape) (old : Heap) (call : MemoryCall) (asks : List Ask) (outcome : Outcome) (new : Heap) (h : ℕ) → Sound s old → Sound s new → IsExactStep s old call asks outcome new
    → is_locked old.table h ≡ true → is_locked new.table h ≡ true → contents_of s h new.map ≡ contents_of s h old.map
step-locked s old call asks outcome new h sound after is was locked =
    let stands = subst (λ (e : StepEnd). LockedStand s old e.heap) is (locked-exact_step s (answers_in asks) old call sound) in
    stand-contents s old new h sound after was locked (stands h was locked)

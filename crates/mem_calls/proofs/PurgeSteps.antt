-- A call purges as if each handle were emptied before it.
use Rattle.std.proofs.Common.{◌≡◌, ℕ, suc, ◌+◌, ◌-◌, Bool, true, false, cond, List, [], ◌∷◌, ◌++◌, Option, Some, None, Ok, refl, ap, sym, ◌∙◌, subst, inl, inr, arith, append-nil}
use Rattle.std.specs.Prelude.{◌⊎◌, ◌&&◌, ◌==◌, ◌||◌, IsTrue, is_some, nat_le}
use Rattle.std.specs.List.{slice_get}
use Rattle.std.proofs.lemmas.Bool.{eqb-true, true≢false}
use Rattle.mac_base.specs.declared.error.OsErr.{OsErr}
use Rattle.mac_base.specs.declared.request.Request.{Request}
use Rattle.mac_base.specs.declared.request.Request.TheVariants.{NewEmpty, NewMaster}
use Rattle.mac_base.specs.declared.memory_call.MemoryCall.{MemoryCall}
use Rattle.mac_base.specs.declared.memory_call.MemoryCall.TheVariants.{Filling, OnBlock, OnZone, Requesting, Showing}
use Rattle.mac_base.specs.declared.memory_call.BlockCall.TheVariants.{EmptyHandle as EmptyHandleCall}
use Rattle.mac_base.specs.declared.memory_call.ZoneCall.TheVariants.{CompactMem, PurgeMem, MaxMem, PurgeSpace, MaxBlock, FreeMem, MaxApplZone}
use Rattle.mac_base.specs.declared.reply.Results.TheVariants.{Nothing}
use Rattle.mac_base.specs.Attempt.{attempted}
use Rattle.mac_base.specs.Compaction.{all_down}
use Rattle.mac_base.specs.Effect.{request_of, table_copied, effect_of}
use Rattle.mac_base.specs.ExactRequest.{Ending, prepared, request_run}
use Rattle.mac_base.specs.ExactStep.{StepEnd, after_master, exact_step, quiet_outcome, rearranged, request_end, request_step, step_asking, step_unless}
use Rattle.mac_base.specs.GrowZone.{Answer, Ask, carried_out, most_answers}
use Rattle.mac_base.specs.HandleTable.{EmptyHandle, HandleTable, emptied, is_handle, is_lent, is_locked, is_pointer, live_at}
use Rattle.mac_base.specs.HeadKind.{Shape, zone_header}
use Rattle.mac_base.specs.Heap.{Heap, all_purged, front_slot, granted, grown, has_none, with_all_emptied, with_emptied, with_map, with_table}
use Rattle.mac_base.specs.Loans.{LoansAreFixed}
use Rattle.mac_base.specs.Outcomes.{given_results}
use Rattle.mac_base.specs.Purging.{purged, purged_for}
use Rattle.mac_base.specs.Request.{candidates, candidates_in, fits, is_among, makes_handle, purged_until}
use Rattle.mac_base.specs.declared.releasing.ReleasingCall.TheVariants.{Empties}
use Rattle.mac_base.specs.Serve.{serve}
use Rattle.mac_base.specs.Sound.{Sound}
use Rattle.mac_base.specs.Suits.{slots_from}
use Rattle.mac_base.specs.Tests.{protected_by, refusal}
use Rattle.mac_base.specs.ZoneMap.{ZoneMap, free_block, joined, largest_free, released, total_size}
use Rattle.zone_laws.proofs.Emptied.{IsCandidate}
use Rattle.zone_laws.proofs.Joined.{joined-apart}
use Rattle.zone_laws.proofs.Operands.{Kept, SameCall, kept-then, same-call}
use Rattle.zone_laws.proofs.RunAnswers.{last, once, trial}
use Rattle.zone_laws.proofs.SoundGrown.{sound-grown, total_size-at_limit}
use Rattle.zone_laws.proofs.SoundReleased.{sound-emptied}
use Rattle.zone_laws.proofs.SoundServed.{sound-attempted, attempted-parts}
use Rattle.zone_laws.proofs.Spared.{spared-fixed, spared-released}
use Rattle.zone_laws.proofs.SuitsNil.{nil-no_handle}
use Rattle.zone_laws.proofs.SuitsReleased.{total_size-released}
use Rattle.zone_laws.proofs.Tables.{by_number, with_live_agrees}
use Rattle.zone_heap.specs.NextPurge.{BeforePurge, before_purge, first_unless, grown_for, next_of_all, next_to}
use Rattle.zone_heap.proofs.Purging.{candidate-here, candidates-step, first-candidate, purged-step, until-step}
use Rattle.mem_calls.proofs.Purged.{all_down-purged}
use Rattle.mem_calls.proofs.Trying.{purged-fits}
use Rattle.mem_calls.specs.Purges.{EmptiedIsExact, InTurnIsExact, PurgesInTurn, ReadyIsExact, before_after, before_asking, before_call, before_quiet, before_request, before_unless, none_before}

-- ---- the first of some handles

-- there is one only if there isn't room
pub first-some : (b : Bool) (hs : List ℕ) (h : ℕ) → first_unless b hs ≡ Some h → (b ≡ false) × ((rest : List ℕ) × (hs ≡ h ∷ rest))
first-some true hs h is = absurd (cc is)
first-some false [] h is = absurd (cc is)
first-some false (g ∷ hs) h is = let same : g ≡ h = cc is in (refl, (hs, ap (λ g. g ∷ hs) same))

-- there is none if there is room, or no handle
pub first-none : (b : Bool) (hs : List ℕ) → first_unless b hs ≡ None → (b ≡ true) ⊎ (hs ≡ [])
first-none true hs is = inl refl
first-none false [] is = inr refl
first-none false (g ∷ hs) is = absurd (cc is)

-- ---- what a request is prepared with

-- a zone that is as large as its limit doesn't grow
grown-full : (s : Shape) (heap : Heap) → Sound s heap → zone_header + total_size heap.map ≡ s.limit → grown s heap ≡ heap
grown-full s heap sound full =
    let left : ℕ = s.limit - (zone_header + total_size heap.map) in
    let none : left ≡ 0 = omega arith in
    let same : heap.map ++ free_block left ≡ heap.map = ap (λ n. heap.map ++ free_block n) none ∙ append-nil heap.map in
    ap (λ m. with_map m heap) (ap joined same ∙ joined-apart heap.map sound.suits.apart)

-- a zone that is as large as its limit is only purged
prepared-full : (s : Shape) (protected : List ℕ) (r : Request) (heap : Heap) → Sound s heap → zone_header + total_size heap.map ≡ s.limit
    → prepared s protected r heap ≡ purged s protected r heap
prepared-full s protected r heap sound full = elim (fits s heap.table r heap.map) as
    (λ b. fits s heap.table r heap.map ≡ b → cond b heap (purged s protected r (grown s heap)) ≡ purged s protected r heap) [
      | true ↦ λ is. sym (purged-fits s protected r heap is)
      | false ↦ λ _. ap (purged s protected r) (grown-full s heap sound full)
    ] refl

module _ (s : Shape) (protected : List ℕ) (r : Request) (heap : Heap) (sound : Sound s heap) where
  abbrev wide : Heap
  wide = grown s heap

  wide-full : zone_header + total_size wide.map ≡ s.limit
  wide-full = total_size-at_limit s heap.map sound.within

  -- as much is prepared once it has grown for the request
  prepared-ready : prepared s protected r (grown_for s r heap) ≡ prepared s protected r heap
  prepared-ready = elim (fits s heap.table r heap.map) as
      (λ b. fits s heap.table r heap.map ≡ b → prepared s protected r (cond b heap wide) ≡ cond b heap (purged s protected r wide)) [
        | true ↦ λ is. ap (λ b. cond b heap (purged s protected r wide)) is
        | false ↦ λ _. prepared-full s protected r wide (sound-grown s heap sound) wide-full
      ] refl

  -- and once the first handle is empty
  prepared-emptied : (h : ℕ) → (before_purge s protected r heap).next ≡ Some h
      → prepared s protected r (with_emptied (grown_for s r heap) h) ≡ prepared s protected r heap
  prepared-emptied h = elim (fits s heap.table r heap.map) as (λ b. fits s heap.table r heap.map ≡ b
      → (let here = cond b heap wide in first_unless (fits s here.table r here.map) (candidates here.table protected r here.map) ≡ Some h
      → prepared s protected r (with_emptied here h) ≡ cond b heap (purged s protected r wide))) [
        | true ↦ λ is some. absurd (true≢false (sym is ∙ (first-some (fits s heap.table r heap.map) (candidates heap.table protected r heap.map) h some).0))
        | false ↦ λ _ some. of_wide (first-some (fits s wide.table r wide.map) (candidates wide.table protected r wide.map) h some)
      ] refl
    where
      of_wide : (fits s wide.table r wide.map ≡ false) × ((rest : List ℕ) × (candidates wide.table protected r wide.map ≡ h ∷ rest))
          → prepared s protected r (with_emptied wide h) ≡ purged s protected r wide
      of_wide known =
          let grown_sound = sound-grown s heap sound in
          let candidate = first-candidate s protected r wide h known.1.0 grown_sound known.1.1 in
          prepared-full s protected r (with_emptied wide h) (sound-emptied s wide h grown_sound candidate.may.handle)
          (ap (λ n. zone_header + n) (total_size-released h wide.map) ∙ wide-full)
          ∙ purged-step s protected r wide h known.1.0 grown_sound known.1.1 known.0

  -- if there is none, no more is prepared
  pub prepared-none : (before_purge s protected r heap).next ≡ None → prepared s protected r heap ≡ grown_for s r heap
  prepared-none = elim (fits s heap.table r heap.map) as (λ b. fits s heap.table r heap.map ≡ b
      → (let here = cond b heap wide in first_unless (fits s here.table r here.map) (candidates here.table protected r here.map) ≡ None
      → cond b heap (purged s protected r wide) ≡ here)) [
        | true ↦ λ _ _. refl
        | false ↦ λ _ none. of_wide (first-none (fits s wide.table r wide.map) (candidates wide.table protected r wide.map) none)
      ] refl
    where
      of_wide : (fits s wide.table r wide.map ≡ true) ⊎ (candidates wide.table protected r wide.map ≡ []) → purged s protected r wide ≡ wide
      of_wide (inl fitting) = purged-fits s protected r wide fitting
      of_wide (inr none) = ap (λ hs. with_all_emptied (purged_until (fits s wide.table r) hs wide.map) wide) none

  pub sound-ready : Sound s (grown_for s r heap)
  sound-ready = elim (fits s heap.table r heap.map) as (λ b. Sound s (cond b heap wide)) [ true ↦ sound | false ↦ sound-grown s heap sound ]

  -- what may be purged
  ready-candidate : (h : ℕ) → (before_purge s protected r heap).next ≡ Some h → (let here = grown_for s r heap in IsCandidate here.table protected h)
  ready-candidate h some =
      let here = grown_for s r heap in
      let known = first-some (fits s here.table r here.map) (candidates here.table protected r here.map) h some in
      first-candidate s protected r here h known.1.0 sound-ready known.1.1

kept-ready : (s : Shape) (protected : List ℕ) (r : Request) (heap : Heap) → Kept protected heap (grown_for s r heap)
kept-ready s protected r heap = elim (fits s heap.table r heap.map) as (λ b. Kept protected heap (cond b heap (grown s heap))) [
  | true ↦ record { protects = λ y among. refl; lent = refl }
  | false ↦ record { protects = λ y among. refl; lent = refl }
]

pub table-ready : (s : Shape) (r : Request) (heap : Heap) → (grown_for s r heap).table ≡ heap.table
table-ready s r heap = elim (fits s heap.table r heap.map) as (λ b. (cond b heap (grown s heap)).table ≡ heap.table) [ true ↦ refl | false ↦ refl ]

pub slots-ready : (s : Shape) (r : Request) (heap : Heap) → (grown_for s r heap).free_slots ≡ heap.free_slots
slots-ready s r heap = elim (fits s heap.table r heap.map) as (λ b. (cond b heap (grown s heap)).free_slots ≡ heap.free_slots) [ true ↦ refl | false ↦ refl ]

kept-emptied : (protected : List ℕ) (heap : Heap) (h : ℕ) → is_among protected h ≡ false → Kept protected heap (with_emptied heap h)
kept-emptied protected heap h apart = record {
  protects = by_number (λ y. is_among protected y ≡ true → live_at (emptied h heap.table) y ≡ live_at heap.table y) h
      (λ among. absurd (true≢false (sym among ∙ apart))) (λ y differs among. (with_live_agrees h EmptyHandle heap.table).others y differs);
  lent = refl;
}

-- ---- runs that are prepared alike

run-prepared : (s : Shape) (protected : List ℕ) (r : Request) (allowed : ℕ) (answers : List Answer) (one other : Heap)
    → prepared s protected r one ≡ prepared s protected r other → request_run s protected r allowed answers one ≡ request_run s protected r allowed answers other
run-prepared s protected r allowed [] one other same =
    ap (λ mid. last s r mid (carried_out s protected [] mid) (allowed == 0) (trial s r mid)) same
run-prepared s protected r allowed (a ∷ later) one other same =
    ap (λ mid. (let c = carried_out s protected a.calls mid in
    once s r mid c a (allowed == 0) (a.value == 0) (trial s r mid) later (request_run s protected r (allowed - 1) later c.heap))) same

-- one that is served at once
run-served : (s : Shape) (protected : List ℕ) (r : Request) (allowed : ℕ) (answers : List Answer) (heap here : Heap) (found : ℕ × ZoneMap)
    → prepared s protected r heap ≡ here → serve s here.table (front_slot here) here.map r ≡ Some found
    → request_run s protected r allowed answers heap ≡ record { given = Some found.0; heap = granted r found.0 found.1 here; asks = []; left = answers }
run-served s protected r allowed [] heap here found is serves =
    ap (λ mid. last s r mid (carried_out s protected [] mid) (allowed == 0) (trial s r mid)) is
    ∙ ap (last s r here (carried_out s protected [] here) (allowed == 0)) serves
run-served s protected r allowed (a ∷ later) heap here found is serves =
    ap (λ mid. (let c = carried_out s protected a.calls mid in
    once s r mid c a (allowed == 0) (a.value == 0) (trial s r mid) later (request_run s protected r (allowed - 1) later c.heap))) is
    ∙ (let c = carried_out s protected a.calls here in
    ap (λ o. once s r here c a (allowed == 0) (a.value == 0) o later (request_run s protected r (allowed - 1) later c.heap)) serves)

-- calls that copy alike end alike
end-same : (call : MemoryCall) (t u : HandleTable) → ((x : ℕ) (v : HandleTable) → table_copied call x t v ≡ table_copied call x u v)
    → (asks : List Ask) (e : Ending) (o : Option ℕ) → request_end call t asks e o ≡ request_end call u asks e o
end-same call t u copied asks e None = refl
end-same call t u copied asks e (Some x) =
    ap (λ v. let end : StepEnd = record { outcome = Ok (given_results call x); heap = with_table v e.heap; asks = asks ++ e.asks; left = e.left } in end) (copied x e.heap.table)

-- ---- a call just before it purges

-- From another heap the call does what it does from this one, also once the first handle is empty, which may be purged.
record Exact (s : Shape) (call : MemoryCall) (heap : Heap) (before : BeforePurge) : Type 0 where
  sound : Sound s before.heap
  table : before.heap.table ≡ heap.table
  candidate : (h : ℕ) → before.next ≡ Some h → IsCandidate before.heap.table [] h
  ready : (answers : List Answer) → exact_step s answers before.heap call ≡ exact_step s answers heap call
  emptied : (h : ℕ) → before.next ≡ Some h → (answers : List Answer) → exact_step s answers (with_emptied before.heap h) call ≡ exact_step s answers heap call

exact-after : (s : Shape) (call : MemoryCall) (heap other : Heap) (before : BeforePurge) → other.table ≡ heap.table
    → ((answers : List Answer) → exact_step s answers other call ≡ exact_step s answers heap call) → Exact s call other before → Exact s call heap before
exact-after s call heap other before table same exact = record {
  sound = exact.sound;
  table = exact.table ∙ table;
  candidate = exact.candidate;
  ready = λ answers. exact.ready answers ∙ same answers;
  emptied = λ h some answers. exact.emptied h some answers ∙ same answers;
}

exact-none : (s : Shape) (call : MemoryCall) (heap : Heap) → Sound s heap → Exact s call heap (none_before heap)
exact-none s call heap sound = record {
  sound = sound;
  table = refl;
  candidate = λ h some. absurd (cc some);
  ready = λ answers. refl;
  emptied = λ h some. absurd (cc some);
}

unprotected-candidate : (t : HandleTable) (protected : List ℕ) (h : ℕ) → IsCandidate t protected h → IsCandidate t [] h
unprotected-candidate t protected h is = record { may = is.may; full = is.full; unprotected = refl }

-- a new master block has free slots
pub master-slots : (makes : Bool) (n x : ℕ) (xs : List ℕ) → (makes && has_none (slots_from (suc n) x ++ xs)) ≡ false
master-slots true n x xs = refl
master-slots false n x xs = refl

module _ (s : Shape) (call : MemoryCall) (r : Request) where
  abbrev guarded : List ℕ
  guarded = protected_by call

  abbrev makes : Heap → Bool
  makes heap = makes_handle r && has_none heap.free_slots

  module _ (heap : Heap) (sound : Sound s heap) (passes : refusal s heap call ≡ None) (requests : request_of heap.table call ≡ Some r) where
    same : (after : Heap) → Kept guarded heap after → SameCall s call heap after
    same after kept = same-call s heap after call kept (ap is_some requests)

    -- the call made here, and made after what it protects was kept
    step-is : (b : Bool) → makes heap ≡ b → (answers : List Answer) → exact_step s answers heap call ≡ request_step s answers heap call b r
    step-is b is answers = ap (step_unless s answers heap call) passes ∙ ap (step_asking s answers heap call) requests ∙ ap (λ b. request_step s answers heap call b r) is

    step-after : (after : Heap) → Kept guarded heap after → (b : Bool) → makes after ≡ b → (answers : List Answer)
        → exact_step s answers after call ≡ request_step s answers after call b r
    step-after after kept b is answers =
        let alike = same after kept in
        ap (step_unless s answers after call) (alike.refusal ∙ passes) ∙ ap (step_asking s answers after call) (alike.request ∙ requests)
        ∙ ap (λ b. request_step s answers after call b r) is

    -- its request is prepared alike there
    own-same : (after : Heap) → Kept guarded heap after → after.free_slots ≡ heap.free_slots → makes heap ≡ false
        → prepared s guarded r after ≡ prepared s guarded r heap → (answers : List Answer) → exact_step s answers after call ≡ exact_step s answers heap call
    own-same after kept slots has prepares answers =
        let alike = same after kept in
        step-after after kept false (ap (λ xs. makes_handle r && has_none xs) slots ∙ has) answers
        ∙ ap (λ (e : Ending). request_end call after.table [] e e.given) (run-prepared s guarded r most_answers answers after heap prepares)
        ∙ (let e = request_run s guarded r most_answers answers heap in end-same call after.table heap.table alike.copied [] e e.given)
        ∙ sym (step-is false has answers)

    -- or that for a master block is
    master-same : (after : Heap) → Kept guarded heap after → after.free_slots ≡ heap.free_slots → makes heap ≡ true
        → prepared s guarded NewMaster after ≡ prepared s guarded NewMaster heap → (answers : List Answer) → exact_step s answers after call ≡ exact_step s answers heap call
    master-same after kept slots lacks prepares answers =
        let alike = same after kept in
        step-after after kept true (ap (λ xs. makes_handle r && has_none xs) slots ∙ lacks) answers
        ∙ ap (λ (master : Ending). let e = after_master s guarded r master master.given in request_end call after.table master.asks e e.given)
        (run-prepared s guarded NewMaster most_answers answers after heap prepares)
        ∙ (let master = request_run s guarded NewMaster most_answers answers heap in
        let e = after_master s guarded r master master.given in end-same call after.table heap.table alike.copied master.asks e e.given)
        ∙ sym (step-is true lacks answers)

    -- by a request, the call's own or that for a master block
    exact-by : (q : Request) → ((after : Heap) → Kept guarded heap after → after.free_slots ≡ heap.free_slots → prepared s guarded q after ≡ prepared s guarded q heap
        → (answers : List Answer) → exact_step s answers after call ≡ exact_step s answers heap call) → Exact s call heap (before_purge s guarded q heap)
    exact-by q by = record {
      sound = sound-ready s guarded q heap sound;
      table = table-ready s q heap;
      candidate = λ h some. unprotected-candidate (grown_for s q heap).table guarded h (ready-candidate s guarded q heap sound h some);
      ready = by (grown_for s q heap) (kept-ready s guarded q heap) (slots-ready s q heap) (prepared-ready s guarded q heap sound);
      emptied = λ h some. by (with_emptied (grown_for s q heap) h)
          (kept-then guarded heap (grown_for s q heap) (with_emptied (grown_for s q heap) h) (kept-ready s guarded q heap)
          (kept-emptied guarded (grown_for s q heap) h (ready-candidate s guarded q heap sound h some).unprotected))
          (slots-ready s q heap) (prepared-emptied s guarded q heap sound h some);
    }

    exact-own : makes heap ≡ false → Exact s call heap (before_purge s guarded r heap)
    exact-own has = exact-by r (λ after kept slots. own-same after kept slots has)

    exact-master : makes heap ≡ true → Exact s call heap (before_purge s guarded NewMaster heap)
    exact-master lacks = exact-by NewMaster (λ after kept slots. master-same after kept slots lacks)

  -- once a master block is made without a purge, the call does what it does before
  module _ (heap : Heap) (sound : Sound s heap) (passes : refusal s heap call ≡ None) (requests : request_of heap.table call ≡ Some r) (lacks : makes heap ≡ true) where
    abbrev master : BeforePurge
    master = before_purge s guarded NewMaster heap

    exact-made : (made : ℕ × Heap) → master.next ≡ None → attempted s NewMaster master.heap ≡ Some made → Exact s call heap (before_purge s guarded r made.1)
    exact-made made none serves = by_found (attempted-parts s NewMaster master.heap made.0 made.1 serves)
      where
        by_found : (m : ZoneMap) × (serve s master.heap.table (front_slot master.heap) master.heap.map NewMaster ≡ Some (made.0, m)) × (granted NewMaster made.0 m master.heap ≡ made.1)
            → Exact s call heap (before_purge s guarded r made.1)
        by_found found = subst (λ new. Exact s call heap (before_purge s guarded r new)) found.2 (exact-after s call heap new (before_purge s guarded r new) table here exact)
          where
            new : Heap
            new = granted NewMaster made.0 found.0 master.heap

            table : new.table ≡ heap.table
            table = table-ready s NewMaster heap

            slot : makes new ≡ false
            slot = master-slots (makes_handle r) 63 made.0 master.heap.free_slots

            kept : Kept guarded heap new
            kept = record { protects = λ y among. ap (λ t. live_at t y) table; lent = ap (λ (t : HandleTable). t.lent) table }

            here : (answers : List Answer) → exact_step s answers new call ≡ exact_step s answers heap call
            here answers =
                step-after heap sound passes requests new kept false slot answers
                ∙ (let e = request_run s guarded r most_answers answers new in
                end-same call new.table heap.table (λ x v. ap (λ t. table_copied call x t v) table) [] e e.given)
                ∙ sym (ap (λ (master : Ending). let e = after_master s guarded r master master.given in request_end call heap.table master.asks e e.given)
                (run-served s guarded NewMaster most_answers answers heap master.heap (made.0, found.0) (prepared-none s guarded NewMaster heap sound none) found.1))
                ∙ sym (step-is heap sound passes requests true lacks answers)

            exact : Exact s call new (before_purge s guarded r new)
            exact =
                let alike = same heap sound passes requests new kept in
                exact-own new (subst (Sound s) (sym found.2) (sound-attempted s NewMaster master.heap made.0 made.1 (sound-ready s guarded NewMaster heap sound) tt serves))
                (alike.refusal ∙ passes) (alike.request ∙ requests) slot

  exact-request : (heap : Heap) (b : Bool) → Sound s heap → refusal s heap call ≡ None → request_of heap.table call ≡ Some r → makes heap ≡ b
      → Exact s call heap (before_request s guarded r heap b)
  exact-request heap false sound passes requests has = exact-own heap sound passes requests has
  exact-request heap true sound passes requests lacks =
      let master = before_purge s guarded NewMaster heap in by_parts master.next (attempted s NewMaster master.heap) refl refl
    where
      by_parts : (o : Option ℕ) (served : Option (ℕ × Heap)) → (before_purge s guarded NewMaster heap).next ≡ o → attempted s NewMaster (before_purge s guarded NewMaster heap).heap ≡ served
          → Exact s call heap (before_after s guarded r (before_purge s guarded NewMaster heap) o served)
      by_parts (Some h) served is serves = exact-master heap sound passes requests lacks
      by_parts None None is serves = exact-master heap sound passes requests lacks
      by_parts None (Some made) is serves = exact-made heap sound passes requests lacks made is serves

-- ---- a call that makes no request

module _ (s : Shape) (heap : Heap) (sound : Sound s heap) where
  abbrev after_quiet : MemoryCall → List Answer → Heap → StepEnd
  after_quiet call answers mid = let after = effect_of s call mid in record { outcome = quiet_outcome s after call; heap = after; asks = []; left = answers }

  left-over : (h : ℕ) (rest : List ℕ) → candidates_in heap.table [] heap.map ≡ h ∷ rest → candidates_in (emptied h heap.table) [] (released h heap.map) ≡ rest
  left-over h rest first = candidates-step s [] NewEmpty heap h rest sound first

  purged_for-step : (n h : ℕ) (rest : List ℕ) → candidates_in heap.table [] heap.map ≡ h ∷ rest → nat_le n (largest_free heap.map) ≡ false
      → purged_for n (with_emptied heap h) ≡ purged_for n heap
  purged_for-step n h rest first less =
      let enough : ZoneMap → Bool = λ m. nat_le n (largest_free m) in
      ap (λ hs. with_all_emptied (purged_until enough hs (released h heap.map)) (with_emptied heap h)) (left-over h rest first)
      ∙ sym (until-step enough h rest heap less) ∙ sym (ap (λ hs. with_all_emptied (purged_until enough hs heap.map) heap) first)

  all_purged-step : (h : ℕ) (rest : List ℕ) → candidates_in heap.table [] heap.map ≡ h ∷ rest → all_purged (with_emptied heap h) ≡ all_purged heap
  all_purged-step h rest first = ap (λ hs. with_all_emptied hs (with_emptied heap h)) (left-over h rest first) ∙ sym (ap (λ hs. with_all_emptied hs heap) first)

  -- what such a call does with more emptied of what it purges anyway
  exact-emptied : (call : MemoryCall) (next : Option ℕ) → ((h : ℕ) → next ≡ Some h → IsCandidate heap.table [] h)
      → refusal s heap call ≡ None → request_of heap.table call ≡ None
      → ((h : ℕ) → next ≡ Some h → (refusal s (with_emptied heap h) call ≡ None) × (request_of (with_emptied heap h).table call ≡ None)
      × (rearranged call (with_emptied heap h) ≡ rearranged call heap))
      → Exact s call heap (record { heap = heap; next = next })
  exact-emptied call next candidate passes none alike = record {
    sound = sound;
    table = refl;
    candidate = candidate;
    ready = λ answers. refl;
    emptied = λ h some answers. (let known = alike h some in
        ap (step_unless s answers (with_emptied heap h) call) known.0 ∙ ap (step_asking s answers (with_emptied heap h) call) known.1
        ∙ ap (after_quiet call answers) known.2
        ∙ sym (ap (step_unless s answers heap call) passes ∙ ap (step_asking s answers heap call) none));
  }

  first-of-all : (h : ℕ) (hs : List ℕ) → slice_get hs 0 ≡ Some h → (rest : List ℕ) × (hs ≡ h ∷ rest)
  first-of-all h [] is = absurd (cc is)
  first-of-all h (g ∷ hs) is = let same : g ≡ h = cc is in (hs, ap (λ g. g ∷ hs) same)

  in-all : (h : ℕ) → (rest : List ℕ) × (candidates_in heap.table [] heap.map ≡ h ∷ rest) → IsCandidate heap.table [] h
  in-all h known = first-candidate s [] NewEmpty heap h known.0 sound known.1

  exact-quiet : (call : MemoryCall) → refusal s heap call ≡ None → request_of heap.table call ≡ None → Exact s call heap (before_quiet call heap)
  exact-quiet (OnZone (PurgeMem n)) passes none =
      let hs = candidates_in heap.table [] heap.map in
      let first : (h : ℕ) → next_to n heap ≡ Some h → (nat_le n (largest_free heap.map) ≡ false) × ((rest : List ℕ) × (hs ≡ h ∷ rest)) =
      first-some (nat_le n (largest_free heap.map)) hs in
      exact-emptied (OnZone (PurgeMem n)) (next_to n heap) (λ h some. in-all h (first h some).1) passes none
      (λ h some. (passes, refl, purged_for-step n h (first h some).1.0 (first h some).1.1 (first h some).0))
  exact-quiet (OnZone MaxMem) passes none =
      let first : (h : ℕ) → next_of_all heap ≡ Some h → (rest : List ℕ) × (candidates_in heap.table [] heap.map ≡ h ∷ rest) =
      λ h. first-of-all h (candidates_in heap.table [] heap.map) in
      exact-emptied (OnZone MaxMem) (next_of_all heap) (λ h some. in-all h (first h some)) passes none
      (λ h some. (passes, refl, max_mem-step h (first h some)))
    where
      max_mem-step : (h : ℕ) → (rest : List ℕ) × (candidates_in heap.table [] heap.map ≡ h ∷ rest) → rearranged (OnZone MaxMem) (with_emptied heap h) ≡ rearranged (OnZone MaxMem) heap
      max_mem-step h known =
          let before : Heap = with_emptied heap h in
          ap (λ m. with_map m (all_purged before)) (sym (all_down-purged before))
          ∙ ap (λ (all : Heap). with_map (all_down all.table all.map) all) (all_purged-step h known.0 known.1)
          ∙ ap (λ m. with_map m (all_purged heap)) (all_down-purged heap)
  exact-quiet (OnZone (CompactMem n)) passes none = exact-none s (OnZone (CompactMem n)) heap sound
  exact-quiet (OnZone PurgeSpace) passes none = exact-none s (OnZone PurgeSpace) heap sound
  exact-quiet (OnZone MaxBlock) passes none = exact-none s (OnZone MaxBlock) heap sound
  exact-quiet (OnZone FreeMem) passes none = exact-none s (OnZone FreeMem) heap sound
  exact-quiet (OnZone MaxApplZone) passes none = exact-none s (OnZone MaxApplZone) heap sound
  exact-quiet (OnBlock call) passes none = exact-none s (OnBlock call) heap sound
  exact-quiet (Showing call) passes none = exact-none s (Showing call) heap sound
  exact-quiet (Requesting call) passes none = exact-none s (Requesting call) heap sound
  exact-quiet (Filling call) passes none = exact-none s (Filling call) heap sound

-- ---- any call

exact-asking : (s : Shape) (call : MemoryCall) (heap : Heap) (o : Option Request) → Sound s heap → refusal s heap call ≡ None → request_of heap.table call ≡ o
    → Exact s call heap (before_asking s heap call o)
exact-asking s call heap (Some r) sound passes requests = exact-request s call r heap (makes_handle r && has_none heap.free_slots) sound passes requests refl
exact-asking s call heap None sound passes requests = exact-quiet s heap sound call passes requests

exact-unless : (s : Shape) (call : MemoryCall) (heap : Heap) (o : Option OsErr) → Sound s heap → refusal s heap call ≡ o → Exact s call heap (before_unless s heap call o)
exact-unless s call heap (Some code) sound is = exact-none s call heap sound
exact-unless s call heap None sound is = exact-asking s call heap (request_of heap.table call) sound is refl

exact-before : (s : Shape) (call : MemoryCall) (heap : Heap) → Sound s heap → Exact s call heap (before_call s heap call)
exact-before s call heap sound = exact-unless s call heap (refusal s heap call) sound refl

pub ready_is_exact : ReadyIsExact
ready_is_exact s answers heap call sound = (exact-before s call heap sound).ready answers

-- ---- what is purged may be emptied

-- nothing is the handle 0
not-zero : (s : Shape) (heap : Heap) (h : ℕ) → Sound s heap → is_handle heap.table h ≡ true → (h == 0) ≡ false
not-zero s heap h sound handle = elim (h == 0) as (λ b. (h == 0) ≡ b → b ≡ false) [
  | true ↦ λ zero. (let is : h ≡ 0 = eqb-true h 0 zero in
      absurd (true≢false (sym handle ∙ ap (is_handle heap.table) is ∙ nil-no_handle s heap.table heap.map sound.suits)))
  | false ↦ λ _. refl
] refl

empty-step : (s : Shape) (heap : Heap) (h : ℕ) → Sound s heap → LoansAreFixed heap → IsCandidate heap.table [] h
    → exact_step s [] heap (OnBlock (EmptyHandleCall h)) ≡ record { outcome = Ok Nothing; heap = with_emptied heap h; asks = []; left = [] }
empty-step s heap h sound fixed is = ap (step_unless s [] heap (OnBlock (EmptyHandleCall h))) passes
  where
    passes : refusal s heap (OnBlock (EmptyHandleCall h)) ≡ None
    passes = rw (not-zero s heap h sound is.may.handle, is.may.handle, candidate-here heap [] h fixed is, is.may.unlocked) refl

-- what is lent is fixed just before a call purges, too
fixed-before : (s : Shape) (call : MemoryCall) (heap : Heap) → Sound s heap → LoansAreFixed heap → LoansAreFixed (before_call s heap call).heap
fixed-before s call heap sound fixed = subst (λ (t : HandleTable). (x : ℕ) → IsTrue (is_lent t x) → IsTrue (is_pointer t x || is_locked t x)) (sym (exact-before s call heap sound).table) fixed

fixed-emptied : (heap : Heap) (h : ℕ) → IsCandidate heap.table [] h → LoansAreFixed heap → LoansAreFixed (with_emptied heap h)
fixed-emptied heap h is fixed = spared-fixed heap (with_emptied heap h) (spared-released (Empties h) heap (candidate-here heap [] h fixed is)) fixed

module _ (s : Shape) (call : MemoryCall) (heap : Heap) (h : ℕ) (sound : Sound s heap) (fixed : LoansAreFixed heap) (some : (before_call s heap call).next ≡ Some h) where
  abbrev before : BeforePurge
  before = before_call s heap call

  candidate-next : IsCandidate before.heap.table [] h
  candidate-next = (exact-before s call heap sound).candidate h some

  -- it is emptied so
  emptied-is : exact_step s [] before.heap (OnBlock (EmptyHandleCall h)) ≡ record { outcome = Ok Nothing; heap = with_emptied before.heap h; asks = []; left = [] }
  emptied-is = empty-step s before.heap h (exact-before s call heap sound).sound (fixed-before s call heap sound fixed) candidate-next

  emptied-exact : (answers : List Answer) → exact_step s answers (with_emptied before.heap h) call ≡ exact_step s answers heap call
  emptied-exact answers = (exact-before s call heap sound).emptied h some answers

  emptied-sound : Sound s (with_emptied before.heap h)
  emptied-sound = sound-emptied s before.heap h (exact-before s call heap sound).sound candidate-next.may.handle

  emptied-fixed : LoansAreFixed (with_emptied before.heap h)
  emptied-fixed = fixed-emptied before.heap h candidate-next (fixed-before s call heap sound fixed)

pub emptied_is_exact : EmptiedIsExact
emptied_is_exact s answers heap call h sound fixed some =
    let is = emptied-is s call heap h sound fixed some in
    (ap (λ (e : StepEnd). e.outcome) is, ap (λ (e : StepEnd). exact_step s answers e.heap call) is ∙ emptied-exact s call heap h sound fixed some answers)

pub in_turn_is_exact : InTurnIsExact
in_turn_is_exact s answers heap call [] last sound fixed turns = ap (λ heap. exact_step s answers heap call) turns.1 ∙ ready_is_exact s answers heap call sound
in_turn_is_exact s answers heap call (h ∷ hs) last sound fixed turns =
    let is = ap (λ (e : StepEnd). e.heap) (emptied-is s call heap h sound fixed turns.0) in
    in_turn_is_exact s answers (with_emptied (before_call s heap call).heap h) call hs last (emptied-sound s call heap h sound fixed turns.0) (emptied-fixed s call heap h sound fixed turns.0)
    (subst (λ heap. PurgesInTurn s call heap hs last) is turns.1)
    ∙ emptied-exact s call heap h sound fixed turns.0 answers

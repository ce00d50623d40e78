-- A copy from a pointer is what a call makes of the pointer's bytes that brings them: a pointer isn't purged, so it is
-- all the same whether it is protected.
use Rattle.std.proofs.Common.{arith, ◌≡◌, ℕ, ◌+◌, ◌-◌, ◌≤◌, Bool, true, false, not, cond, eqb, List, [], ◌∷◌, ◌++◌, length, take, Option, Some, None, MatchOption, refl, ap, sym, subst, ◌∙◌}
use Rattle.std.specs.Prelude.{◌&&◌, ◌||◌, ◌==◌, filter, filter_map, nat_le}
use Rattle.std.specs.List.{list_all}
use Rattle.std.specs.Option.{option_or}
use Rattle.std.proofs.lemmas.Bool.{and_parts, eqb-true, le-leb, or_left}
use Rattle.mac_base.specs.declared.block.Entry.{Entry}
use Rattle.mac_base.specs.declared.error.OsErr.TheVariants.{ParamErr}
use Rattle.mac_base.specs.declared.releasing.ReleasingCall.{ReleasingCall}
use Rattle.mac_base.specs.declared.request.Request.{Request}
use Rattle.mac_base.specs.declared.request.Request.TheVariants.{NewBlock, NewMaster, Resize}
use Rattle.mac_base.specs.HandleTable.{HandleTable, Live, bytes_of, is_pointer, is_purgeable, live_at, live_flags, live_full, live_pointer}
use Rattle.mac_base.specs.HeadKind.{Shape, max_size}
use Rattle.mac_base.specs.Heap.{Heap, front_slot, grown, has_none, with_all_emptied}
use Rattle.mac_base.specs.Releasing.{heap_released, operand_of}
use Rattle.mac_base.specs.Request.{blocks_to_purge, candidates, fits, is_among, makes_handle, purged_until}
use Rattle.mac_base.specs.Serve.{serve}
use Rattle.mac_base.specs.Sound.{Sound}
use Rattle.mac_base.specs.ZoneMap.{ZoneMap, handle_of}
use Rattle.mac_base.specs.declared.memory_call.MemoryCall.{MemoryCall}
use Rattle.mac_base.specs.declared.memory_call.MemoryCall.TheVariants.{Filling}
use Rattle.mac_base.specs.declared.memory_call.FillingCall.TheVariants.{Append, NewHandleOf, PtrAndHand, PtrToHand, PtrToXHand, SetHandleTo}
use Rattle.mac_base.specs.Effect.{request_of}
use Rattle.mac_base.specs.ExactRequest.{Ending, after_ask, asked, prepared, request_run, served_or, unserved}
use Rattle.mac_base.specs.ExactStep.{after_master, exact_step, request_end, request_step, step_asking, step_unless}
use Rattle.mac_base.specs.GrowZone.{Answer, Ask, Carried, carried_from, carried_once, carried_out, heap_unless, memory_call as as_call, most_answers}
use Rattle.mac_base.specs.Tests.{IsHandle, IsPointer, IsSize, IsWithin, NotEmpty, NotLent, first_refusal, protected_by, refusal, refused_by, unless_passed}
use Rattle.zone_laws.proofs.Tables.{eqb_same, eqb_swap}
use Rattle.zone_laws.specs.Brought.{CopiesAreBrought, DoesAs, leave_alone}
use Rattle.zone_laws.proofs.Prepared.{prepared-is}
use Rattle.zone_laws.proofs.Refusals.{first_passed, passed-IsPointer, passed-IsWithin}
use Rattle.zone_laws.proofs.RunPermitted.{Grants, KeepsRunning, RunFacts, run-facts, running-carried_out, running-prepared}
use Rattle.zone_laws.proofs.SoundCarried.{sound-carried_out}
use Rattle.zone_laws.proofs.StepRequests.{length-taken}

-- a pointer isn't purgeable
pointer_stays : (o : Option Live) → live_pointer o ≡ true → (live_full o && ((live_flags o).purge && not (live_flags o).lock)) ≡ false
pointer_stays v0 h = grind arith

module _ (p : ℕ) (ps : List ℕ) where
  -- ---- what may be purged

  same-candidate : (t : HandleTable) (h : ℕ) → is_pointer t p ≡ true → (is_purgeable t h && not (is_among (p ∷ ps) h)) ≡ (is_purgeable t h && not (is_among ps h))
  same-candidate t h pointer = by_case (eqb p h) refl
    where
      by_case : (b : Bool) → eqb p h ≡ b → (is_purgeable t h && not (b || is_among ps h)) ≡ (is_purgeable t h && not (is_among ps h))
      by_case false apart = refl
      by_case true same =
          let stays : is_purgeable t h ≡ false = ap (is_purgeable t) (sym (eqb-true p h same)) ∙ pointer_stays (live_at t p) pointer in
          ap (λ b. b && false) stays ∙ sym (ap (λ b. b && not (is_among ps h)) stays)

  same-filter : (t : HandleTable) (hs : List ℕ) → is_pointer t p ≡ true → filter (λ h. is_purgeable t h && not (is_among (p ∷ ps) h)) hs ≡ filter (λ h. is_purgeable t h && not (is_among ps h)) hs
  same-filter t [] pointer = refl
  same-filter t (h ∷ hs) pointer =
      ap (λ b. cond b (h ∷ filter (λ h. is_purgeable t h && not (is_among (p ∷ ps) h)) hs) (filter (λ h. is_purgeable t h && not (is_among (p ∷ ps) h)) hs)) (same-candidate t h pointer)
      ∙ ap (λ rest. cond (is_purgeable t h && not (is_among ps h)) (h ∷ rest) rest) (same-filter t hs pointer)

  same-candidates : (t : HandleTable) (r : Request) (m : ZoneMap) → is_pointer t p ≡ true → candidates t (p ∷ ps) r m ≡ candidates t ps r m
  same-candidates t r m pointer = same-filter t (filter_map (λ (e : Entry). handle_of e.kind) (blocks_to_purge t r m)) pointer

  same-prepared : (s : Shape) (r : Request) (heap : Heap) → is_pointer heap.table p ≡ true → prepared s (p ∷ ps) r heap ≡ prepared s ps r heap
  same-prepared s r heap pointer =
      let wide = grown s heap in
      ap (λ hs. cond (fits s heap.table r heap.map) heap (with_all_emptied (purged_until (fits s heap.table r) hs wide.map) wide)) (same-candidates heap.table r wide.map pointer)

  -- ---- what an answer releases

  -- of the calls of an answer none is on p
  abbrev spares : List ReleasingCall → Bool
  spares calls = list_all (λ (c : ReleasingCall). not (operand_of c == p)) calls

  apart_from : (call : ReleasingCall) → not (operand_of call == p) ≡ true → eqb p (operand_of call) ≡ false
  apart_from call h = eqb_swap p (operand_of call) ∙ (elim (eqb (operand_of call) p) as (λ b. not b ≡ true → b ≡ false) [ true ↦ λ no. absurd (cc no) | false ↦ λ _. refl ]) h

  same-once : (s : Shape) (call : ReleasingCall) (c : Carried) → not (operand_of call == p) ≡ true → carried_once s (p ∷ ps) call c ≡ carried_once s ps call c
  same-once s call c other =
      let code = refusal s c.heap (as_call call) in
      ap (λ b. cond (b || is_among ps (operand_of call)) c (record { heap = heap_unless code (heap_released call c.heap) c.heap; calls = c.calls ++ (call, code) ∷ [] })) (apart_from call other)

  same-from : (s : Shape) (calls : List ReleasingCall) (c : Carried) → spares calls ≡ true → carried_from s (p ∷ ps) calls c ≡ carried_from s ps calls c
  same-from s [] c spared = refl
  same-from s (call ∷ calls) c spared =
      let both = and_parts (not (operand_of call == p)) (spares calls) spared in
      ap (carried_from s (p ∷ ps) calls) (same-once s call c both.0) ∙ same-from s calls (carried_once s ps call c) both.1

  same-carried : (s : Shape) (calls : List ReleasingCall) (heap : Heap) → spares calls ≡ true → carried_out s (p ∷ ps) calls heap ≡ carried_out s ps calls heap
  same-carried s calls heap spared = same-from s calls (record { heap = heap; calls = [] }) spared

  -- ---- the run of a request

  -- p is protected
  among : is_among (p ∷ ps) p ≡ true
  among = or_left (eqb p p) (is_among ps p) (eqb_same p)

  still_pointer : (old new : Heap) → KeepsRunning (p ∷ ps) old new → is_pointer old.table p ≡ true → is_pointer new.table p ≡ true
  still_pointer old new keeps pointer = ap live_pointer (keeps.protects p among) ∙ pointer

  -- It ends alike, and the answers that it leaves spare p.
  record Alike (s : Shape) (r : Request) (allowed : ℕ) (answers : List Answer) (heap : Heap) : Type 0 where
    same : request_run s (p ∷ ps) r allowed answers heap ≡ request_run s ps r allowed answers heap
    left : leave_alone p (request_run s ps r allowed answers heap).left ≡ true

  left-served : (r : Request) (mid : Heap) (left : List Answer) (other : Ending) (o : Option (ℕ × ZoneMap)) → leave_alone p left ≡ true → leave_alone p other.left ≡ true → leave_alone p (served_or r mid left other o).left ≡ true
  left-served r mid left other (Some found) all rest = all
  left-served r mid left other None all rest = rest

  run-alike : (s : Shape) (r : Request) (allowed : ℕ) (answers : List Answer) (heap : Heap) → Sound s heap → is_pointer heap.table p ≡ true → leave_alone p answers ≡ true → Alike s r allowed answers heap
  run-alike s r allowed [] heap sound pointer spared =
      let mid = prepared s ps r heap in
      record {
        same = ap (λ (mid : Heap). served_or r mid [] (unserved mid (cond (allowed == 0) [] (asked s r None (record { heap = mid; calls = [] }) ∷ [])) []) (serve s mid.table (front_slot mid) mid.map r)) (same-prepared s r heap pointer);
        left = left-served r mid [] (unserved mid (cond (allowed == 0) [] (asked s r None (record { heap = mid; calls = [] }) ∷ [])) []) (serve s mid.table (front_slot mid) mid.map r) refl refl;
      }
  run-alike s r allowed (a ∷ later) heap sound pointer spared =
      let both = and_parts (spares a.calls) (leave_alone p later) spared in
      let guarded = prepared s (p ∷ ps) r heap in
      let mid = prepared s ps r heap in
      let c = carried_out s ps a.calls mid in
      let mid_is : guarded ≡ mid = same-prepared s r heap pointer in
      let c_is : carried_out s (p ∷ ps) a.calls guarded ≡ c = ap (carried_out s (p ∷ ps) a.calls) mid_is ∙ same-carried s a.calls mid both.0 in
      let pointer_mid = still_pointer heap guarded (running-prepared s (p ∷ ps) r heap guarded (prepared-is s (p ∷ ps) r heap sound)) pointer in
      let pointer_then = still_pointer guarded (carried_out s (p ∷ ps) a.calls guarded).heap (running-carried_out s (p ∷ ps) a.calls guarded) pointer_mid in
      let pointer_c : is_pointer c.heap.table p ≡ true = subst (λ (c : Carried). is_pointer c.heap.table p ≡ true) c_is pointer_then in
      let prepared_so = prepared-is s ps r heap sound in
      let next = run-alike s r (allowed - 1) later c.heap (sound-carried_out s ps a.calls mid prepared_so.sound) pointer_c both.1 in
      let ending : Heap → Carried → Ending → Ending = λ mid c next. served_or r mid (a ∷ later) (cond (allowed == 0) (unserved mid [] (a ∷ later)) (cond (a.value == 0) (unserved c.heap (asked s r (Some a) c ∷ []) later) (after_ask (asked s r (Some a) c) next))) (serve s mid.table (front_slot mid) mid.map r) in
      record {
        same = ap (λ (mid : Heap). ending mid (carried_out s (p ∷ ps) a.calls guarded) (request_run s (p ∷ ps) r (allowed - 1) later (carried_out s (p ∷ ps) a.calls guarded).heap)) mid_is
            ∙ ap (λ (c : Carried). ending mid c (request_run s (p ∷ ps) r (allowed - 1) later c.heap)) c_is ∙ ap (λ (next : Ending). ending mid c next) next.same;
        left = left-served r mid (a ∷ later) (cond (allowed == 0) (unserved mid [] (a ∷ later)) (cond (a.value == 0) (unserved c.heap (asked s r (Some a) c ∷ []) later) (after_ask (asked s r (Some a) c) (request_run s ps r (allowed - 1) later c.heap))))
            (serve s mid.table (front_slot mid) mid.map r) spared (unserved_left mid c (request_run s ps r (allowed - 1) later c.heap) (allowed == 0) (a.value == 0) both.1 next.left);
      }
    where
      unserved_left : (mid : Heap) (c : Carried) (next : Ending) (gone last : Bool) → leave_alone p later ≡ true → leave_alone p next.left ≡ true
          → leave_alone p (cond gone (unserved mid [] (a ∷ later)) (cond last (unserved c.heap (asked s r (Some a) c ∷ []) later) (after_ask (asked s r (Some a) c) next))).left ≡ true
      unserved_left mid c next true last rest then = spared
      unserved_left mid c next false true rest then = rest
      unserved_left mid c next false false rest then = then

  -- ---- the request of a call, after one for a master block where no slot is free

  -- the two requests of a call that makes a handle
  abbrev both_runs : Shape → List ℕ → Request → List Answer → Heap → Ending × Ending
  both_runs s protected r answers heap = let master = request_run s protected NewMaster most_answers answers heap in (master, after_master s protected r master master.given)

  after-alike : (s : Shape) (r : Request) (answers : List Answer) (heap : Heap) → Sound s heap → is_pointer heap.table p ≡ true → leave_alone p answers ≡ true → both_runs s (p ∷ ps) r answers heap ≡ both_runs s ps r answers heap
  after-alike s r answers heap sound pointer spared =
      let master = request_run s ps NewMaster most_answers answers heap in
      let first = run-alike s NewMaster most_answers answers heap sound pointer spared in
      let facts = subst (λ (e : Ending). RunFacts s (p ∷ ps) NewMaster most_answers heap e) first.same (run-facts s (p ∷ ps) NewMaster most_answers answers heap sound tt tt) in
      ap (λ (e : Ending). (e, after_master s (p ∷ ps) r e e.given)) first.same ∙ ap (λ (e : Ending). (master, e)) (by_given master.given (facts.grants) facts.sound first.left)
    where
      by_given : (given : Option ℕ) → (let master = request_run s ps NewMaster most_answers answers heap in MatchOption given (Unit {0}) (λ x. Grants (p ∷ ps) NewMaster x heap master.heap) → Sound s master.heap → leave_alone p master.left ≡ true
          → after_master s (p ∷ ps) r master given ≡ after_master s ps r master given)
      by_given None grants after left = refl
      by_given (Some x) grants after left =
          let master = request_run s ps NewMaster most_answers answers heap in
          let at : is_pointer master.heap.table p ≡ true = ap (λ (t : HandleTable). is_pointer t p) grants.table ∙ ap live_pointer (grants.protects p among) ∙ pointer in
          let then = run-alike s r (most_answers - length master.asks) master.left master.heap after at left in
          then.same

  -- two calls that end alike where their requests do, of which the one protects p, too
  step-alike : (s : Shape) (answers : List Answer) (heap : Heap) (call other : MemoryCall) (b : Bool) (r : Request) → protected_by call ≡ p ∷ ps → protected_by other ≡ ps
      → ((asks : List Ask) (e : Ending) (o : Option ℕ) → request_end call heap.table asks e o ≡ request_end other heap.table asks e o) → Sound s heap → is_pointer heap.table p ≡ true → leave_alone p answers ≡ true
      → request_step s answers heap call b r ≡ request_step s answers heap other b r
  step-alike s answers heap call other false r one two ends sound pointer spared =
      let e = request_run s ps r most_answers answers heap in
      let alike = run-alike s r most_answers answers heap sound pointer spared in
      ap (λ protected. (let e = request_run s protected r most_answers answers heap in request_end call heap.table [] e e.given)) one
      ∙ ap (λ (e : Ending). request_end call heap.table [] e e.given) alike.same ∙ ends [] e e.given
      ∙ sym (ap (λ protected. (let e = request_run s protected r most_answers answers heap in request_end other heap.table [] e e.given)) two)
  step-alike s answers heap call other true r one two ends sound pointer spared =
      let runs = both_runs s ps r answers heap in
      ap (λ protected. (let runs = both_runs s protected r answers heap in request_end call heap.table (runs.0).asks runs.1 (runs.1).given)) one
      ∙ ap (λ (runs : Ending × Ending). request_end call heap.table (runs.0).asks runs.1 (runs.1).given) (after-alike s r answers heap sound pointer spared) ∙ ends (runs.0).asks runs.1 (runs.1).given
      ∙ sym (ap (λ protected. (let runs = both_runs s protected r answers heap in request_end other heap.table (runs.0).asks runs.1 (runs.1).given)) two)

-- ---- the calls

module _ (s : Shape) (answers : List Answer) (heap : Heap) (sound : Sound s heap) (p n : ℕ) (few : n ≤ max_size) (spared : leave_alone p answers ≡ true) where
  -- the pointer's first n bytes
  abbrev source : List ℕ
  source = take n (bytes_of heap.table p)

  -- a call and the one that brings these bytes, where both pass their tests and make the same request
  calls-alike : (call other : MemoryCall) (ps : List ℕ) (r : Request) → refusal s heap call ≡ None → refusal s heap other ≡ None → request_of heap.table call ≡ Some r → request_of heap.table other ≡ Some r
      → protected_by call ≡ p ∷ ps → protected_by other ≡ ps → ((asks : List Ask) (e : Ending) (o : Option ℕ) → request_end call heap.table asks e o ≡ request_end other heap.table asks e o) → is_pointer heap.table p ≡ true
      → exact_step s answers heap call ≡ exact_step s answers heap other
  calls-alike call other ps r passes passed requests requested one two ends pointer =
      ap (step_unless s answers heap call) passes ∙ ap (step_asking s answers heap call) requests
      ∙ step-alike p ps s answers heap call other (makes_handle r && has_none heap.free_slots) r one two ends sound pointer spared
      ∙ sym (ap (step_unless s answers heap other) passed ∙ ap (step_asking s answers heap other) requested)

  -- so many bytes may be asked for
  sized : 0 + n ≤ length (bytes_of heap.table p) → refused_by s heap (IsSize (length source)) ≡ None
  sized within = ap (λ k. unless_passed ParamErr (nat_le k max_size)) (length-taken n (bytes_of heap.table p) within) ∙ ap (unless_passed ParamErr) (le-leb n max_size few)

  -- what the tests of a pointer and a handle say, and those of the handle and a size
  record Passed (h : ℕ) : Type 0 where
    pointer : is_pointer heap.table p ≡ true
    within : 0 + n ≤ length (bytes_of heap.table p)
    passes : first_refusal s heap (IsHandle h ∷ NotEmpty h ∷ NotLent h ∷ IsSize (length source) ∷ []) ≡ None

  all_pass : (h : ℕ) → first_refusal s heap (IsPointer p ∷ NotLent p ∷ IsHandle h ∷ NotEmpty h ∷ NotLent h ∷ IsWithin p 0 n ∷ []) ≡ None → Passed h
  all_pass h is =
      let one = first_passed s heap (IsPointer p) (NotLent p ∷ IsHandle h ∷ NotEmpty h ∷ NotLent h ∷ IsWithin p 0 n ∷ []) is in
      let two = first_passed s heap (NotLent p) (IsHandle h ∷ NotEmpty h ∷ NotLent h ∷ IsWithin p 0 n ∷ []) one.1 in
      let three = first_passed s heap (IsHandle h) (NotEmpty h ∷ NotLent h ∷ IsWithin p 0 n ∷ []) two.1 in
      let four = first_passed s heap (NotEmpty h) (NotLent h ∷ IsWithin p 0 n ∷ []) three.1 in
      let five = first_passed s heap (NotLent h) (IsWithin p 0 n ∷ []) four.1 in
      let within = passed-IsWithin s heap p 0 n (first_passed s heap (IsWithin p 0 n) [] five.1).0 in
      record { pointer = passed-IsPointer s heap p one.0; within = within; passes = rw (three.0, four.0, five.0, sized within) refl }

  -- the ends of a call and of the one that brings the bytes
  ends-new : (asks : List Ask) (e : Ending) (o : Option ℕ) → request_end (Filling (PtrToHand p n)) heap.table asks e o ≡ request_end (Filling (NewHandleOf source)) heap.table asks e o
  ends-new asks e None = refl
  ends-new asks e (Some x) = refl

  ends-set : (h : ℕ) (asks : List Ask) (e : Ending) (o : Option ℕ) → request_end (Filling (PtrToXHand p h n)) heap.table asks e o ≡ request_end (Filling (SetHandleTo h source)) heap.table asks e o
  ends-set h asks e None = refl
  ends-set h asks e (Some x) = refl

  ends-more : (h : ℕ) (asks : List Ask) (e : Ending) (o : Option ℕ) → request_end (Filling (PtrAndHand p h n)) heap.table asks e o ≡ request_end (Filling (Append h source)) heap.table asks e o
  ends-more h asks e None = refl
  ends-more h asks e (Some x) = refl

  pub new-alike : DoesAs s answers heap (Filling (PtrToHand p n)) (Filling (NewHandleOf source))
  new-alike passes =
      let one = first_passed s heap (IsPointer p) (NotLent p ∷ IsWithin p 0 n ∷ []) passes in
      let two = first_passed s heap (NotLent p) (IsWithin p 0 n ∷ []) one.1 in
      let within = passed-IsWithin s heap p 0 n (first_passed s heap (IsWithin p 0 n) [] two.1).0 in
      calls-alike (Filling (PtrToHand p n)) (Filling (NewHandleOf source)) [] (NewBlock n) passes (ap (λ o. option_or o None) (sized within)) refl (ap (λ k. Some (NewBlock k)) (length-taken n (bytes_of heap.table p) within)) refl refl ends-new (passed-IsPointer s heap p one.0)

  pub set-alike : (h : ℕ) → DoesAs s answers heap (Filling (PtrToXHand p h n)) (Filling (SetHandleTo h source))
  set-alike h passes =
      let all = all_pass h passes in
      calls-alike (Filling (PtrToXHand p h n)) (Filling (SetHandleTo h source)) (h ∷ []) (Resize h n) passes all.passes refl (ap (λ k. Some (Resize h k)) (length-taken n (bytes_of heap.table p) all.within)) refl refl (ends-set h) all.pointer

  pub more-alike : (h : ℕ) → DoesAs s answers heap (Filling (PtrAndHand p h n)) (Filling (Append h source))
  more-alike h passes =
      let all = all_pass h passes in
      calls-alike (Filling (PtrAndHand p h n)) (Filling (Append h source)) (h ∷ []) (Resize h (length (bytes_of heap.table h) + n)) passes all.passes refl
      (ap (λ k. Some (Resize h (length (bytes_of heap.table h) + k))) (length-taken n (bytes_of heap.table p) all.within)) refl refl (ends-more h) all.pointer

pub copies-brought : CopiesAreBrought
copies-brought s answers heap p h n sound few spared = (new-alike s answers heap sound p n few spared, set-alike s answers heap sound p n few spared h, more-alike s answers heap sound p n few spared h)

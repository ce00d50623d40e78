-- The run of a call's request after one for a master block.
use Rattle.std.proofs.Common.{◌≡◌, ℕ, ◌-◌, Bool, true, false, cond, eqb, List, [], ◌∷◌, ◌++◌, length, Option, Some, None, refl, ap, sym, ◌∙◌, arith}
use Rattle.std.specs.Prelude.{is_some, ◌&&◌}
use Rattle.std.specs.List.{list_all}
use Rattle.std.proofs.lemmas.List.Elements.{filter_map-append}
use Rattle.mac_base.specs.HeadKind.{Shape}
use Rattle.mac_base.specs.ZoneMap.{ZoneMap}
use Rattle.mac_base.specs.Heap.{Heap, front_slot, has_none}
use Rattle.mac_base.specs.declared.request.Request.{Request}
use Rattle.mac_base.specs.declared.request.Request.TheVariants.{NewMaster}
use Rattle.mac_base.specs.Serve.{serve}
use Rattle.mac_base.specs.GrowZone.{Answer, Ask, answers_in, most_answers, carried_out}
use Rattle.mac_base.specs.ExactRequest.{Ending, unserved, served_or, after_ask, asked, prepared, request_run}
use Rattle.mac_base.specs.ExactStep.{after_master}
use Rattle.zone_heap.specs.Attempts.{lacks_slot}
use Rattle.mac_base.specs.Request.{makes_handle}
use Rattle.mem_calls.specs.Requesting.{MayAskMore, IsRun, IsCallRun, call_run, given_or_full}
use Rattle.mem_calls.proofs.Running.{other_answered}

-- what holds of each run that is served
module _ (s : Shape) (protected : List ℕ) (r : Request) (x : ℕ) where
  by_serve : (P : Ending → Type 0) (mid : Heap) (left : List Answer) (other : Ending) (o : Option (ℕ × ZoneMap)) → ((found : ℕ × ZoneMap) → P (served_or r mid left other (Some found))) → (other.given ≡ Some x → P other)
      → (served_or r mid left other o).given ≡ Some x → P (served_or r mid left other o)
  by_serve P mid left other None served missed h = missed h
  by_serve P mid left other (Some found) served missed h = served found

  -- it is one that the last trial of a run served
  abbrev of_run : (P : List Answer → Ending → Type 0) → Type 0
  of_run P = (allowed : ℕ) (answers : List Answer) (heap : Heap) → (request_run s protected r allowed answers heap).given ≡ Some x → P answers (request_run s protected r allowed answers heap)

  by_run : (P : List Answer → Ending → Type 0) → ((answers : List Answer) (mid : Heap) (found : ℕ × ZoneMap) (other : Ending) → P answers (served_or r mid answers other (Some found)))
      → ((a : Answer) (later : List Answer) (ask : Ask) (e : Ending) → ask.answer ≡ Some a → e.given ≡ Some x → P later e → P (a ∷ later) (after_ask ask e)) → of_run P
  by_run P served again allowed [] heap =
      let mid = prepared s protected r heap in
      let other = unserved mid (cond (eqb allowed 0) [] (asked s r None (carried_out s protected [] mid) ∷ [])) [] in
      by_serve (P []) mid [] other (serve s mid.table (front_slot mid) mid.map r) (λ found. served [] mid found other) (λ h. absurd (cc h))
  by_run P served again allowed (a ∷ later) heap =
      let mid = prepared s protected r heap in
      let c = carried_out s protected a.calls mid in
      let ask = asked s r (Some a) c in
      let rest = request_run s protected r (allowed - 1) later c.heap in
      let other = cond (eqb allowed 0) (unserved mid [] (a ∷ later)) (cond (eqb a.value 0) (unserved c.heap (ask ∷ []) later) (after_ask ask rest)) in
      by_serve (P (a ∷ later)) mid (a ∷ later) other (serve s mid.table (front_slot mid) mid.map r) (λ found. served (a ∷ later) mid found other)
      (by_tests (eqb allowed 0) (eqb a.value 0) mid c.heap ask a later rest (λ h. again a later ask rest refl h (by_run P served again (allowed - 1) later c.heap h)))
    where
      by_tests : (b d : Bool) (mid after : Heap) (ask : Ask) (a : Answer) (later : List Answer) (rest : Ending) → (rest.given ≡ Some x → P (a ∷ later) (after_ask ask rest))
          → let other = cond b (unserved mid [] (a ∷ later)) (cond d (unserved after (ask ∷ []) later) (after_ask ask rest)) in
          other.given ≡ Some x → P (a ∷ later) other
      by_tests true d mid after ask a later rest more h = absurd (cc h)
      by_tests false true mid after ask a later rest more h = absurd (cc h)
      by_tests false false mid after ask a later rest more h = more h

-- each of its asks had an answer
pub run-all_answered : (s : Shape) (protected : List ℕ) (r : Request) (x : ℕ) (allowed : ℕ) (answers : List Answer) (heap : Heap) → (request_run s protected r allowed answers heap).given ≡ Some x
    → list_all (λ (a : Ask). is_some a.answer) (request_run s protected r allowed answers heap).asks ≡ true
run-all_answered s protected r x = by_run s protected r x (λ answers e. list_all (λ (a : Ask). is_some a.answer) e.asks ≡ true) (λ answers mid found other. refl)
    (λ a later ask e answered given rest. ap (λ o. is_some o && list_all (λ (a : Ask). is_some a.answer) e.asks) answered ∙ rest)

-- a run for a master block leaves a free slot
pub run-slot : (s : Shape) (protected : List ℕ) (x : ℕ) (allowed : ℕ) (answers : List Answer) (heap : Heap) → (request_run s protected NewMaster allowed answers heap).given ≡ Some x
    → has_none (request_run s protected NewMaster allowed answers heap).heap.free_slots ≡ false
run-slot s protected x = by_run s protected NewMaster x (λ answers e. has_none e.heap.free_slots ≡ false) (λ answers mid found other. refl) (λ a later ask e answered given rest. rest)

-- a run that is served leaves the answers after its own
pub run-longer : (s : Shape) (protected : List ℕ) (r : Request) (x allowed : ℕ) (answers rest : List Answer) (heap : Heap) → (request_run s protected r allowed answers heap).given ≡ Some x → (request_run s protected r allowed answers heap).left ≡ []
    → request_run s protected r allowed (answers ++ rest) heap ≡ record (request_run s protected r allowed answers heap) { left = rest }
run-longer s protected r x allowed [] [] heap given none = let e = request_run s protected r allowed [] heap in ap (λ left. record e { left = left }) none
run-longer s protected r x allowed [] (b ∷ later) heap given none =
    let mid = prepared s protected r heap in
    by_case mid (unserved mid (cond (eqb allowed 0) [] (asked s r None (carried_out s protected [] mid) ∷ [])) []) (other_answered s protected r allowed b later mid) (serve s mid.table (front_slot mid) mid.map r) (λ h. absurd (cc h)) given
  where
    by_case : (mid : Heap) (one other : Ending) (o : Option (ℕ × ZoneMap)) → (one.given ≡ Some x → ⊥) → (served_or r mid [] one o).given ≡ Some x
        → served_or r mid (b ∷ later) other o ≡ record (served_or r mid [] one o) { left = b ∷ later }
    by_case mid one other None never h = absurd (never h)
    by_case mid one other (Some found) never h = refl
run-longer s protected r x allowed (a ∷ later) rest heap given none =
    let mid = prepared s protected r heap in
    let c = carried_out s protected a.calls mid in
    let ask = asked s r (Some a) c in
    by_case mid c.heap ask (eqb allowed 0) (eqb a.value 0) (request_run s protected r (allowed - 1) later c.heap) (request_run s protected r (allowed - 1) (later ++ rest) c.heap)
    (serve s mid.table (front_slot mid) mid.map r) (run-longer s protected r x (allowed - 1) later rest c.heap) given none
  where
    by_tests : (mid after : Heap) (ask : Ask) (b d : Bool) (e longer : Ending) → (e.given ≡ Some x → e.left ≡ [] → longer ≡ record e { left = rest })
        → let one = cond b (unserved mid [] (a ∷ later)) (cond d (unserved after (ask ∷ []) later) (after_ask ask e)) in
        one.given ≡ Some x → one.left ≡ [] → cond b (unserved mid [] (a ∷ (later ++ rest))) (cond d (unserved after (ask ∷ []) (later ++ rest)) (after_ask ask longer)) ≡ record one { left = rest }
    by_tests mid after ask true d e longer more h none = absurd (cc h)
    by_tests mid after ask false true e longer more h none = absurd (cc h)
    by_tests mid after ask false false e longer more h none = ap (after_ask ask) (more h none)

    by_case : (mid after : Heap) (ask : Ask) (b d : Bool) (e longer : Ending) (o : Option (ℕ × ZoneMap)) → (e.given ≡ Some x → e.left ≡ [] → longer ≡ record e { left = rest })
        → let one = served_or r mid (a ∷ later) (cond b (unserved mid [] (a ∷ later)) (cond d (unserved after (ask ∷ []) later) (after_ask ask e))) o in
        one.given ≡ Some x → one.left ≡ []
        → served_or r mid (a ∷ (later ++ rest)) (cond b (unserved mid [] (a ∷ (later ++ rest))) (cond d (unserved after (ask ∷ []) (later ++ rest)) (after_ask ask longer))) o ≡ record one { left = rest }
    by_case mid after ask b d e longer None more h none = by_tests mid after ask b d e longer more h none
    by_case mid after ask b d e longer (Some found) more h none = absurd (cc none)

module _ (s : Shape) (protected : List ℕ) (r : Request) (before : List Ask) (unasked : before ≡ []) (old : Heap) where
  -- what is after the run for a master block
  abbrev finished : Ending → Ending
  finished master = let e = after_master s protected r master master.given in record e { asks = master.asks ++ e.asks }

  -- it is given
  pub call-after_master : (left more x : ℕ) (between after : List Ask) (given : Option ℕ) (mid new : Heap) → lacks_slot r old ≡ true → IsRun s protected NewMaster most_answers left before between old (Some x) mid
      → IsRun s protected r left more between after mid given new → IsCallRun s protected r after old (given_or_full given) new
  call-after_master left more x between after given mid new slot first run =
      let following : after ≡ first.asks ++ run.asks = run.follows ∙ ap (λ asks. asks ++ run.asks) (first.follows ∙ ap (λ asks. asks ++ first.asks) unasked) in
      let counted = first.counted in
      let still : most_answers - length first.asks ≡ left = omega (arith, counted) in
      let answers = answers_in run.asks in
      let longer : request_run s protected NewMaster most_answers (answers_in first.asks ++ answers) old ≡ record { given = Some x; heap = mid; asks = first.asks; left = answers }
      = run-longer s protected NewMaster x most_answers (answers_in first.asks) answers old (ap (λ (e : Ending). e.given) first.run) (ap (λ (e : Ending). e.left) first.run)
      ∙ ap (λ (e : Ending). record e { left = answers }) first.run in
      record {
        given = given;
        result_is = refl;
        run = ap (call_run s protected r (answers_in after) old) slot ∙ ap (λ asks. finished (request_run s protected NewMaster most_answers (answers_in asks) old)) following
            ∙ ap (λ answers. finished (request_run s protected NewMaster most_answers answers old)) (filter_map-append (λ (a : Ask). a.answer) first.asks run.asks)
            ∙ ap finished longer
            ∙ ap (λ n. let e = request_run s protected r n answers mid in record e { asks = first.asks ++ e.asks }) still
            ∙ ap (λ (e : Ending). record e { asks = first.asks ++ e.asks }) run.run
            ∙ ap (λ (asks : List Ask). record { given = given; heap = new; asks = asks; left = [] }) (sym following);
      }

  -- a slot is free then
  pub slot-after_master : (left x : ℕ) (between : List Ask) (mid : Heap) → IsRun s protected NewMaster most_answers left before between old (Some x) mid → lacks_slot r mid ≡ false
  slot-after_master left x between mid first = by_need (makes_handle r)
      (sym (ap (λ (e : Ending). has_none e.heap.free_slots) first.run) ∙ run-slot s protected x most_answers (answers_in first.asks) old (ap (λ (e : Ending). e.given) first.run))
    where
      by_need : (b : Bool) → has_none mid.free_slots ≡ false → (b && has_none mid.free_slots) ≡ false
      by_need true h = h
      by_need false h = refl

  -- and the procedure may still answer
  pub more-after_master : (left x : ℕ) (between : List Ask) (mid : Heap) → IsRun s protected NewMaster most_answers left before between old (Some x) mid → MayAskMore left between
  more-after_master left x between mid first =
      let following : between ≡ first.asks = first.follows ∙ ap (λ asks. asks ++ first.asks) unasked in
      let counted = first.counted in
      let long = ap (λ (asks : List Ask). length asks) following in
      record {
        few = omega (arith, counted, long);
        answered = ap (list_all (λ (a : Ask). is_some a.answer)) following ∙ sym (ap (λ (e : Ending). list_all (λ (a : Ask). is_some a.answer) e.asks) first.run)
            ∙ run-all_answered s protected NewMaster x most_answers (answers_in first.asks) old (ap (λ (e : Ending). e.given) first.run);
      }

  -- it may answer at first
  pub more-unasked : MayAskMore most_answers before
  more-unasked = let long = ap (λ (asks : List Ask). length asks) unasked in record { few = omega (arith, long); answered = ap (list_all (λ (a : Ask). is_some a.answer)) unasked }

  -- the run where no master block is needed
  pub call-at_once : (left : ℕ) (after : List Ask) (given : Option ℕ) (new : Heap) → lacks_slot r old ≡ false → IsRun s protected r most_answers left before after old given new
      → IsCallRun s protected r after old (given_or_full given) new
  call-at_once left after given new slot run =
      let following : after ≡ run.asks = run.follows ∙ ap (λ asks. asks ++ run.asks) unasked in
      record {
        given = given;
        result_is = refl;
        run = ap (call_run s protected r (answers_in after) old) slot ∙ ap (λ asks. request_run s protected r most_answers (answers_in asks) old) following ∙ run.run
            ∙ ap (λ (asks : List Ask). record { given = given; heap = new; asks = asks; left = [] }) (sym following);
      }

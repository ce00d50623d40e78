-- A run of a request is trials that failed, with an ask after each, and a last trial.
use Rattle.std.proofs.Common.{◌≡◌, ℕ, ◌-◌, ◌<◌, ◌≤◌, Bool, true, false, not, cond, length, List, [], ◌∷◌, ◌++◌, Option, Some, None, MatchOption, refl, ap, sym, subst, ◌∙◌, inl, inr, append-nil, arith}
use Rattle.std.specs.Prelude.{◌==◌, ◌&&◌, ◌⊎◌, IsTrue, IsFalse, MatchBool}
use Rattle.std.specs.Option.{option_map_or}
use Rattle.mac_base.specs.declared.error.OsErr.{OsErr}
use Rattle.mac_base.specs.declared.releasing.ReleasingCall.{ReleasingCall}
use Rattle.mac_base.specs.declared.request.Request.{Request}
use Rattle.mac_base.specs.declared.request.Request.TheVariants.{NewMaster}
use Rattle.mac_base.specs.HeadKind.{Shape}
use Rattle.mac_base.specs.Heap.{Heap, every_slot_live}
use Rattle.mac_base.specs.Releasing.{heap_released, operand_of}
use Rattle.mac_base.specs.Request.{is_among, makes_handle, size_needed}
use Rattle.mac_base.specs.Trial.{Fails, Serves}
use Rattle.mac_base.specs.declared.memory_call.MemoryCall.{MemoryCall}
use Rattle.mac_base.specs.Effect.{request_of}
use Rattle.mac_base.specs.GrowZone.{Answer, Ask, Carried, carried_from, carried_once, carried_out, heap_unless, memory_call, most_answers}
use Rattle.mac_base.specs.MemoryStep.{AfterMaster, EndsRequest, RequestStep}
use Rattle.mac_base.specs.Outcomes.{Outcome}
use Rattle.mac_base.specs.RequestRun.{EndsUnserved, RequestRun}
use Rattle.mac_base.specs.Tests.{protected_by, refusal}
use Rattle.zone_laws.specs.Course.{Asked, Begins, GaveUp, Tried, is_worth_a_trial, needs_master}
use Rattle.zone_laws.proofs.Steps.{same_heap}

-- the calls of an answer one by one: one that isn't on a protected block is carried out or refused
pub carried-steps : (s : Shape) (protected : List ℕ) (P : Carried → Type 0)
    → ((call : ReleasingCall) (c : Carried) → is_among protected (operand_of call) ≡ false → P c
    → P (record { heap = heap_unless (refusal s c.heap (memory_call call)) (heap_released call c.heap) c.heap; calls = c.calls ++ (call, refusal s c.heap (memory_call call)) ∷ [] }))
    → (calls : List ReleasingCall) (c : Carried) → P c → P (carried_from s protected calls c)
carried-steps s protected P step [] c here = here
carried-steps s protected P step (call ∷ calls) c here =
    let next : Carried = record { heap = heap_unless (refusal s c.heap (memory_call call)) (heap_released call c.heap) c.heap; calls = c.calls ++ (call, refusal s c.heap (memory_call call)) ∷ [] } in
    carried-steps s protected P step calls (carried_once s protected call c)
    (elim (is_among protected (operand_of call)) as (λ b. is_among protected (operand_of call) ≡ b → P (cond b c next)) [ true ↦ λ _. here | false ↦ λ other. step call c other here ] refl)

module _ (s : Shape) (protected : List ℕ) (r : Request) where
  -- the run as trials, where so many answers were allowed
  abbrev pub Ran : ℕ → Heap → List Ask → Option ℕ → Heap → Type 0
  Ran allowed old asks (Some x) new = (at : Heap) × Tried s protected r old asks at × Serves s protected r x at new × (length asks ≤ allowed)
  Ran allowed old asks None new = (before : List Ask) × (last : List Ask) × (at : Heap) × (full : Heap) × (asks ≡ before ++ last)
      × Tried s protected r old before at × Fails s protected r at full × GaveUp s protected r full last new × (last ≡ [] → length asks ≡ allowed)

  -- one more trial failed before
  ran-more : (given : Option ℕ) (allowed : ℕ) (old full after : Heap) (ask : Ask) (asks : List Ask) (new : Heap) → 0 < allowed → Fails s protected r old full → Asked s protected r full ask after
      → IsTrue (is_worth_a_trial ask.answer) → Ran (allowed - 1) after asks given new → Ran allowed old (ask ∷ asks) given new
  ran-more (Some x) allowed old full after ask asks new left fails asked worth ran = (ran.0, (full, after, fails, asked, worth, ran.1), ran.2, omega (arith, ran.3))
  ran-more None allowed old full after ask asks new left fails asked worth ran =
      (ask ∷ ran.0, ran.1, ran.2, ran.3, ap (λ asks. ask ∷ asks) ran.4, (full, after, fails, asked, worth, ran.5), ran.6, ran.7, λ none. omega (arith, ran.8 none))

  -- the ask was the last
  ran-last : (given : Option ℕ) (allowed : ℕ) (old full after : Heap) (ask : Ask) (asks : List Ask) (new : Heap) → Fails s protected r old full → Asked s protected r full ask new
      → IsFalse (is_worth_a_trial ask.answer) → EndsUnserved after asks given new → Ran allowed old (ask ∷ asks) given new
  ran-last (Some x) allowed old full after ask asks new fails asked worth ends = absurd (cc ends.1)
  ran-last None allowed old full after ask asks new fails asked worth ends = ([], ask ∷ [], old, full, ap (λ asks. ask ∷ asks) ends.0, refl, fails, (asked, worth), λ none. absurd (cc none))

  answered-ran : (allowed : ℕ) (old full : Heap) (needed : ℕ) (o : Option Answer) (carried : List (ReleasingCall × Option OsErr)) (asks : List Ask) (given : Option ℕ) (new : Heap) → 0 < allowed → needed ≡ size_needed s r → Fails s protected r old full
      → ((heap : Heap) → RequestRun s protected r (allowed - 1) heap asks given new → Ran (allowed - 1) heap asks given new)
      → MatchOption o ((carried ≡ []) × EndsUnserved full asks given new) (λ a. let c = carried_out s protected a.calls full in
      (carried ≡ c.calls) × MatchBool (a.value == 0) (EndsUnserved c.heap asks given new) (RequestRun s protected r (allowed - 1) c.heap asks given new))
      → Ran allowed old (record { needed = needed; answer = o; carried = carried } ∷ asks) given new
  answered-ran allowed old full needed None carried asks given new left size fails later run = ran-last given allowed old full full (record { needed = needed; answer = None; carried = carried }) asks new fails (size, run.0, run.1.2) refl run.1
  answered-ran allowed old full needed (Some a) carried asks given new left size fails later run = by_value (a.value == 0) refl run.1
    where
      by_value : (let c = carried_out s protected a.calls full in (b : Bool) → (a.value == 0) ≡ b → MatchBool b (EndsUnserved c.heap asks given new) (RequestRun s protected r (allowed - 1) c.heap asks given new) → Ran allowed old (record { needed = needed; answer = Some a; carried = carried } ∷ asks) given new)
      by_value true zero ends = ran-last given allowed old full (carried_out s protected a.calls full).heap (record { needed = needed; answer = Some a; carried = carried }) asks new fails (size, run.0, ends.2) (ap not zero) ends
      by_value false worth more =
          let after = (carried_out s protected a.calls full).heap in
          ran-more given allowed old full after (record { needed = needed; answer = Some a; carried = carried }) asks new left fails (size, run.0, same_heap after) (ap not worth) (later after more)

  pub run-trials : (allowed : ℕ) (old : Heap) (asks : List Ask) (given : Option ℕ) (new : Heap) → RequestRun s protected r allowed old asks given new → Ran allowed old asks given new
  run-trials allowed old [] (Some x) new run = (old, refl, run, omega arith)
  run-trials allowed old [] None new run = ([], [], old, new, refl, refl, run.1, same_heap new, λ none. sym run.0)
  run-trials allowed old (ask ∷ asks) given new run =
      answered-ran allowed old run.2 ask.needed ask.answer ask.carried asks given new run.0 run.1 run.3 (λ heap. run-trials (allowed - 1) heap asks given new) run.4

  -- one more trial failed after others
  pub tried-more : (from : Heap) (asks : List Ask) (at full : Heap) (ask : Ask) (after : Heap) → Tried s protected r from asks at → Fails s protected r at full → Asked s protected r full ask after → IsTrue (is_worth_a_trial ask.answer)
      → Tried s protected r from (asks ++ ask ∷ []) after
  tried-more from [] at full ask after tried fails asked worth = (full, after, subst (λ heap. Fails s protected r heap full) tried fails, asked, worth, refl)
  tried-more from (a ∷ asks) at full ask after tried fails asked worth = (tried.0, tried.1, tried.2, tried.3, tried.4, tried-more tried.1 asks at full ask after tried.5 fails asked worth)

-- ---- a call

-- the last request of a call: its own, or that for a master block where none was made
pub record LastRequest (s : Shape) (old : Heap) (call : MemoryCall) (asks : List Ask) (outcome : Outcome) (new : Heap) : Type 0 where
  pub request : Request
  pub first : List Ask
  pub rest : List Ask
  pub from : Heap
  pub given : Option ℕ
  pub mid : Heap
  pub own : (request ≡ NewMaster) ⊎ (request_of old.table call ≡ Some request)
  pub parts : asks ≡ first ++ rest
  pub few : length first ≤ most_answers
  pub begins : Begins s old call request first from
  pub ran : Ran s (protected_by call) request (most_answers - length first) from rest given mid
  pub ends : EndsRequest call old.table given mid outcome new

module _ (s : Shape) (old : Heap) (call : MemoryCall) (asks : List Ask) (outcome : Outcome) (new : Heap) where
  after-last : (r : Request) (given : Option ℕ) (first rest : List Ask) (mid : Heap) → needs_master s old call ≡ true → request_of old.table call ≡ Some r → asks ≡ first ++ rest
      → Ran s (protected_by call) NewMaster most_answers old first given mid → AfterMaster RequestRun s call old.table r (most_answers - length first) given mid rest outcome new → LastRequest s old call asks outcome new
  after-last r (Some x) first rest mid needs makes parts ran own = record {
    request = r;
    first = first;
    rest = rest;
    from = mid;
    given = own.0;
    mid = own.1;
    own = inr makes;
    parts = parts;
    few = ran.3;
    begins = inr (needs, makes, (ran.0, x, ran.1, ran.2));
    ran = run-trials s (protected_by call) r (most_answers - length first) mid rest own.0 own.1 own.2;
    ends = own.3;
  }
  after-last r None first rest mid needs makes parts ran failed = record {
    request = NewMaster;
    first = [];
    rest = first;
    from = old;
    given = None;
    mid = mid;
    own = inl refl;
    parts = parts ∙ ap (λ rest. first ++ rest) failed.0 ∙ append-nil first;
    few = omega arith;
    begins = inl (ap (λ b. cond b (Some NewMaster) (request_of old.table call)) needs, refl, refl);
    ran = ran;
    ends = (failed.1, failed.2);
  }

  request-last : (b : Bool) (r : Request) → needs_master s old call ≡ b → request_of old.table call ≡ Some r → RequestStep RequestRun b s old call r asks outcome new → LastRequest s old call asks outcome new
  request-last false r needs makes own = record {
    request = r;
    first = [];
    rest = asks;
    from = old;
    given = own.0;
    mid = own.1;
    own = inr makes;
    parts = refl;
    few = omega arith;
    begins = inl (ap (λ b. cond b (Some NewMaster) (request_of old.table call)) needs ∙ makes, refl, refl);
    ran = run-trials s (protected_by call) r most_answers old asks own.0 own.1 own.2;
    ends = own.3;
  }
  request-last true r needs makes both = after-last r both.2 both.0 both.1 both.3 needs makes both.4 (run-trials s (protected_by call) NewMaster most_answers old both.0 both.2 both.3 both.5) both.6

  pub step-last : (r : Request) → request_of old.table call ≡ Some r → RequestStep RequestRun (makes_handle r && every_slot_live s old) s old call r asks outcome new → LastRequest s old call asks outcome new
  step-last r makes step = request-last (makes_handle r && every_slot_live s old) r (ap (λ o. option_map_or makes_handle o false && every_slot_live s old) makes) makes step

-- The steps of calls: what a call does exactly, and that it may.
use Rattle.std.proofs.Common.{◌≡◌, ℕ, Bool, true, false, List, [], ◌++◌, Option, Some, None, Result, Ok, Err, refl, ap, sym, ◌∙◌, subst}
use Rattle.std.specs.Result.{IsErrAnd}
use Rattle.std.specs.Prelude.{MatchResult, IsOkAnd}
use Rattle.mac_base.specs.declared.error.OsErr.{OsErr}
use Rattle.mac_base.specs.HeadKind.{Shape}
use Rattle.mac_base.specs.HandleTable.{HandleTable, with_bytes}
use Rattle.mac_base.specs.Heap.{Heap, with_table}
use Rattle.mac_base.specs.Sound.{Sound}
use Rattle.mac_base.specs.ZoneState.{ZoneState}
use Rattle.mac_base.specs.declared.request.Request.{Request}
use Rattle.mac_base.specs.declared.request.Request.TheVariants.{NewMaster}
use Rattle.mac_base.specs.declared.memory_call.MemoryCall.{MemoryCall}
use Rattle.mac_base.specs.Tests.{refusal, protected_by}
use Rattle.mac_base.specs.GrowZone.{Answer, Ask, answers_in, most_answers}
use Rattle.mac_base.specs.ExactRequest.{Ending, request_run}
use Rattle.mac_base.specs.ExactStep.{StepEnd, rearranged, quiet_outcome, request_end, after_master, request_step, step_asking, step_unless, IsExactStep}
use Rattle.mac_base.specs.Effect.{request_of, table_copied, effect_of}
use Rattle.mac_base.specs.declared.reply.Results.TheVariants.{Handle, Pointer, Nothing}
use Rattle.mac_base.specs.Outcomes.{Outcome, done_outcome, given_results, handle_outcome, pointer_outcome}
use Rattle.mac_base.specs.MemoryStep.{MemoryStep, StepUnless}
use Rattle.mac_base.specs.RequestRun.{RequestRun}
use Rattle.zone_laws.proofs.StepPermitted.{exact-permitted}
use Rattle.zone_heap.specs.Attempts.{lacks_slot}
use Rattle.mem_calls.specs.Requesting.{IsCallRun, IsCopyRun, block_given, call_run, done, filled, given_or_full}

-- what a call does exactly, it may do
pub permitted : (s : Shape) (old new : Heap) (call : MemoryCall) (asks : List Ask) (outcome : Outcome) → Sound s old → IsExactStep s old call asks outcome new → MemoryStep s old call asks outcome new
permitted s old new call asks outcome sound exact = subst (λ (e : StepEnd). MemoryStep s old call e.asks e.outcome e.heap) exact (exact-permitted s (answers_in asks) old call sound)

-- a call that isn't refused and makes no request
pub exact-quiet : (s : Shape) (old : Heap) (call : MemoryCall) → refusal s old call ≡ None → request_of old.table call ≡ None
    → let new = effect_of s call (rearranged call old) in IsExactStep s old call [] (quiet_outcome s new call) new
exact-quiet s old call passed none = ap (step_unless s [] old call) passed ∙ ap (step_asking s [] old call) none

-- the end of a call whose request ran so
abbrev request_ended : MemoryCall → HandleTable → Ending → StepEnd
request_ended call entry e = request_end call entry [] e e.given

after_asks : (call : MemoryCall) (entry : HandleTable) (asks : List Ask) (e : Ending) (o : Option ℕ) → request_end call entry asks e o ≡ request_end call entry [] (record e { asks = asks ++ e.asks }) o
after_asks call entry asks e None = refl
after_asks call entry asks e (Some x) = refl

by_request : (s : Shape) (answers : List Answer) (old : Heap) (call : MemoryCall) (r : Request) (b : Bool) → request_step s answers old call b r ≡ request_ended call old.table (call_run s (protected_by call) r answers old b)
by_request s answers old call r false = refl
by_request s answers old call r true =
    let master = request_run s (protected_by call) NewMaster most_answers answers old in
    let e = after_master s (protected_by call) r master master.given in
    after_asks call old.table master.asks e e.given

-- the outcome of a call by what its request gave
abbrev pub request_outcome : MemoryCall → Result ℕ OsErr → Outcome
request_outcome call (Ok x) = Ok (given_results call x)
request_outcome call (Err code) = Err code

-- the heap at the end of a call whose request left this one
abbrev ended : MemoryCall → HandleTable → Result ℕ OsErr → Heap → Heap
ended call entry (Ok x) heap = with_table (table_copied call x entry heap.table) heap
ended call entry (Err code) heap = heap

-- a call that isn't refused and makes a request
exact-ended : (s : Shape) (old mid : Heap) (call : MemoryCall) (r : Request) (asks : List Ask) (tried : Result ℕ OsErr) → refusal s old call ≡ None → request_of old.table call ≡ Some r
    → IsCallRun s (protected_by call) r asks old tried mid → IsExactStep s old call asks (request_outcome call tried) (ended call old.table tried mid)
exact-ended s old mid call r asks tried passed requests run =
    ap (step_unless s (answers_in asks) old call) passed ∙ ap (step_asking s (answers_in asks) old call) requests ∙ by_request s (answers_in asks) old call r (lacks_slot r old)
    ∙ ap (request_ended call old.table) run.run ∙ by_given run.given ∙ ap (λ (result : Result ℕ OsErr). record { outcome = request_outcome call result; heap = ended call old.table result mid; asks = asks; left = [] }) (sym run.result_is)
  where
    by_given : (o : Option ℕ) → request_ended call old.table (record { given = o; heap = mid; asks = asks; left = [] })
        ≡ record { outcome = request_outcome call (given_or_full o); heap = ended call old.table (given_or_full o) mid; asks = asks; left = [] }
    by_given None = refl
    by_given (Some x) = refl

-- one that copies nothing
exact-request : (s : Shape) (old new : Heap) (call : MemoryCall) (r : Request) (asks : List Ask) (tried : Result ℕ OsErr) → refusal s old call ≡ None → request_of old.table call ≡ Some r
    → ((x : ℕ) (t : HandleTable) → table_copied call x old.table t ≡ t) → IsCallRun s (protected_by call) r asks old tried new → IsExactStep s old call asks (request_outcome call tried) new
exact-request s old new call r asks tried passed requests same run = subst (λ heap. IsExactStep s old call asks (request_outcome call tried) heap) (unchanged tried) (exact-ended s old new call r asks tried passed requests run)
  where
    unchanged : (tried : Result ℕ OsErr) → ended call old.table tried new ≡ new
    unchanged (Ok x) = ap (λ (t : HandleTable). with_table t new) (same x new.table)
    unchanged (Err code) = refl

-- and one that copies bytes into the block that was given
exact-copy : (s : Shape) (old new : Heap) (call : MemoryCall) (r : Request) (bytes : List ℕ) (asks : List Ask) (tried : Result ℕ OsErr) → refusal s old call ≡ None → request_of old.table call ≡ Some r
    → ((x : ℕ) (t : HandleTable) → table_copied call x old.table t ≡ with_bytes (block_given r x) bytes t) → IsCopyRun s (protected_by call) r bytes asks old tried new → IsExactStep s old call asks (request_outcome call tried) new
exact-copy s old new call r bytes asks tried passed requests copies run =
    subst (λ heap. IsExactStep s old call asks (request_outcome call tried) heap) (filled_so tried ∙ sym run.fills) (exact-ended s old run.mid call r asks tried passed requests run.run)
  where
    filled_so : (tried : Result ℕ OsErr) → ended call old.table tried run.mid ≡ filled r bytes tried run.mid
    filled_so (Ok x) = ap (λ (t : HandleTable). with_table t run.mid) (copies x (let mid = run.mid in mid.table))
    filled_so (Err code) = refl

-- the outcome of a call that gives a handle, by what its request gave
pub handle_ends : (call : MemoryCall) → ((x : ℕ) → given_results call x ≡ Handle x) → (tried : Result ℕ OsErr) → handle_outcome tried ≡ request_outcome call tried
handle_ends call gives (Ok x) = ap Ok (sym (gives x))
handle_ends call gives (Err code) = refl

pub pointer_ends : (call : MemoryCall) → ((x : ℕ) → given_results call x ≡ Pointer x) → (tried : Result ℕ OsErr) → pointer_outcome tried ≡ request_outcome call tried
pointer_ends call gives (Ok x) = ap Ok (sym (gives x))
pointer_ends call gives (Err code) = refl

-- and of one without a result
pub done_ends : (call : MemoryCall) → ((x : ℕ) → given_results call x ≡ Nothing) → (result : Result (Unit {0}) OsErr) (tried : Result ℕ OsErr) → result ≡ done tried → done_outcome result ≡ request_outcome call tried
done_ends call gives result (Ok x) is = ap done_outcome is ∙ ap Ok (sym (gives x))
done_ends call gives result (Err code) is = ap done_outcome is

-- a result whose number becomes a handle or a pointer
pub mapped : (r m : Result ℕ OsErr) → MatchResult r (λ x. IsOkAnd m (λ y. y ≡ x)) (λ e. m ≡ Err e) → m ≡ r
mapped (Ok x) (Ok y) h = ap Ok h
mapped (Ok x) (Err e) h = absurd h
mapped (Err e) m h = h

-- and one whose number is dropped
pub mapped_done : (r : Result ℕ OsErr) (m : Result (Unit {0}) OsErr) (P : ℕ → Unit {0} → Type 0) → MatchResult r (λ x. IsOkAnd m (P x)) (λ e. m ≡ Err e) → m ≡ done r
mapped_done (Ok x) (Ok y) P h = refl
mapped_done (Ok x) (Err e) P h = absurd h
mapped_done (Err e) m P h = h

-- the outcome of a refused call
pub refused_outcome : {A : Type 0} (outcome : Result A OsErr → Outcome) → ((code : OsErr) → outcome (Err code) ≡ Err code) → (result : Result A OsErr) (code : OsErr) → IsErrAnd result (λ e. e ≡ code) → outcome result ≡ Err code
refused_outcome outcome gives (Ok x) code h = absurd h
refused_outcome outcome gives (Err e) code h = gives e ∙ ap Err h

-- a call that is refused ends exactly so, and so it may
pub both-refused : (old zone : ZoneState) → zone ≡ old → (call : MemoryCall) (code : OsErr) (asks : List Ask) (outcome : Outcome) → refusal zone.shape zone.heap call ≡ Some code → asks ≡ [] → outcome ≡ Err code
    → IsExactStep old.shape old.heap call asks outcome old.heap × MemoryStep old.shape old.heap call asks outcome old.heap
both-refused old zone is call code asks outcome refused quiet ends = (exact, step)
  where
    exact : IsExactStep old.shape old.heap call asks outcome old.heap
    exact = subst (λ (z : ZoneState). IsExactStep z.shape z.heap call asks outcome z.heap) is
        (subst (λ asks. IsExactStep zone.shape zone.heap call asks outcome zone.heap) (sym quiet)
        (subst (λ o. IsExactStep zone.shape zone.heap call [] o zone.heap) (sym ends) (ap (step_unless zone.shape [] zone.heap call) refused)))

    step : MemoryStep old.shape old.heap call asks outcome old.heap
    step = subst (λ (z : ZoneState). MemoryStep z.shape z.heap call asks outcome z.heap) is
        (subst (λ (o : Option OsErr). StepUnless RequestRun o zone.shape zone.heap call asks outcome zone.heap) (sym refused) (quiet, ends, record { table = refl; map = refl }))

-- a call that ends exactly so on a sound heap may
pub step-exact : (old zone new : ZoneState) → zone ≡ old → Sound zone.shape zone.heap → (call : MemoryCall) (asks : List Ask) (outcome : Outcome) → IsExactStep old.shape old.heap call asks outcome new.heap → MemoryStep old.shape old.heap call asks outcome new.heap
step-exact old zone new is sound call asks outcome exact = permitted old.shape old.heap new.heap call asks outcome (subst (λ (z : ZoneState). Sound z.shape z.heap) is sound) exact

module _ (old zone new : ZoneState) (is : zone ≡ old) (sound : Sound zone.shape zone.heap) (call : MemoryCall) (passed : refusal zone.shape zone.heap call ≡ None) where
  passes : refusal old.shape old.heap call ≡ None
  passes = subst (λ (z : ZoneState). refusal z.shape z.heap call ≡ None) is passed

  -- a call that makes a request
  pub exact-requested : (r : Request) (asks : List Ask) (tried : Result ℕ OsErr) (outcome : Outcome) → request_of old.heap.table call ≡ Some r → ((x : ℕ) (t : HandleTable) → table_copied call x old.heap.table t ≡ t)
      → IsCallRun zone.shape (protected_by call) r asks zone.heap tried new.heap → outcome ≡ request_outcome call tried → IsExactStep old.shape old.heap call asks outcome new.heap
  exact-requested r asks tried outcome requests same run ends = subst (λ o. IsExactStep old.shape old.heap call asks o new.heap) (sym ends)
      (exact-request old.shape old.heap new.heap call r asks tried passes requests same (subst (λ (z : ZoneState). IsCallRun z.shape (protected_by call) r asks z.heap tried new.heap) is run))

  -- one that copies bytes
  pub exact-copied : (r : Request) (bytes : List ℕ) (asks : List Ask) (tried : Result ℕ OsErr) (outcome : Outcome) → request_of zone.heap.table call ≡ Some r
      → ((x : ℕ) (t : HandleTable) → table_copied call x zone.heap.table t ≡ with_bytes (block_given r x) bytes t) → IsCopyRun zone.shape (protected_by call) r bytes asks zone.heap tried new.heap → outcome ≡ request_outcome call tried
      → IsExactStep old.shape old.heap call asks outcome new.heap
  exact-copied r bytes asks tried outcome requests copies run ends = subst (λ (z : ZoneState). IsExactStep z.shape z.heap call asks outcome new.heap) is
      (subst (λ o. IsExactStep zone.shape zone.heap call asks o new.heap) (sym ends) (exact-copy zone.shape zone.heap new.heap call r bytes asks tried passed requests copies run))

  -- a call that makes none
  pub exact-done : (outcome : Outcome) → request_of old.heap.table call ≡ None → new.heap ≡ effect_of zone.shape call (rearranged call zone.heap) → outcome ≡ quiet_outcome zone.shape new.heap call
      → IsExactStep old.shape old.heap call [] outcome new.heap
  exact-done outcome none effect ends =
      exact-quiet old.shape old.heap call passes none
      ∙ ap (λ (heap : Heap). record { outcome = quiet_outcome old.shape heap call; heap = heap; asks = []; left = [] }) (sym (effect ∙ ap (λ (z : ZoneState). effect_of z.shape call (rearranged call z.heap)) is))
      ∙ ap (λ (o : Outcome). record { outcome = o; heap = new.heap; asks = []; left = [] }) (sym (ends ∙ ap (λ (z : ZoneState). quiet_outcome z.shape new.heap call) is))

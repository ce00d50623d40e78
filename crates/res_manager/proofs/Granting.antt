-- What a call of the Memory Manager leaves in the handle table whose request was served.
use Rattle.std.proofs.Common.{◌≡◌, ℕ, ◌-◌, Bool, true, false, List, [], ◌∷◌, length, Option, Some, None, Ok, MatchOption, ◌∙◌, subst}
use Rattle.std.specs.Prelude.{◌==◌, MatchBool, ◌&&◌}
use Rattle.mac_base.specs.declared.error.OsErr.{OsErr}
use Rattle.mac_base.specs.HeadKind.{Shape}
use Rattle.mac_base.specs.HandleTable.{HandleTable}
use Rattle.mac_base.specs.Heap.{Heap, table_granted, every_slot_live}
use Rattle.mac_base.specs.Trial.{prepared_by}
use Rattle.mac_base.specs.declared.request.Request.{Request}
use Rattle.mac_base.specs.Request.{makes_handle}
use Rattle.mac_base.specs.declared.memory_call.MemoryCall.{MemoryCall}
use Rattle.mac_base.specs.declared.reply.Results.{Results}
use Rattle.mac_base.specs.Effect.{request_of, table_copied}
use Rattle.mac_base.specs.GrowZone.{Ask, Answer, carried_out, most_answers}
use Rattle.mac_base.specs.MemoryStep.{MemoryStep, StepUnless, StepAsking, RequestStep, AfterMaster, EndsRequest}
use Rattle.mac_base.specs.Outcomes.{Outcome, given_results}
use Rattle.mac_base.specs.RequestRun.{RequestRun, EndsUnserved}
use Rattle.mac_base.specs.Tests.{refusal, protected_by}

-- the heap has what a request gives as x, over some table
abbrev pub Granted : Request → ℕ → Heap → Type 0
Granted r x new = (t : HandleTable) × (new.table ≡ table_granted r x t)

by_value : (s : Shape) (protected : List ℕ) (r : Request) (x allowed : ℕ) (heap new : Heap) (asks : List Ask) (b : Bool) → MatchBool b (EndsUnserved heap asks (Some x) new) (RequestRun s protected r allowed heap asks (Some x) new)
    → (RequestRun s protected r allowed heap asks (Some x) new → Granted r x new) → Granted r x new
by_value s protected r x allowed heap new asks true h again = absurd (cc h.1)
by_value s protected r x allowed heap new asks false h again = again h

by_answer : (s : Shape) (protected : List ℕ) (r : Request) (x allowed : ℕ) (mid new : Heap) (ask : Ask) (asks : List Ask) (o : Option Answer)
    → MatchOption o ((ask.carried ≡ []) × EndsUnserved mid asks (Some x) new) (λ a.
    let c = carried_out s protected a.calls mid in
    (ask.carried ≡ c.calls) × MatchBool (a.value == 0) (EndsUnserved c.heap asks (Some x) new) (RequestRun s protected r (allowed - 1) c.heap asks (Some x) new))
    → ((heap : Heap) → RequestRun s protected r (allowed - 1) heap asks (Some x) new → Granted r x new) → Granted r x new
by_answer s protected r x allowed mid new ask asks None h again = let ends = h.1 in absurd (cc ends.1)
by_answer s protected r x allowed mid new ask asks (Some a) h again =
    let c = carried_out s protected a.calls mid in
    by_value s protected r x (allowed - 1) c.heap new asks (a.value == 0) h.1 (again c.heap)

-- a run that gave x
pub run-granted : (s : Shape) (protected : List ℕ) (r : Request) (x allowed : ℕ) (old new : Heap) (asks : List Ask) → RequestRun s protected r allowed old asks (Some x) new → Granted r x new
run-granted s protected r x allowed old new [] run = let served = run.2 in ((prepared_by s run.0 old).table, served.table)
run-granted s protected r x allowed old new (ask ∷ asks) run = by_answer s protected r x allowed run.2 new ask asks ask.answer run.4 (λ heap. run-granted s protected r x (allowed - 1) heap new asks)

module _ (s : Shape) (old new : Heap) (call : MemoryCall) (r : Request) (given : Results) (same : (x : ℕ) (t : HandleTable) → table_copied call x old.table t ≡ t) where
  -- the call gave some x
  abbrev pub Gave : Type 0
  Gave = (x : ℕ) × (given ≡ given_results call x) × Granted r x new

  ok_of : (a b : Results) → (let one : Outcome = Ok a in let other : Outcome = Ok b in one ≡ other) → a ≡ b
  ok_of a b is = cc is

  by_run : (allowed : ℕ) (heap mid : Heap) (asks : List Ask) (o : Option ℕ) → RequestRun s (protected_by call) r allowed heap asks o mid → EndsRequest call old.table o mid (Ok given) new → Gave
  by_run allowed heap mid asks None run ends = absurd (cc ends.0)
  by_run allowed heap mid asks (Some x) run ends =
      let g = run-granted s (protected_by call) r x allowed heap mid asks run in
      (x, ok_of given (given_results call x) ends.0, (g.0, ends.1 ∙ same x mid.table ∙ g.1))

  by_master : (allowed : ℕ) (mid : Heap) (asks : List Ask) (o : Option ℕ) → AfterMaster RequestRun s call old.table r allowed o mid asks (Ok given) new → Gave
  by_master allowed mid asks None h = absurd (cc h.1)
  by_master allowed mid asks (Some m) h = by_run allowed mid h.1 asks h.0 h.2 h.3

  by_slot : (asks : List Ask) (b : Bool) → RequestStep RequestRun b s old call r asks (Ok given) new → Gave
  by_slot asks false h = by_run most_answers old h.1 asks h.0 h.2 h.3
  by_slot asks true h = by_master (most_answers - length h.0) h.3 h.1 h.2 h.6

  by_refusal : (asks : List Ask) (o : Option OsErr) → request_of old.table call ≡ Some r → StepUnless RequestRun o s old call asks (Ok given) new → Gave
  by_refusal asks (Some code) requests h = absurd (cc h.1)
  by_refusal asks None requests h = by_slot asks (makes_handle r && every_slot_live s old) (subst (λ o. StepAsking RequestRun o s old call asks (Ok given) new) requests h)

  -- a step of a call that copies nothing
  pub step-granted : (asks : List Ask) → request_of old.table call ≡ Some r → MemoryStep s old call asks (Ok given) new → Gave
  step-granted asks requests step = by_refusal asks (refusal s old call) requests step

-- A call takes its answers from the front of a queue.
use Rattle.std.proofs.Common.{◌≡◌, List, [], ap, sym, ◌∙◌, Ok, Err}
use Rattle.std.specs.Prelude.{IfOk, Result}
use Rattle.mac_base.specs.declared.error.HostFull.{HostFull}
use Rattle.mac_base.specs.declared.call.Call.{Call}
use Rattle.mac_base.specs.declared.call.Call.TheVariants.{Memory, Loan, Resource, MemError, ResError}
use Rattle.mac_base.specs.declared.reply.Reply.{Reply}
use Rattle.mac_base.specs.declared.resource_call.ResourceCall.{ResourceCall}
use Rattle.mac_base.specs.GrowZone.{Answer, Ask}
use Rattle.mac_base.specs.Outcomes.{Outcome}
use Rattle.fork_disk.specs.declared.store.ForkStore.{Ghosts}
use Rattle.held_calls.specs.Answers.{OutOfAnswers, taken}
use Rattle.held_calls.proofs.Steps.{exact-queued}
use Rattle.res_update.specs.Answered.{answered_disks}
use Rattle.res_update.specs.Steps.{Memory as MayStep}
use Rattle.toolbox.specs.Steps.{LeavesAnswers, ResourceGives, Steps, StepsFrom}
use Rattle.toolbox.specs.ToolState.{IsHonest, ToolState}
use Rattle.toolbox.proofs.Resources.{step_by}

-- a queue that was asked nothing has lost nothing
nothing_taken : (answers left : List Answer) (asks : List Ask) → asks ≡ [] → taken asks left ≡ answers → left ≡ answers
nothing_taken answers left asks none took = ap (λ (none : List Ask). taken none left) (sym none) ∙ took

-- a call of the Resource Manager does from a queue what it may do, where its call of the Memory Manager does just what
-- it does with the answers that it took
gives_from_queue : {S : Type 0} (store : Ghosts S) (old new : ToolState S) (call : ResourceCall) (outcome : Outcome) (answers left : List Answer) (asks : List Ask) → taken asks left ≡ answers → OutOfAnswers asks left
    → ResourceGives store MayStep old call asks outcome new → ResourceGives store (StepsFrom answers left) old call asks outcome new
gives_from_queue store old new call outcome answers left asks took out gives = record {
  device = gives.device;
  before = gives.before;
  after = gives.after;
  was = gives.was;
  becomes = gives.becomes;
  step = step_by MayStep (StepsFrom answers left) (answered_disks (IsHonest store new) store.may_leave) gives.device gives.before call asks (record { outcome = outcome; state = gives.after })
      (λ s heap inner given after may. exact-queued s heap inner given after asks left answers may.1 took out) gives.step;
  cause = gives.cause;
}

left_by_call : {S : Type 0} (store : Ghosts S) (old new : ToolState S) (call : Call) (answers left : List Answer) (asks : List Ask) (reply : Reply) → Steps store old call asks reply.outcome new → taken asks left ≡ answers → OutOfAnswers asks left
    → LeavesAnswers store old answers call asks reply.outcome new left
left_by_call store old new (Memory call) answers left asks reply step took out = exact-queued old.shape old.heap call reply.outcome new.heap asks left answers step.0.1 took out
left_by_call store old new (Loan call) answers left asks reply step took out = nothing_taken answers left asks step.0.0 took
left_by_call store old new (Resource call) answers left asks reply step took out = (sym took, gives_from_queue store old new call reply.outcome answers left asks took out step.0.0)
left_by_call store old new MemError answers left asks reply step took out = nothing_taken answers left asks step.0.0 took
left_by_call store old new ResError answers left asks reply step took out = nothing_taken answers left asks step.0.0 took

-- a call leaves those answers of a queue that it does not take
pub leaves_answers : {S : Type 0} (store : Ghosts S) (old new : ToolState S) (call : Call) (answers left : List Answer) (asks : List Ask) (result : Result Reply HostFull) → IfOk result (λ reply. Steps store old call asks reply.outcome new) → taken asks left ≡ answers
    → OutOfAnswers asks left → IfOk result (λ reply. LeavesAnswers store old answers call asks reply.outcome new left)
leaves_answers store old new call answers left asks (Ok reply) step took out = left_by_call store old new call answers left asks reply step took out
leaves_answers store old new call answers left asks (Err full) step took out = tt

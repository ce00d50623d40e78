-- What a call of the toolbox does.
use Rattle.std.specs.Prelude.{◌≡◌, Bool, true, false, List, [], ◌++◌, length, Option, None, Ok, OnOk}
use Rattle.std.specs.Result.{result_err}
use Rattle.mac_base.specs.declared.error.OsErr.{OsErr}
use Rattle.mac_base.specs.declared.call.Call.{Call}
use Rattle.mac_base.specs.declared.call.Call.TheVariants.{Memory, Loan, Resource, MemError, ResError}
use Rattle.mac_base.specs.declared.loan_call.LoanCall.{LoanCall}
use Rattle.mac_base.specs.declared.loan_call.LoanCall.TheVariants as loan_call
use Rattle.mac_base.specs.LoanStep.{LoanStep, loan_refusal}
use Rattle.mac_base.specs.declared.reply.Results.TheVariants.{Code}
use Rattle.mac_base.specs.declared.resource_call.ResourceCall.{ResourceCall}
use Rattle.mac_base.specs.ExactStep.{IsExactStep, exact_step}
use Rattle.mac_base.specs.GrowZone.{Answer, Ask, answers_in}
use Rattle.mac_base.specs.MemoryStep.{MemoryStep}
use Rattle.mac_base.specs.Outcomes.{Outcome}
use Rattle.mac_base.specs.Released.{disposed_of}
use Rattle.mac_base.specs.Tests.{refusal}
use Rattle.fork_disk.specs.declared.store.ForkStore.{Ghosts}
use Rattle.held_calls.specs.Making.{copies}
use Rattle.res_update.specs.Answered.{AnswersStep, IsAnswered}
use Rattle.res_update.specs.Steps.{MemoryRelation, work_of, Memory as MayStep, ReadsBack, update_in}
use Rattle.res_update.specs.Tests.{resource_refusal}
use Rattle.res_files.specs.FilesOn.{FailedAt, NoneFailed, WereHonest}
use Rattle.res_manager.specs.Crash.{CrashLeaves, IsSettled, file_settled}
use Rattle.res_manager.specs.Steps.{takes_memory as resource_takes_memory}
use Rattle.toolbox.specs.ToolState.{ToolState, IsHonest, resource_state, without_handles}

-- What a call of the Resource Manager gives and does, by what the devices answered, where those of the Memory Manager
-- step so.
abbrev pub ResourceGives : {S : Type 0} → Ghosts S → MemoryRelation → ToolState S → ResourceCall → List Ask → Outcome → ToolState S → Type 0
ResourceGives store Inner old call asks outcome new = AnswersStep (IsHonest store new)
    (NoneFailed store.failures old.resources.stores new.resources.stores) (λ k. FailedAt store.failures k old.resources.stores new.resources.stores)
    Inner store.may_leave (resource_state store old) call asks outcome (resource_state store new)

-- What a call gives and does to the heap, the loans and the resource files. MemError gives the code of the last call of
-- the Memory Manager, ResError that of the last one of the Resource Manager, and both do nothing. What is said of the
-- bytes of a file rests on its own device, if that is honest after the call: then it was so before it. A file that was
-- updated with success reads back as the table that was saved. Whenever a crash comes, each file is found as before the
-- call, or as the call saves it; once an update or an opening succeeded, as it is read.
abbrev pub Gives : {S : Type 0} → Ghosts S → ToolState S → Call → List Ask → Outcome → ToolState S → Type 0
Gives store old (Memory call) asks outcome new = MemoryStep old.shape old.heap call asks outcome new.heap × IsExactStep old.shape old.heap call asks outcome new.heap × (new.loans ≡ old.loans)
    × (new.resources ≡ without_handles (disposed_of call asks outcome) old.resources)
Gives store old (Loan call) asks outcome new = (asks ≡ []) × LoanStep old.shape old.loans old.heap call outcome new.loans new.heap × (new.resources ≡ old.resources)
Gives store old (Resource call) asks outcome new = ResourceGives store MayStep old call asks outcome new × (new.loans ≡ old.loans)
    × WereHonest store.is_honest old.resources.stores new.resources.stores × (length new.resources.stores ≡ length old.resources.stores)
    × ReadsBack (IsHonest store new) (resource_state store old) call outcome (resource_state store new)
    × CrashLeaves store (update_in (work_of (resource_state store old) call)) old.resources.stores new.resources.stores
    × OnOk outcome (IsSettled store (file_settled (work_of (resource_state store old) call)) new.resources.stores)
Gives store old MemError asks outcome new = (asks ≡ []) × (outcome ≡ Ok (Code old.refused)) × (new.heap ≡ old.heap) × (new.loans ≡ old.loans) × (new.resources ≡ old.resources)
Gives store old ResError asks outcome new = (asks ≡ []) × (outcome ≡ Ok (Code old.resource_refused)) × (new.heap ≡ old.heap) × (new.loans ≡ old.loans) × (new.resources ≡ old.resources)

-- the code by which the state refuses a call, if it does
abbrev pub refusal_of : {S : Type 0} → Ghosts S → ToolState S → Call → Option OsErr
refusal_of store old (Memory call) = refusal old.shape old.heap call
refusal_of store old (Loan call) = loan_refusal old.shape old.heap call
refusal_of store old (Resource call) = resource_refusal (resource_state store old) call
refusal_of store old call = None

-- the code that MemError gives after a call: that of a call of the Memory Manager or on a loan, and else the one that
-- it gave before
abbrev pub refused_after : Option OsErr → Call → Outcome → Option OsErr
refused_after before (Memory call) outcome = result_err outcome
refused_after before (Loan call) outcome = result_err outcome
refused_after before call outcome = before

-- the code that ResError gives after a call: that of a call of the Resource Manager, and else the one that it gave
-- before
abbrev pub resource_refused_after : Option OsErr → Call → Outcome → Option OsErr
resource_refused_after before (Resource call) outcome = result_err outcome
resource_refused_after before call outcome = before

-- From the old state, the call with these asks may have this outcome and leave the new state.
abbrev pub Steps : {S : Type 0} → Ghosts S → ToolState S → Call → List Ask → Outcome → ToolState S → Type 0
Steps store old call asks outcome new = Gives store old call asks outcome new × (new.shape ≡ old.shape)
    × (new.refused ≡ refused_after old.refused call outcome) × (new.resource_refused ≡ resource_refused_after old.resource_refused call outcome)

-- what a call of the Memory Manager does just so with these answers, of which it leaves those
abbrev pub StepsFrom : List Answer → List Answer → MemoryRelation
StepsFrom answers left shape old call asks outcome new = exact_step shape answers old call ≡ record { outcome = outcome; heap = new; asks = asks; left = left }

-- The answers that a call leaves of those that were queued: a call of the Memory Manager takes some from the front, and
-- so does one of the Resource Manager by the call of the Memory Manager that it makes, if it makes one.
abbrev pub LeavesAnswers : {S : Type 0} → Ghosts S → ToolState S → List Answer → Call → List Ask → Outcome → ToolState S → List Answer → Type 0
LeavesAnswers store old answers (Memory call) asks outcome new left = StepsFrom answers left old.shape old.heap call asks outcome new.heap
LeavesAnswers store old answers (Resource call) asks outcome new left = (answers ≡ answers_in asks ++ left) × ResourceGives store (StepsFrom answers left) old call asks outcome new
LeavesAnswers store old answers call asks outcome new left = left ≡ answers

-- A call that has no host memory has changed nothing. For a call of the Resource Manager, the stores may have been
-- read, so that is said of the files, and of each fork whose device is honest after the call, as it is read and as it
-- is found after a crash.
abbrev pub Unchanged : {S : Type 0} → Ghosts S → ToolState S → Call → ToolState S → Type 0
Unchanged store old (Resource call) new = (new ≡ record old { resources = new.resources }) × IsAnswered (IsHonest store new) (resource_state store new) (resource_state store old)
    × WereHonest store.is_honest old.resources.stores new.resources.stores × (length new.resources.stores ≡ length old.resources.stores)
    × CrashLeaves store None old.resources.stores new.resources.stores
Unchanged store old call new = new ≡ old

-- whether a call on a loan gives a copy of its bytes
abbrev pub shows : LoanCall → Bool
shows (loan_call.LentPeek block offset count) = true
shows _ = false

-- whether a call takes host memory: for its reply, or for a row, a name, a fork or a table
abbrev pub takes_memory : {S : Type 0} → Ghosts S → ToolState S → Call → Bool
takes_memory store old (Memory call) = copies call
takes_memory store old (Loan call) = shows call
takes_memory store old (Resource call) = resource_takes_memory (resource_state store old) call
takes_memory store old call = false

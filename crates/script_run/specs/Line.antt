-- What one line of a script does.
use Rattle.std.specs.Prelude.{◌≡◌, ◌<◌, ◌≤◌, ◌⊎◌, ℕ, IsTrue, true, List, [], ◌∷◌, ◌++◌, length, Option, None, Some, Ok, Err}
use Rattle.mac_base.specs.Heap.{new_heap}
use Rattle.mac_base.specs.ZoneSizes.{ZoneSizes, shape_of}
use Rattle.mac_base.specs.declared.call.Call.TheVariants.{Resource}
use Rattle.mac_base.specs.declared.reply.Reply.{Reply}
use Rattle.mac_base.specs.declared.resource_call.ResourceCall.TheVariants.{OpenResFile}
use Rattle.script_lang.specs.declared.table.CallName.TheVariants as call_name
use Rattle.script_lang.specs.declared.table.NumberName.TheVariants as number_name
use Rattle.script_lang.specs.Lines.{name_of}
use Rattle.mac_base.specs.GrowZone.{Ask, answered}
use Rattle.mac_base.specs.Outcomes.{Outcome}
use Rattle.fork_disk.specs.declared.store.ForkStore.{Ghosts}
use Rattle.res_files.specs.FilesOn.{HonestAt, WereHonest, fork_of}
use Rattle.res_manager.specs.Crash.{CrashLeaves}
use Rattle.res_table.specs.OpenFiles.{no_files}
use Rattle.held_calls.specs.Answers.{no_answers}
use Rattle.toolbox.specs.Steps.{Gives, LeavesAnswers, Steps, Unchanged, refusal_of, takes_memory}
use Rattle.script_lang.specs.declared.line.CallLine.{CallLine}
use Rattle.script_lang.specs.declared.line.Line.{Line}
use Rattle.script_lang.specs.declared.line.Statement.{Statement}
use Rattle.script_lang.specs.declared.line.Statement.TheVariants.{Call, Answer}
use Rattle.script_lang.specs.declared.line.WrittenAnswer.{WrittenAnswer}
use Rattle.script_lang.specs.Text.{reply_room, reply_text}
use Rattle.script_lang.specs.Answers.{answer_with}
use Rattle.script_lang.specs.Taken.{first_number}
use Rattle.script_lang.specs.Resolving.{call_of}
use Rattle.script_lang.specs.Variables.{Variables, with_value}
use Rattle.script_run.specs.declared.machine.Machine.{Machine}

-- before file 1 is opened: a new zone, these stores, no refusal, no variables, and no answers
abbrev pub start_of : {S : Type 0} → ZoneSizes → List S → Machine S
start_of sizes stores = record {
  toolbox = record {
    shape = shape_of sizes;
    heap = new_heap (shape_of sizes) sizes.size;
    loans = [];
    refused = None;
    resources = record { files = no_files; loads = true; stores = stores };
    resource_refused = None;
  };
  variables = [];
  answers = no_answers;
}

-- what is printed where file 1 is opened: nothing, or the line of number 0 with the code of the refusal
abbrev pub opening_text : Outcome → List ℕ
opening_text (Ok results) = []
opening_text (Err code) = reply_text 0 (call_name.Number number_name.OpenResFile) (record { outcome = Err code }) []

-- From old, the opening of file 1 may print this text and leave new. For MemError and ResError it is no call.
abbrev pub OpensFirst : {S : Type 0} → Ghosts S → Machine S → List ℕ → Machine S → Type 0
OpensFirst store old text new = (outcome : Outcome)
    × Gives store old.toolbox (Resource (OpenResFile 1)) [] outcome new.toolbox
    × (new.toolbox.shape ≡ old.toolbox.shape)
    × (new.toolbox.refused ≡ old.toolbox.refused)
    × (new.toolbox.resource_refused ≡ old.toolbox.resource_refused)
    × (new.variables ≡ old.variables)
    × (new.answers ≡ old.answers)
    × (text ≡ opening_text outcome)

-- the variables, where the one that a line assigns has this value
abbrev pub assigned : Option ℕ → ℕ → Variables → Variables
assigned None value variables = variables
assigned (Some name) value variables = with_value variables name value

-- From old, the call of the line of this number may print this text and leave new: it is a step of the toolbox with
-- some asks, which leaves the answers that these asks did not take, its first number is assigned, and its reply is
-- printed with the asks that had an answer.
abbrev pub CallDoes : {S : Type 0} → Ghosts S → Machine S → ℕ → CallLine → List ℕ → Machine S → Type 0
CallDoes store old number line text new = (reply : Reply)
    × (asks : List Ask)
    × Steps store old.toolbox (call_of old.variables line) asks reply.outcome new.toolbox
    × LeavesAnswers store old.toolbox old.answers.left (call_of old.variables line) asks reply.outcome new.toolbox new.answers.left
    × (new.variables ≡ assigned line.assigned (first_number reply.outcome) old.variables)
    × (text ≡ reply_text number (name_of line.call) reply (answered asks))

-- From old, an answer prints nothing and leaves new: it is queued after the others, with the values that its operands
-- have.
abbrev pub AnswerDoes : {S : Type 0} → Machine S → WrittenAnswer → List ℕ → Machine S → Type 0
AnswerDoes old line text new = (text ≡ [])
    × (new.toolbox ≡ old.toolbox)
    × (new.variables ≡ old.variables)
    × (new.answers.left ≡ old.answers.left ++ answer_with old.variables line ∷ [])

-- From old, what the line of this number says may print this text and leave new.
abbrev pub StatementDoes : {S : Type 0} → Ghosts S → Machine S → ℕ → Statement → List ℕ → Machine S → Type 0
StatementDoes store old number (Call line) text new = CallDoes store old number line text new
StatementDoes store old number (Answer line) text new = AnswerDoes old line text new

-- From old, a line may print this text and leave new.
abbrev pub LineDoes : {S : Type 0} → Ghosts S → Machine S → Line → List ℕ → Machine S → Type 0
LineDoes store old line text new = StatementDoes store old line.number line.statement text new

-- There are as many stores, and of each whose device is honest, it was so before, and the fork is the same, also as a
-- start finds it after a crash.
abbrev pub SameForks : {S : Type 0} → Ghosts S → List S → List S → Type 0
SameForks store old new = WereHonest store.is_honest old new × (length new ≡ length old)
    × ((k : ℕ) → 1 ≤ k → HonestAt store.is_honest new k → fork_of store.fork k new ≡ fork_of store.fork k old) × CrashLeaves store None old new

-- From old, the call of a line isn't made for want of host memory: all is as it was, and it is a call that takes some
-- and isn't refused.
abbrev pub IsUnmade : {S : Type 0} → Ghosts S → Machine S → CallLine → Machine S → Type 0
IsUnmade store old line new = let call = call_of old.variables line in
    Unchanged store old.toolbox call new.toolbox × IsTrue (takes_memory store old.toolbox call) × (refusal_of store old.toolbox call ≡ None)

-- From old, the call of the line of this number is made, and leaves new; but its reply has more bytes than there is
-- room for.
abbrev pub IsTooLong : {S : Type 0} → Ghosts S → Machine S → ℕ → CallLine → Machine S → Type 0
IsTooLong store old number line new = (reply : Reply)
    × (asks : List Ask)
    × Steps store old.toolbox (call_of old.variables line) asks reply.outcome new.toolbox
    × (reply_room < length (reply_text number (name_of line.call) reply (answered asks)))

-- From old, host memory ends at what the line of this number says: its call isn't made, or its reply is too long; or
-- its answer isn't queued.
abbrev pub StopsAt : {S : Type 0} → Ghosts S → Machine S → ℕ → Statement → Machine S → Type 0
StopsAt store old number (Call line) new = IsUnmade store old line new ⊎ IsTooLong store old number line new
StopsAt store old number (Answer line) new = new.toolbox ≡ old.toolbox

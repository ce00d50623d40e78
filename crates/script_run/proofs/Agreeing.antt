-- Two runs of a script in which no device fails agree.
use Rattle.std.proofs.Common.{◌≡◌, ℕ, ◌-◌, List, [], ◌∷◌, ◌++◌, Option, Some, None, refl, ap, sym, subst, ◌∙◌}
use Rattle.std.specs.Prelude.{MatchBool, ⊤}
use Rattle.std.specs.Option.{IsSomeAnd}
use Rattle.mac_base.specs.declared.call.Call.{Call}
use Rattle.mac_base.specs.declared.call.Call.TheVariants.{Memory as MemoryCalls, Loan, Resource, MemError, ResError}
use Rattle.mac_base.specs.declared.resource_call.ResourceCall.{ResourceCall}
use Rattle.mac_base.specs.declared.resource_call.ResourceCall.TheVariants.{OpenResFile}
use Rattle.mac_base.specs.GrowZone.{Answer as GivenAnswer, Ask, answered}
use Rattle.mac_base.specs.Outcomes.{Outcome}
use Rattle.fork_disk.specs.declared.store.ForkStore.{Ghosts}
use Rattle.res_update.specs.Answered.{file_of_work}
use Rattle.res_update.specs.Device.{Device, Disk, Works, FailsBefore, FailsWriting, device_works, read_truly}
use Rattle.res_update.proofs.Answering.{honest_step}
use Rattle.res_update.specs.Files.{ResourceEnd}
use Rattle.res_update.specs.Steps.{MemoryRelation, ResourceStepBy, work_of, Memory as MayStep}
use Rattle.res_files.specs.FilesOn.{FailedAt, NoneFailed, SomeFailed}
use Rattle.toolbox.specs.Headline.{tools_of}
use Rattle.toolbox.specs.Steps.{Gives, LeavesAnswers, ResourceGives, StepsFrom, refused_after, resource_refused_after}
use Rattle.toolbox.specs.ToolState.{IsHonest, ToolState, resource_state}
use Rattle.toolbox.proofs.Headline.{tool-does}
use Rattle.script_lang.specs.declared.line.CallLine.{CallLine}
use Rattle.script_lang.specs.declared.line.Line.{Line}
use Rattle.script_lang.specs.declared.line.Statement.{Statement}
use Rattle.script_lang.specs.declared.line.Statement.TheVariants.{Call as CallStatement, Answer}
use Rattle.script_lang.specs.Lines.{name_of}
use Rattle.script_lang.specs.Text.{reply_text}
use Rattle.script_lang.specs.Answers.{answer_with}
use Rattle.script_lang.specs.Taken.{first_number}
use Rattle.script_lang.specs.Resolving.{call_of}
use Rattle.script_lang.specs.Variables.{Variables}
use Rattle.script_run.specs.declared.machine.Machine.{Machine}
use Rattle.script_run.specs.Exact.{DevicesWorked, LinesWorked, RunsAgree}
use Rattle.script_run.specs.Line.{OpensFirst, StatementDoes, assigned, opening_text, start_of}
use Rattle.script_run.specs.Run.{AreRun}
use Rattle.script_run.proofs.Honest.{before-lines, each-honest}
use Rattle.toolbox.proofs.Functional.{Before, Ended, EndsSo, GoesSo, any-memory, ends-agree}

-- what a run goes on with
record Seen : Type 0 where
  pub before : Before
  pub variables : Variables

-- the same over these forks
abbrev over : List Disk → Seen → Seen
over disks x = record x { before = record x.before { tools = record x.before.tools { resources = record x.before.tools.resources { disks = disks } } } }

-- the same with one more answer queued
abbrev answering : GivenAnswer → Seen → Seen
answering answer x = record x { before = record x.before { answers = x.before.answers ++ answer ∷ [] } }

-- what the opening of file 1 leaves
abbrev after_opening : Seen → Ended → Seen
after_opening x e = record x { before = record x.before { tools = e.tools; answers = e.left } }

-- what the call of a line leaves
abbrev after : Seen → CallLine → Ended → Seen
after x line e =
    let call = call_of x.variables line in
    let refused = refused_after x.before.refused call e.outcome in
    let resource_refused = resource_refused_after x.before.resource_refused call e.outcome in record {
      before = record { tools = e.tools; refused = refused; resource_refused = resource_refused; answers = e.left };
      variables = assigned line.assigned (first_number e.outcome) x.variables;
    }

-- what it prints
abbrev printed : ℕ → CallLine → Ended → List ℕ
printed number line e = reply_text number (name_of line.call) (record { outcome = e.outcome }) (answered e.asks)

module _ {S : Type 0} (store : Ghosts S) where
  abbrev before : ToolState S → List GivenAnswer → Before
  before t answers = record { tools = tools_of store t; refused = t.refused; resource_refused = t.resource_refused; answers = answers }

  abbrev seen : Machine S → Seen
  seen m = record { before = before m.toolbox m.answers.left; variables = m.variables }

  -- all its devices are honest
  abbrev AllHonest : ToolState S → Type 0
  AllHonest t = (k : ℕ) → IsHonest store t k

  -- no device failed from one toolbox to the other
  abbrev Worked : ToolState S → ToolState S → Type 0
  Worked old new = SomeFailed store.failures old.resources.stores new.resources.stores → ⊥

  -- a call of the Resource Manager, where the device goes so
  abbrev StepsOn : MemoryRelation → Device → ToolState S → ResourceCall → List Ask → Outcome → ToolState S → Type 0
  StepsOn Inner device old call asks outcome new =
      ResourceStepBy Inner (read_truly store.may_leave) device (resource_state store old) call asks (record { outcome = outcome; state = resource_state store new })

  -- no store of a file has failed
  none-failed : (old new : ToolState S) → Worked old new → (file : Option ℕ) → IsSomeAnd file (λ k. FailedAt store.failures k old.resources.stores new.resources.stores) → ⊥
  none-failed old new worked None failed = failed
  none-failed old new worked (Some k) failed = worked (k - 1, failed.0, failed.1)

  -- a device that didn't fail works
  works : (Inner : MemoryRelation) (old : ToolState S) (call : ResourceCall) (asks : List Ask) (outcome : Outcome) (new : ToolState S) → AllHonest new → Worked old new
      → ResourceGives store Inner old call asks outcome new → StepsOn Inner Works old call asks outcome new
  works Inner old call asks outcome new honest worked gives =
      by_device gives.device gives.cause (honest_step (IsHonest store new) (NoneFailed store.failures old.resources.stores new.resources.stores) Failed Inner store.may_leave
      (resource_state store old) call asks outcome (resource_state store new) honest gives)
    where
      Failed : ℕ → Type 0
      Failed k = FailedAt store.failures k old.resources.stores new.resources.stores

      by_device : (device : Device) → MatchBool (device_works device) (NoneFailed store.failures old.resources.stores new.resources.stores) (IsSomeAnd (file_of_work (work_of gives.before call)) Failed)
          → StepsOn Inner device old call asks outcome new → StepsOn Inner Works old call asks outcome new
      by_device Works cause step = step
      by_device FailsBefore cause step = absurd (none-failed old new worked (file_of_work (work_of gives.before call)) cause)
      by_device (FailsWriting left) cause step = absurd (none-failed old new worked (file_of_work (work_of gives.before call)) cause)

  -- so a call goes just so
  goes : (old : ToolState S) (answers : List GivenAnswer) (call : Call) (asks : List Ask) (outcome : Outcome) (new : ToolState S) (left : List GivenAnswer)
      → AllHonest new → Worked old new → Gives store old call asks outcome new → LeavesAnswers store old answers call asks outcome new left
      → GoesSo store.may_leave (before old answers) call (record { asks = asks; outcome = outcome; tools = tools_of store new; left = left })
  goes old answers (MemoryCalls call) asks outcome new left honest worked gives leaves = leaves
  goes old answers (Loan call) asks outcome new left honest worked gives leaves = (gives.0, leaves)
  goes old answers (Resource call) asks outcome new left honest worked gives leaves =
      (works (StepsFrom answers left) old call asks outcome new honest worked leaves.1, leaves.0)
  goes old answers MemError asks outcome new left honest worked gives leaves = (gives.0, leaves, gives.1)
  goes old answers ResError asks outcome new left honest worked gives leaves = (gives.0, leaves, gives.1)

  -- a call that prints so and leaves what a run goes on with
  abbrev Goes : Seen → Call → (Ended → List ℕ) → (Ended → Seen) → List ℕ → Seen → Type 0
  Goes x call prints leaves text y = (e : Ended) × EndsSo store.may_leave x.before call e × (text ≡ prints e) × (y ≡ leaves e)

  one-goes : (x : Seen) (call : Call) (prints : Ended → List ℕ) (leaves : Ended → Seen) (text text' : List ℕ) (y y' : Seen)
      → Goes x call prints leaves text y → Goes x call prints leaves text' y' → (text ≡ text') × (y ≡ y')
  one-goes x call prints leaves text text' y y' a b =
      let same = ends-agree store.may_leave x.before call a.0 b.0 a.1 b.1 in
      (a.2 ∙ ap prints same ∙ sym b.2, a.3 ∙ ap leaves same ∙ sym b.3)

  -- the opening of file 1
  abbrev OpeningGoes : Seen → List ℕ → Seen → Type 0
  OpeningGoes x text y = Goes x (Resource (OpenResFile 1)) (λ e. opening_text e.outcome) (after_opening x) text y

  opening-goes : (old : Machine S) (text : List ℕ) (new : Machine S) → AllHonest new.toolbox → DevicesWorked store old new
      → OpensFirst store old text new → OpeningGoes (seen old) text (seen new)
  opening-goes old text new honest worked does =
      let answers = old.answers.left in
      let Exact : MemoryRelation = StepsFrom answers answers in
      let end : ResourceEnd = record { outcome = does.0; state = resource_state store new.toolbox } in
      let step = any-memory MayStep Exact store.may_leave Works (resource_state store old.toolbox) 1 [] end (works MayStep old.toolbox (OpenResFile 1) [] does.0 new.toolbox honest worked does.1.0) in
      let refused = does.3 in let resource_refused = does.4 in let variables = does.5 in let left = does.6 in (
        record { asks = []; outcome = does.0; tools = tools_of store new.toolbox; left = answers },
        (
          tool-does store (λ k. ⊤) old.toolbox (Resource (OpenResFile 1)) [] does.0 new.toolbox does.1 does.2 (λ k h. honest k),
          (step, refl),
        ),
        does.7,
        cc (refused, resource_refused, variables, left),
      )

  -- a statement
  StatementGoes : Seen → ℕ → Statement → List ℕ → Seen → Type 0
  StatementGoes x number (CallStatement line) text y = Goes x (call_of x.variables line) (printed number line) (after x line) text y
  StatementGoes x number (Answer line) text y = (text ≡ []) × (y ≡ answering (answer_with x.variables line) x)

  one-stated : (x : Seen) (number : ℕ) (statement : Statement) (text text' : List ℕ) (y y' : Seen)
      → StatementGoes x number statement text y → StatementGoes x number statement text' y' → (text ≡ text') × (y ≡ y')
  unfolding StatementGoes
  one-stated x number (CallStatement line) text text' y y' a b = one-goes x (call_of x.variables line) (printed number line) (after x line) text text' y y' a b
  one-stated x number (Answer line) text text' y y' a b = (a.0 ∙ sym b.0, a.1 ∙ sym b.1)

  statement-goes : (old : Machine S) (number : ℕ) (statement : Statement) (text : List ℕ) (new : Machine S) → AllHonest new.toolbox → DevicesWorked store old new
      → StatementDoes store old number statement text new → StatementGoes (seen old) number statement text (seen new)
  unfolding StatementGoes
  statement-goes old number (CallStatement line) text new honest worked does =
      let call = call_of old.variables line in
      let outcome : Outcome = (does.0).outcome in
      let step = does.2 in let refused = step.2 in let resource_refused = step.3 in let variables = does.4 in (
        record { asks = does.1; outcome = outcome; tools = tools_of store new.toolbox; left = new.answers.left },
        (
          tool-does store (λ k. ⊤) old.toolbox call does.1 outcome new.toolbox step.0 step.1 (λ k h. honest k),
          goes old.toolbox old.answers.left call does.1 outcome new.toolbox new.answers.left honest worked step.0 does.3,
        ),
        does.5,
        cc (refused, resource_refused, variables),
      )
  statement-goes old number (Answer line) text new honest worked does =
      let toolbox = does.1 in let variables = does.2 in let left = does.3 in
      (does.0, cc (toolbox, variables, left))

  -- lines
  lines-agree : (old old' : Machine S) (lines : List Line) (texts texts' : List (List ℕ)) (new new' : Machine S)
      → AllHonest new.toolbox → AllHonest new'.toolbox → seen old ≡ seen old'
      → (run : AreRun store old lines texts new) → LinesWorked store old lines texts new run
      → (run' : AreRun store old' lines texts' new') → LinesWorked store old' lines texts' new' run' → (texts ≡ texts') × (seen new ≡ seen new')
  lines-agree old old' [] [] [] new new' honest honest' same run worked run' worked' = (refl, ap seen run ∙ same ∙ sym (ap seen run'))
  lines-agree old old' [] [] (text' ∷ texts') new new' honest honest' same run worked run' worked' = absurd run'
  lines-agree old old' [] (text ∷ texts) texts' new new' honest honest' same run worked run' worked' = absurd run
  lines-agree old old' (line ∷ lines) [] texts' new new' honest honest' same run worked run' worked' = absurd run
  lines-agree old old' (line ∷ lines) (text ∷ texts) [] new new' honest honest' same run worked run' worked' = absurd run'
  lines-agree old old' (line ∷ lines) (text ∷ texts) (text' ∷ texts') new new' honest honest' same run worked run' worked' =
      let a = statement-goes old line.number line.statement text run.0 (λ k. before-lines store run.0 lines texts new run.2 k (honest k)) worked.0 run.1 in
      let b = statement-goes old' line.number line.statement text' run'.0 (λ k. before-lines store run'.0 lines texts' new' run'.2 k (honest' k)) worked'.0 run'.1 in
      let moved = subst (λ x. StatementGoes x line.number line.statement text (seen run.0)) same a in
      let first = one-stated (seen old') line.number line.statement text text' (seen run.0) (seen run'.0) moved b in
      let rest = lines-agree run.0 run'.0 lines texts texts' new new' honest honest' first.1 run.2 worked.1 run'.2 worked'.1 in
      (ap (λ t. t ∷ texts) first.0 ∙ ap (λ ts. text' ∷ ts) rest.0, rest.1)

-- two runs agree
pub runs-agree : {S : Type 0} (store : Ghosts S) → RunsAgree store
runs-agree store sizes one other lines [] texts' last last' honest honest' forks a b = absurd a.0
runs-agree store sizes one other lines (text ∷ texts) [] last last' honest honest' forks a b = absurd b.0
runs-agree store sizes one other lines (text ∷ texts) (text' ∷ texts') last last' honest honest' forks a b =
    let each = each-honest store.is_honest last.toolbox.resources.stores honest in
    let each' = each-honest store.is_honest last'.toolbox.resources.stores honest' in
    let start = start_of sizes one in let run = a.0 in let worked = a.1 in
    let start' = start_of sizes other in let run' = b.0 in let worked' = b.1 in
    let same : seen store start ≡ seen store start' = ap (λ disks. over disks (seen store start)) forks in
    let moved = subst (λ x. OpeningGoes store x text (seen store run.0)) same (opening-goes store start text run.0 (λ k. before-lines store run.0 lines texts last run.2 k (each k)) worked.0 run.1) in
    let opens = opening-goes store start' text' run'.0 (λ k. before-lines store run'.0 lines texts' last' run'.2 k (each' k)) worked'.0 run'.1 in
    let x = seen store start' in
    let first = one-goes store x (Resource (OpenResFile 1)) (λ e. opening_text e.outcome) (after_opening x) text text' (seen store run.0) (seen store run'.0) moved opens in
    let rest = lines-agree store run.0 run'.0 lines texts texts' last last' each each' first.1 run.2 worked.1 run'.2 worked'.1 in
    (ap (λ t. t ∷ texts) first.0 ∙ ap (λ ts. text' ∷ ts) rest.0, ap (λ (x : Seen). x.before.tools) rest.1)

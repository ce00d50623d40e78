-- Calls in which no device fails do one thing.
use Rattle.std.proofs.Common.{◌≡◌, ℕ, Bool, true, false, cond, List, [], ◌++◌, length, Option, Some, None, Ok, Result, refl, ap, sym, ◌∙◌, arith}
use Rattle.std.specs.Prelude.{⊤}
use Rattle.std.proofs.lemmas.List.{append_cancel_left}
use Rattle.mac_base.specs.declared.error.OsErr.{OsErr}
use Rattle.mac_base.specs.declared.call.Call.{Call}
use Rattle.mac_base.specs.declared.call.Call.TheVariants.{Memory as MemoryCalls, Loan, Resource, MemError, ResError}
use Rattle.mac_base.specs.declared.loan_call.LoanCall.{LoanCall}
use Rattle.mac_base.specs.declared.memory_call.MemoryCall.{MemoryCall}
use Rattle.mac_base.specs.declared.reply.Results.TheVariants.{Code}
use Rattle.mac_base.specs.declared.resource_call.ResourceCall.{ResourceCall}
use Rattle.mac_base.specs.declared.resource_call.ResourceCall.TheVariants.{OpenResFile}
use Rattle.mac_base.specs.ExactStep.{StepEnd, exact_step}
use Rattle.mac_base.specs.GrowZone.{Answer, Ask, answers_in}
use Rattle.mac_base.specs.LoanStep.{Loans, LoanStepUnless, loan_refusal}
use Rattle.mac_base.specs.Outcomes.{Outcome}
use Rattle.mac_base.specs.Released.{disposed_of}
use Rattle.fork_bytes.specs.declared.table.Table.{Table}
use Rattle.res_table.specs.OpenFiles.{is_open, row_at}
use Rattle.res_table.specs.declared.chain.RowPlace.{RowPlace}
use Rattle.res_update.specs.Changes.{FileRow, FileTable, opened_table}
use Rattle.res_update.specs.Device.{Device, Disk, LeaveRelation, Reads, empty, fork, short, damaged, read_truly, Works as DeviceWorks}
use Rattle.res_update.specs.Files.{ResState, ResourceEnd, disk_of, with_heap}
use Rattle.res_update.specs.Loads.{loads_bytes, placed_end, placing}
use Rattle.res_update.specs.Steps.{GetsPlace, GetsRow, MemoryRelation, ResourceStepBy, StepsUnless, Work, Gets, Updates, Opens, Quiet, Works, after_memory, opened_end, work_of}
use Rattle.res_update.specs.Tests.{resource_refusal}
use Rattle.toolbox.specs.Tools.{ToolDoes, Tools, with_rows_forgotten}

-- what opening reads of a disk is one thing
reads-agree : (disk : Disk) (one other : Result (FileTable) OsErr) → Reads disk one → Reads disk other → one ≡ other
reads-agree disk one other (empty none) (empty none') = refl
reads-agree disk one other (empty none) (fork table is) = let h = is.0.header in absurd (omega (arith, ap (λ (d : Disk). length d) none, h))
reads-agree disk one other (empty none) (short some few) = absurd (omega (arith, ap (λ (d : Disk). length d) none))
reads-agree disk one other (empty none) (damaged many not) = absurd (omega (arith, ap (λ (d : Disk). length d) none))
reads-agree disk one other (fork table is) (empty none) = let h = is.0.header in absurd (omega (arith, ap (λ (d : Disk). length d) none, h))
reads-agree disk one other (fork table is) (fork table' is') = ap (λ (t : Table). Ok (opened_table t)) (is.1 ∙ sym is'.1)
reads-agree disk one other (fork table is) (short some few) = let h = is.0.header in absurd (omega (arith, h))
reads-agree disk one other (fork table is) (damaged many not) = absurd (not is.0)
reads-agree disk one other (short some few) (empty none) = absurd (omega (arith, ap (λ (d : Disk). length d) none))
reads-agree disk one other (short some few) (fork table is) = let h = is.0.header in absurd (omega (arith, h))
reads-agree disk one other (short some few) (short some' few') = refl
reads-agree disk one other (short some few) (damaged many not) = absurd (omega arith)
reads-agree disk one other (damaged many not) (empty none) = absurd (omega (arith, ap (λ (d : Disk). length d) none))
reads-agree disk one other (damaged many not) (fork table is) = absurd (not is.0)
reads-agree disk one other (damaged many not) (short some few) = absurd (omega arith)
reads-agree disk one other (damaged many not) (damaged many' not') = refl

-- a call of the Memory Manager steps just so where these answers are queued, of which it leaves those
abbrev pub Exactly : List Answer → List Answer → MemoryRelation
Exactly answers left s old call asks outcome new = exact_step s answers old call ≡ record { outcome = outcome; heap = new; asks = asks; left = left }

-- two calls of the Resource Manager
module _ (answers left left' : List Answer) (MayLeave : LeaveRelation) (old : ResState) (rc : ResourceCall) (asks asks' : List Ask) (end end' : ResourceEnd) where
  -- both asked the same, and ended in the same way
  abbrev Same : Type 0
  Same = (asks ≡ asks') × (end ≡ end')

  row-agrees : (p : RowPlace) (r : FileRow) (o : Option MemoryCall) → GetsRow (Exactly answers left) (read_truly MayLeave) DeviceWorks old rc asks end p r o
      → GetsRow (Exactly answers left') (read_truly MayLeave) DeviceWorks old rc asks' end' p r o → Same
  row-agrees p r None a b = (a.0 ∙ sym b.0, a.1 ∙ sym b.1)
  row-agrees p r (Some inner) a b =
      let same = sym a.2 ∙ b.2 in
      (ap (λ (e : StepEnd). e.asks) same, a.3 ∙ ap (λ (e : StepEnd). placed_end DeviceWorks (loads_bytes old rc) rc p r e.outcome (after_memory e.asks e.heap old)) same ∙ sym b.3)

  place-agrees : (p : RowPlace) (o : Option FileRow) → GetsPlace (Exactly answers left) (read_truly MayLeave) DeviceWorks old rc asks end p o
      → GetsPlace (Exactly answers left') (read_truly MayLeave) DeviceWorks old rc asks' end' p o → Same
  place-agrees p None a b = absurd a
  place-agrees p (Some r) a b = row-agrees p r (placing old.heap.table (loads_bytes old rc) r) a b

  work-agrees : (w : Work) → Works (Exactly answers left) (read_truly MayLeave) DeviceWorks old rc asks end w → Works (Exactly answers left') (read_truly MayLeave) DeviceWorks old rc asks' end' w → Same
  work-agrees (Gets p) a b = place-agrees p (row_at p old.files) a b
  work-agrees (Updates u) a b = (a.0 ∙ sym b.0, a.2 ∙ sym b.2)
  work-agrees (Opens k) a b = (a.0 ∙ sym b.0, a.3 ∙ ap (opened_end k old) (reads-agree (disk_of k old) a.1 b.1 a.2 b.2) ∙ sym b.3)
  work-agrees Quiet a b = (a.0 ∙ sym b.0, a.1 ∙ sym b.1)

  unless-agree : (o : Option OsErr) → StepsUnless (Exactly answers left) (read_truly MayLeave) o DeviceWorks old rc asks end → StepsUnless (Exactly answers left') (read_truly MayLeave) o DeviceWorks old rc asks' end' → Same
  unless-agree (Some code) a b = (a.0 ∙ sym b.0, a.1 ∙ sym b.1)
  unless-agree None a b = work-agrees (work_of old rc) a b

  steps-agree : ResourceStepBy (Exactly answers left) (read_truly MayLeave) DeviceWorks old rc asks end → ResourceStepBy (Exactly answers left') (read_truly MayLeave) DeviceWorks old rc asks' end' → Same
  steps-agree a b = unless-agree (resource_refusal old rc) a b

-- an opening makes no call of the Memory Manager, however those step
module _ (One Other : MemoryRelation) (MayLeave : LeaveRelation) (device : Device) (old : ResState) (k : ℕ) (asks : List Ask) (end : ResourceEnd) where
  opening-works : (b : Bool) → Works One (read_truly MayLeave) device old (OpenResFile k) asks end (cond b Quiet (Opens k)) → Works Other (read_truly MayLeave) device old (OpenResFile k) asks end (cond b Quiet (Opens k))
  opening-works true step = step
  opening-works false step = step

  opening-unless : (o : Option OsErr) → StepsUnless One (read_truly MayLeave) o device old (OpenResFile k) asks end → StepsUnless Other (read_truly MayLeave) o device old (OpenResFile k) asks end
  opening-unless (Some code) step = step
  opening-unless None step = opening-works (is_open k old.files) step

  pub any-memory : ResourceStepBy One (read_truly MayLeave) device old (OpenResFile k) asks end → ResourceStepBy Other (read_truly MayLeave) device old (OpenResFile k) asks end
  any-memory step = opening-unless (resource_refusal old (OpenResFile k)) step

-- what a call asked and gave, and what it left of the tools and of the queued answers
pub record Ended : Type 0 where
  pub asks : List Ask
  pub outcome : Outcome
  pub tools : Tools
  pub left : List Answer

-- the same of its parts
abbrev ended : List Ask → Outcome → ResState → Loans → List Answer → Ended
ended asks outcome resources loans left = record { asks = asks; outcome = outcome; tools = record { resources = resources; loans = loans }; left = left }

-- what a call finds: the tools, the codes of the last refusals, and the queued answers
pub record Before : Type 0 where
  pub tools : Tools
  pub refused : Option OsErr
  pub resource_refused : Option OsErr
  pub answers : List Answer

module _ (MayLeave : LeaveRelation) (old : Before) where
  -- how a call goes in which no device fails, with the answers that are queued
  abbrev pub GoesSo : Call → Ended → Type 0
  GoesSo (MemoryCalls call) e = Exactly old.answers e.left old.tools.resources.shape old.tools.resources.heap call e.asks e.outcome e.tools.resources.heap
  GoesSo (Loan call) e = (e.asks ≡ []) × (e.left ≡ old.answers)
  GoesSo (Resource call) e = ResourceStepBy (Exactly old.answers e.left) (read_truly MayLeave) DeviceWorks old.tools.resources call e.asks (record { outcome = e.outcome; state = e.tools.resources })
      × (old.answers ≡ answers_in e.asks ++ e.left)
  GoesSo MemError e = (e.asks ≡ []) × (e.left ≡ old.answers) × (e.outcome ≡ Ok (Code old.refused))
  GoesSo ResError e = (e.asks ≡ []) × (e.left ≡ old.answers) × (e.outcome ≡ Ok (Code old.resource_refused))

  -- it does what it may, and goes so
  abbrev pub EndsSo : Call → Ended → Type 0
  EndsSo call e = ToolDoes (λ k. ⊤) old.tools call e.asks e.outcome e.tools × GoesSo call e

  same-end : (a b : Ended) → a.asks ≡ b.asks → a.outcome ≡ b.outcome → a.tools.resources ≡ b.tools.resources → a.tools.loans ≡ b.tools.loans → a.left ≡ b.left → a ≡ b
  same-end a b asks outcome resources loans left =
      let parts : ended a.asks a.outcome a.tools.resources a.tools.loans a.left ≡ ended b.asks b.outcome b.tools.resources b.tools.loans b.left = cc in parts

  -- a call on a loan, by its refusal
  loan-agrees : (call : LoanCall) (a b : Ended) (o : Option OsErr) → a.asks ≡ b.asks → a.left ≡ b.left
      → a.tools.resources ≡ with_heap a.tools.resources.heap old.tools.resources → b.tools.resources ≡ with_heap b.tools.resources.heap old.tools.resources
      → LoanStepUnless o old.tools.loans old.tools.resources.heap call a.outcome a.tools.loans a.tools.resources.heap
      → LoanStepUnless o old.tools.loans old.tools.resources.heap call b.outcome b.tools.loans b.tools.resources.heap → a ≡ b
  loan-agrees call a b (Some code) asks left ra rb x y =
      same-end a b asks (x.0 ∙ sym y.0) (ra ∙ ap (λ h. with_heap h old.tools.resources) (x.2 ∙ sym y.2) ∙ sym rb) (x.1 ∙ sym y.1) left
  loan-agrees call a b None asks left ra rb x y =
      same-end a b asks (x.0 ∙ sym y.0) (ra ∙ ap (λ h. with_heap h old.tools.resources) (x.2 ∙ sym y.2) ∙ sym rb) (x.1 ∙ sym y.1) left

  -- a call ends in one way
  pub ends-agree : (call : Call) (a b : Ended) → EndsSo call a → EndsSo call b → a ≡ b
  ends-agree (MemoryCalls call) a b x y =
      let same = sym x.1 ∙ y.1 in
      let forgotten = ap (λ (e : StepEnd). with_rows_forgotten (disposed_of call e.asks e.outcome) e.heap old.tools.resources) same in
      same-end a b (ap (λ (e : StepEnd). e.asks) same) (ap (λ (e : StepEnd). e.outcome) same) (x.0.2 ∙ forgotten ∙ sym y.0.2) (x.0.1 ∙ sym y.0.1)
      (ap (λ (e : StepEnd). e.left) same)
  ends-agree (Loan call) a b x y =
      let refusal = loan_refusal old.tools.resources.shape old.tools.resources.heap call in
      loan-agrees call a b refusal (x.1.0 ∙ sym y.1.0) (x.1.1 ∙ sym y.1.1) x.0.1 y.0.1 x.0.0 y.0.0
  ends-agree (Resource call) a b x y =
      let end : ResourceEnd = record { outcome = a.outcome; state = a.tools.resources } in
      let end' : ResourceEnd = record { outcome = b.outcome; state = b.tools.resources } in
      let same = steps-agree old.answers a.left b.left MayLeave old.tools.resources call a.asks b.asks end end' x.1.0 y.1.0 in
      same-end a b same.0 (ap (λ (e : ResourceEnd). e.outcome) same.1) (ap (λ (e : ResourceEnd). e.state) same.1) (x.0.1 ∙ sym y.0.1)
      (append_cancel_left (answers_in a.asks) a.left b.left (sym x.1.1 ∙ y.1.1 ∙ ap (λ asks. answers_in asks ++ b.left) (sym same.0)))
  ends-agree MemError a b x y = same-end a b (x.1.0 ∙ sym y.1.0) (x.1.2 ∙ sym y.1.2) (x.0.0 ∙ sym y.0.0) (x.0.1 ∙ sym y.0.1) (x.1.1 ∙ sym y.1.1)
  ends-agree ResError a b x y = same-end a b (x.1.0 ∙ sym y.1.0) (x.1.2 ∙ sym y.1.2) (x.0.0 ∙ sym y.0.0) (x.0.1 ∙ sym y.0.1) (x.1.1 ∙ sym y.1.1)

-- What is promised of the calls that are made of a toolbox.
use Rattle.std.proofs.Common.{◌≡◌, ℕ, List, [], ◌∷◌, map, ap, subst, ◌∙◌}
use Rattle.mac_base.specs.HeadKind.{Shape}
use Rattle.mac_base.specs.Heap.{Heap}
use Rattle.mac_base.specs.declared.call.Call.{Call}
use Rattle.mac_base.specs.declared.call.Call.TheVariants.{Memory as MemoryCalls, Loan, Resource, MemError, ResError}
use Rattle.mac_base.specs.GrowZone.{Ask}
use Rattle.mac_base.specs.LoanStep.{Loans}
use Rattle.mac_base.specs.Outcomes.{Outcome}
use Rattle.mac_base.specs.Released.{disposed_of}
use Rattle.fork_disk.specs.declared.store.ForkStore.{Ghosts}
use Rattle.zone_laws.specs.Act.{Moment}
use Rattle.res_update.specs.Files.{ResState}
use Rattle.res_update.specs.Steps.{Memory as MayStep}
use Rattle.res_update.proofs.Answering.{fewer_honest, reads_fewer}
use Rattle.res_files.specs.FilesOn.{FailedAt, FilesOn, HonestAt, NoneFailed}
use Rattle.toolbox.specs.Tools.{IsToolRun, ToolDoes}
use Rattle.toolbox.proofs.Tools.{tools-show}
use Rattle.toolbox.specs.Headline.{AreSteps, Stepped, ToolboxShows, calls_of, left_by, tools_of}
use Rattle.toolbox.specs.Steps.{Gives}
use Rattle.toolbox.specs.ToolState.{IsHonest, ToolState, resource_state, without_handles}

module _ {S : Type 0} (store : Ghosts S) where
  -- the zone and the files of a toolbox that has these
  state : Shape → Heap → FilesOn S → ResState
  state shape heap on = record { shape = shape; heap = heap; files = on.files; loads = on.loads; disks = map store.fork on.stores }

  states : (old new : ToolState S) (on : FilesOn S) → new.shape ≡ old.shape → new.resources ≡ on → state new.shape new.heap new.resources ≡ state old.shape new.heap on
  states old new on shape resources = ap (λ s. state s new.heap new.resources) shape ∙ ap (state old.shape new.heap) resources

  -- a step of the toolbox is one of its zone, resource files and loans
  pub tool-does : (honest : ℕ → Type 0) (old : ToolState S) (call : Call) (asks : List Ask) (outcome : Outcome) (new : ToolState S) → Gives store old call asks outcome new → new.shape ≡ old.shape → ((k : ℕ) → honest k → IsHonest store new k)
      → ToolDoes honest (tools_of store old) call asks outcome (tools_of store new)
  unfolding state
  tool-does honest old (MemoryCalls call) asks outcome new g shape all = (g.1, g.2, states old new (without_handles (disposed_of call asks outcome) old.resources) shape g.3)
  tool-does honest old (Loan call) asks outcome new g shape all = (g.1, states old new old.resources shape g.2)
  tool-does honest old (Resource call) asks outcome new g shape all = (
    fewer_honest (IsHonest store new) honest (NoneFailed store.failures old.resources.stores new.resources.stores) (λ k. FailedAt store.failures k old.resources.stores new.resources.stores) MayStep store.may_leave
        (resource_state store old) call asks outcome (resource_state store new) all g.0,
    g.1,
    shape,
    reads_fewer (IsHonest store new) honest all (resource_state store old) call outcome (resource_state store new) g.4,
  )
  tool-does honest old MemError asks outcome new g shape all = (states old new old.resources shape g.4 ∙ ap (λ h. state old.shape h old.resources) g.2, g.3)
  tool-does honest old ResError asks outcome new g shape all = (states old new old.resources shape g.4 ∙ ap (λ h. state old.shape h old.resources) g.2, g.3)

  -- a device that is honest after a call was so before it
  same-stores : (old new : FilesOn S) (k : ℕ) → new.stores ≡ old.stores → HonestAt store.is_honest new.stores k → HonestAt store.is_honest old.stores k
  same-stores old new k same honest = subst (λ stores. HonestAt store.is_honest stores k) same honest

  pub was-honest : (old : ToolState S) (call : Call) (asks : List Ask) (outcome : Outcome) (new : ToolState S) → Gives store old call asks outcome new → (k : ℕ) → IsHonest store new k → IsHonest store old k
  was-honest old (MemoryCalls call) asks outcome new g k honest = same-stores old.resources new.resources k (ap (λ (on : FilesOn S). on.stores) g.3) honest
  was-honest old (Loan call) asks outcome new g k honest = same-stores old.resources new.resources k (ap (λ (on : FilesOn S). on.stores) g.2) honest
  was-honest old (Resource call) asks outcome new g k honest = g.2 k honest
  was-honest old MemError asks outcome new g k honest = same-stores old.resources new.resources k (ap (λ (on : FilesOn S). on.stores) g.4) honest
  was-honest old ResError asks outcome new g k honest = same-stores old.resources new.resources k (ap (λ (on : FilesOn S). on.stores) g.4) honest

  -- and so before many
  were-honest : (old : ToolState S) (steps : List (Stepped S)) → AreSteps store old steps → (k : ℕ) → IsHonest store (left_by old steps) k → IsHonest store old k
  were-honest old [] are k honest = honest
  were-honest old (step ∷ later) are k honest = let one = are.0 in was-honest old step.call step.asks step.outcome step.left one.0 k (were-honest step.left later are.1 k honest)

  -- the same of a list of calls
  are-run : (honest : ℕ → Type 0) (old : ToolState S) (steps : List (Stepped S)) → ((k : ℕ) → honest k → IsHonest store (left_by old steps) k) → AreSteps store old steps → IsToolRun honest (tools_of store old) (calls_of store steps)
  are-run honest old [] all are = tt
  are-run honest old (step ∷ later) all are =
      let one = are.0 in
      (tool-does honest old step.call step.asks step.outcome step.left one.0 one.1 (λ k h. were-honest step.left later are.1 k (all k h)), are-run honest step.left later all are.1)

moment : Heap → Loans → Moment
moment heap loans = record { heap = heap; loans = loans }

-- this is promised of them
pub toolbox-shows : {S : Type 0} (store : Ghosts S) → ToolboxShows store
unfolding moment
toolbox-shows store sizes start steps possible new are =
    let honest = IsHonest store (left_by start steps) in
    let run = are-run store honest start steps (λ k h. h) are in
    (run, tools-show honest sizes (tools_of store start) (calls_of store steps) possible new.shape (ap (λ heap. moment heap start.loans) new.heap ∙ ap (moment _) new.loans) new.files run)

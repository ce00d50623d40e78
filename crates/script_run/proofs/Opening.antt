-- Opening a file, and a call that has no host memory, keep every fork.
use Rattle.std.proofs.Common.{◌≡◌, ◌∙◌, ℕ, ◌-◌, ◌≤◌, slice_get, unwrap_or, List, Option, Some, None, Result, Ok, Err, Bool, true, false, refl, sym, ap, subst, inl}
use Rattle.std.specs.Prelude.{[], OnOk, OnErr, if◌then◌else◌}
use Rattle.mac_base.specs.declared.error.OsErr.{OsErr}
use Rattle.mac_base.specs.declared.call.Call.{Call}
use Rattle.mac_base.specs.declared.call.Call.TheVariants.{Memory, Loan, Resource, MemError, ResError}
use Rattle.mac_base.specs.declared.resource_call.ResourceCall.TheVariants as call
use Rattle.mac_base.specs.GrowZone.{Ask}
use Rattle.mac_base.specs.Outcomes.{Outcome}
use Rattle.fork_disk.specs.declared.store.ForkStore.{Ghosts}
use Rattle.fork_disk.specs.Crash.{at_first}
use Rattle.res_table.specs.OpenFiles.{is_open}
use Rattle.res_update.specs.Changes.{FileTable}
use Rattle.res_update.specs.Device.{Device, Disk, DiskRelations}
use Rattle.res_update.specs.Answered.{IsAnswered, answered_disks}
use Rattle.res_update.proofs.Answering.{disk_answered}
use Rattle.res_files.specs.FilesOn.{fork_of}
use Rattle.res_files.proofs.Stores.{fork_or}
use Rattle.res_update.specs.Files.{ResState, ResourceEnd, disk_of}
use Rattle.res_update.specs.Steps.{MemoryRelation, Opens, Quiet, ResourceStepBy, StepsUnless, Works, opened_end, work_of, Memory as MayStep, update_in}
use Rattle.res_update.specs.Tests.{resource_refusal}
use Rattle.res_update.specs.Updates.{Update}
use Rattle.res_manager.specs.Crash.{CrashLeaves}
use Rattle.toolbox.specs.Steps.{Gives, Unchanged}
use Rattle.toolbox.specs.ToolState.{IsHonest, ToolState, resource_state}
use Rattle.script_run.specs.declared.machine.Machine.{Machine}
use Rattle.script_run.specs.Line.{OpensFirst, SameForks, opening_text}

module _ (One : MemoryRelation) (disks : ℕ → DiskRelations) (device : Device) (old : ResState) (k : ℕ) (asks : List Ask) (end : ResourceEnd) where
  by_read : (read : Result FileTable OsErr) → end ≡ opened_end k old read → end.state.disks ≡ old.disks
  by_read (Ok table) is = ap (λ (e : ResourceEnd). e.state.disks) is
  by_read (Err code) is = ap (λ (e : ResourceEnd). e.state.disks) is

  by_refusal : (refusal : Option OsErr) → StepsUnless One disks refusal device old (call.OpenResFile k) asks end → end.state.disks ≡ old.disks
  by_refusal (Some code) step = ap (λ (e : ResourceEnd). e.state.disks) step.1
  by_refusal None step = elim (is_open k old.files) as (λ (b : Bool). Works One disks device old (call.OpenResFile k) asks end (if b then Quiet else Opens k) → end.state.disks ≡ old.disks) [
    | true ↦ λ works. ap (λ (e : ResourceEnd). e.state.disks) works.1
    | false ↦ λ works. by_read works.1 works.3
  ] step

  -- the opening of a file changes no disk
  opening_keeps_disks : ResourceStepBy One disks device old (call.OpenResFile k) asks end → end.state.disks ≡ old.disks
  opening_keeps_disks step = by_refusal (resource_refusal old (call.OpenResFile k)) step

-- nor does it update a file
opening_updates_none : (old : ResState) (k : ℕ) → update_in (work_of old (call.OpenResFile k)) ≡ None
opening_updates_none old k = elim (is_open k old.files) as (λ (b : Bool). update_in (if b then Quiet else Opens k) ≡ None) [ true ↦ refl | false ↦ refl ]

-- the fork of a file whose device is honest, by its disk
fork-answered : {S : Type 0} (store : Ghosts S) (new : ToolState S) (answered : ResState) → IsAnswered (IsHonest store new) (resource_state store new) answered
    → (k : ℕ) → 1 ≤ k → IsHonest store new k → fork_of store.fork k new.resources.stores ≡ disk_of k answered
fork-answered store new answered is k low honest =
    sym (fork_or store.fork new.resources.stores (k - 1)) ∙ sym (disk_answered (IsHonest store new) (resource_state store new) answered is k low honest)

-- whatever it gives
pub opening_keeps_forks : {S : Type 0} (store : Ghosts S) (old new : ToolState S) (k : ℕ) (asks : List Ask) (outcome : Outcome) → Gives store old (Resource (call.OpenResFile k)) asks outcome new → SameForks store old.resources.stores new.resources.stores
opening_keeps_forks store old new k asks outcome gives =
    let given = gives.0 in
    let end : ResourceEnd = record { outcome = outcome; state = given.after } in
    let kept = opening_keeps_disks MayStep (answered_disks (IsHonest store new) store.may_leave) given.device given.before k asks end given.step in
    let disks = kept ∙ ap (λ (s : ResState). s.disks) given.was in (
      gives.2,
      gives.3,
      λ n low honest.
          fork-answered store new given.after given.becomes n low honest
          ∙ ap (λ (ds : List Disk). unwrap_or (slice_get ds (n - 1)) []) disks
          ∙ fork_or store.fork old.resources.stores (n - 1),
      subst (λ (update : Option Update). CrashLeaves store update old.resources.stores new.resources.stores) (opening_updates_none (resource_state store old) k) gives.5,
    )

-- stores that weren't touched have the same forks
pub same_forks : {S : Type 0} (store : Ghosts S) (old left : List S) → left ≡ old → SameForks store old left
same_forks {S = S} store old left same = subst (λ (l : List S). SameForks store old l) (sym same) ((λ k h. h), refl, (λ k low h. refl), λ number low h. at_first (λ found may. inl may))

untouched : {S : Type 0} (store : Ghosts S) (old new : ToolState S) → new ≡ old → SameForks store old.resources.stores new.resources.stores
untouched {S = S} store old new same = same_forks store old.resources.stores new.resources.stores (ap (λ (t : ToolState S). t.resources.stores) same)

-- a call that has no host memory
pub unchanged_keeps_forks : {S : Type 0} (store : Ghosts S) (old new : ToolState S) (one : Call) → Unchanged store old one new → SameForks store old.resources.stores new.resources.stores
unchanged_keeps_forks store old new (Resource made) same = (
  same.2,
  same.3,
  (λ k low honest. fork-answered store new (resource_state store old) same.1 k low honest ∙ fork_or store.fork old.resources.stores (k - 1)),
  same.4,
)
unchanged_keeps_forks store old new (Memory made) same = untouched store old new same
unchanged_keeps_forks store old new (Loan made) same = untouched store old new same
unchanged_keeps_forks store old new MemError same = untouched store old new same
unchanged_keeps_forks store old new ResError same = untouched store old new same

-- a machine whose toolbox has opened file 1
pub machine_opened : {S : Type 0} (store : Ghosts S) (old : Machine S) (new : ToolState S) (outcome : Outcome) (text : List ℕ) → Gives store old.toolbox (Resource (call.OpenResFile 1)) [] outcome new → new.shape ≡ old.toolbox.shape
    → new.refused ≡ old.toolbox.refused → new.resource_refused ≡ old.toolbox.resource_refused → text ≡ opening_text outcome → OpensFirst store old text (record old { toolbox = new })
machine_opened store old new outcome text gives shape refused resource_refused is = (outcome, gives, shape, refused, resource_refused, refl, refl, is)

-- what is said of a value
pub on_value : {T E : Type 0} (Said More : Type 0) (result : Result T E) → (Said → More) → OnOk result Said → OnOk result More
on_value Said More (Ok value) so said = so said
on_value Said More (Err fault) so said = said

-- what is said of a fault
pub on_fault : {T E Said : Type 0} (result : Result T E) → Said → OnErr result Said
on_fault (Ok value) said = tt
on_fault (Err fault) said = said

pub on_fault_of : {T E Said More : Type 0} (result : Result T E) → (Said → More) → OnErr result Said → OnErr result More
on_fault_of (Ok value) so said = said
on_fault_of (Err fault) so said = so said

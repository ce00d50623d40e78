-- Steps of the Resource Manager over those of the Memory Manager.
use Rattle.std.proofs.Common.{◌≡◌, ℕ, List, [], length, Option, Some, None, Result, Ok, Err, Bool, true, false, refl, ap, subst}
use Rattle.std.specs.Prelude.{IfOk, OnOk, OnErr, if◌then◌else◌}
use Rattle.mac_base.specs.declared.error.HostFull.{HostFull}
use Rattle.mac_base.specs.declared.error.OsErr.{OsErr}
use Rattle.mac_base.specs.HeadKind.{Shape}
use Rattle.mac_base.specs.Heap.{Heap}
use Rattle.mac_base.specs.ZoneState.{ZoneState}
use Rattle.mac_base.specs.declared.memory_call.MemoryCall.{MemoryCall}
use Rattle.mac_base.specs.declared.call.Call.{Call}
use Rattle.mac_base.specs.declared.call.Call.TheVariants.{Memory, Loan, Resource, MemError, ResError}
use Rattle.mac_base.specs.LoanStep.{Loans}
use Rattle.mac_base.specs.declared.resource_call.ResourceCall.{ResourceCall}
use Rattle.mac_base.specs.declared.resource_call.ResourceCall.TheVariants.{OpenResFile}
use Rattle.mac_base.specs.GrowZone.{Ask}
use Rattle.mac_base.specs.Outcomes.{Outcome}
use Rattle.res_table.specs.declared.chain.RowPlace.{RowPlace}
use Rattle.res_table.specs.OpenFiles.{is_open, row_at}
use Rattle.res_update.specs.Changes.{FileRow}
use Rattle.res_update.specs.Answered.{IsAnswered, answered_disks}
use Rattle.res_update.specs.Device.{Device, DiskRelations}
use Rattle.res_update.specs.Files.{ResState, ResourceEnd}
use Rattle.res_update.specs.Loads.{loads_bytes, placing}
use Rattle.res_update.specs.Steps.{GetsPlace, GetsRow, Gets, MemoryRelation, Opens, Quiet, ResourceStepBy, StepsUnless, Updates, Work, Works, work_of, Memory as MayStep, ReadsBack, update_in}
use Rattle.res_update.specs.Tests.{resource_refusal}
use Rattle.res_files.specs.FilesOn.{FilesOn, WereHonest}
use Rattle.res_manager.specs.Crash.{CrashLeaves, IsSettled, file_settled}
use Rattle.fork_disk.specs.declared.store.ForkStore.{Ghosts}
use Rattle.toolbox.specs.Steps.{Gives, ResourceGives, Unchanged}
use Rattle.toolbox.specs.ToolState.{ToolState, IsHonest, resource_state}

module _ (One Other : MemoryRelation) (disks : ℕ → DiskRelations) (device : Device) (old : ResState) (call : ResourceCall) (asks : List Ask) (end : ResourceEnd)
    (same : (s : Shape) (heap : Heap) (inner : MemoryCall) (outcome : Outcome) (new : Heap) → One s heap inner asks outcome new → Other s heap inner asks outcome new) where
  row_by : (p : RowPlace) (r : FileRow) (inner : Option MemoryCall) → GetsRow One disks device old call asks end p r inner → GetsRow Other disks device old call asks end p r inner
  row_by p r None gets = gets
  row_by p r (Some inner) gets = (gets.0, gets.1, same old.shape old.heap inner gets.0 gets.1 gets.2, gets.3)

  place_by : (p : RowPlace) (r : Option FileRow) → GetsPlace One disks device old call asks end p r → GetsPlace Other disks device old call asks end p r
  place_by p (Some r) gets = row_by p r (placing old.heap.table (loads_bytes old call) r) gets
  place_by p None gets = gets

  work_by : (work : Work) → Works One disks device old call asks end work → Works Other disks device old call asks end work
  work_by (Gets p) works = place_by p (row_at p old.files) works
  work_by (Updates u) works = works
  work_by (Opens k) works = works
  work_by Quiet works = works

  unless_by : (refusal : Option OsErr) → StepsUnless One disks refusal device old call asks end → StepsUnless Other disks refusal device old call asks end
  unless_by (Some code) step = step
  unless_by None step = work_by (work_of old call) step

  -- a step whose calls of the Memory Manager with these asks are made otherwise, too
  pub step_by : ResourceStepBy One disks device old call asks end → ResourceStepBy Other disks device old call asks end
  step_by step = unless_by (resource_refusal old call) step

-- a toolbox over this zone and these files
abbrev tool : {S : Type 0} → ZoneState → Loans → Option OsErr → FilesOn S → Option OsErr → ToolState S
tool zone loans refused on resource_refused = record { shape = zone.shape; heap = zone.heap; loans = loans; refused = refused; resources = on; resource_refused = resource_refused }

-- what a call of the Resource Manager gives, where it had its host memory
pub resource_gives : {S : Type 0} (store : Ghosts S) (old new : ZoneState) (loans : Loans) (refused : Option OsErr) (on new_on : FilesOn S) (resource_refused : Option OsErr) (call : ResourceCall) (asks : List Ask) (result : Result Outcome HostFull)
    → IfOk result (λ outcome. ResourceGives store MayStep (tool old loans refused on resource_refused) call asks outcome (tool new loans refused new_on resource_refused))
    → IfOk result (λ outcome. ReadsBack (IsHonest store (tool new loans refused new_on resource_refused)) (resource_state store (tool old loans refused on resource_refused)) call outcome (resource_state store (tool new loans refused new_on resource_refused)))
    → IfOk result (λ outcome. CrashLeaves store (update_in (work_of (resource_state store (tool old loans refused on resource_refused)) call)) on.stores new_on.stores)
    → IfOk result (λ outcome. OnOk outcome (IsSettled store (file_settled (work_of (resource_state store (tool old loans refused on resource_refused)) call)) new_on.stores))
    → WereHonest store.is_honest on.stores new_on.stores → length new_on.stores ≡ length on.stores
    → IfOk result (λ outcome. Gives store (tool old loans refused on resource_refused) (Resource call) asks outcome (tool new loans refused new_on resource_refused))
resource_gives store old new loans refused on new_on resource_refused call asks (Ok outcome) step reads crash settled honest count = (step, refl, honest, count, reads, crash, settled)
resource_gives store old new loans refused on new_on resource_refused call asks (Err full) step reads crash settled honest count = tt

-- a call of the Resource Manager that has no host memory changes nothing
pub resource_unchanged : {S : Type 0} (store : Ghosts S) (old new : ZoneState) (loans : Loans) (refused : Option OsErr) (on new_on : FilesOn S) (resource_refused : Option OsErr) (call : ResourceCall) (result : Result Outcome HostFull) → OnErr result (new ≡ old)
    → OnErr result (IsAnswered (IsHonest store (tool new loans refused new_on resource_refused)) (resource_state store (tool new loans refused new_on resource_refused)) (resource_state store (tool old loans refused on resource_refused)))
    → OnErr result (CrashLeaves store None on.stores new_on.stores)
    → WereHonest store.is_honest on.stores new_on.stores → length new_on.stores ≡ length on.stores
    → OnErr result (Unchanged store (tool old loans refused on resource_refused) (Resource call) (tool new loans refused new_on resource_refused))
resource_unchanged store old new loans refused on new_on resource_refused call (Ok outcome) same state crash honest count = tt
resource_unchanged store old new loans refused on new_on resource_refused call (Err full) same state crash honest count = (ap (λ (z : ZoneState). tool z loans refused new_on resource_refused) same, state, honest, count, crash)

-- what a call gives does not speak of the codes that it leaves
pub gives_noted : {S : Type 0} (store : Ghosts S) (old mid : ToolState S) (refused resource_refused : Option OsErr) (call : Call) (asks : List Ask) (outcome : Outcome) → Gives store old call asks outcome mid → Gives store old call asks outcome (record mid { refused = refused; resource_refused = resource_refused })
gives_noted store old mid refused resource_refused (Memory call) asks outcome gives = gives
gives_noted store old mid refused resource_refused (Loan call) asks outcome gives = gives
gives_noted store old mid refused resource_refused (Resource call) asks outcome gives = gives
gives_noted store old mid refused resource_refused MemError asks outcome gives = gives
gives_noted store old mid refused resource_refused ResError asks outcome gives = gives

-- the opening of a file asks nothing
opening_asks_nothing : (One : MemoryRelation) (disks : ℕ → DiskRelations) (device : Device) (old : ResState) (k : ℕ) (asks : List Ask) (end : ResourceEnd) → ResourceStepBy One disks device old (OpenResFile k) asks end → asks ≡ []
opening_asks_nothing One disks device old k asks end step = by_refusal (resource_refusal old (OpenResFile k)) step
  where
    by_refusal : (refusal : Option OsErr) → StepsUnless One disks refusal device old (OpenResFile k) asks end → asks ≡ []
    by_refusal (Some code) step = step.0
    by_refusal None step = elim (is_open k old.files) as (λ (b : Bool). Works One disks device old (OpenResFile k) asks end (if b then Quiet else Opens k) → asks ≡ []) [
      | true ↦ λ works. works.0
      | false ↦ λ works. works.0
    ] step

-- so what it gives, it gives without an ask
pub opening_gives : {S : Type 0} (store : Ghosts S) (old new : ToolState S) (k : ℕ) (asks : List Ask) (result : Result Outcome HostFull) → IfOk result (λ outcome. Gives store old (Resource (OpenResFile k)) asks outcome new) → IfOk result (λ outcome. Gives store old (Resource (OpenResFile k)) [] outcome new)
opening_gives store old new k asks (Ok outcome) gives =
    let given = gives.0 in (
      subst (λ (none : List Ask). ResourceGives store MayStep old (OpenResFile k) none outcome new)
          (opening_asks_nothing MayStep (answered_disks (IsHonest store new) store.may_leave) given.device given.before k asks (record { outcome = outcome; state = given.after }) given.step) given,
      gives.1,
      gives.2,
      gives.3,
      gives.4,
      gives.5,
      gives.6,
    )
opening_gives store old new k asks (Err full) gives = tt

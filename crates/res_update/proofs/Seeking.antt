-- Steps of calls that seek a resource: over wider relations of disks, over other steps of the Memory Manager, and of
-- honest devices.
use Rattle.std.proofs.Common.{ℕ, Option, Some, None, Result, Ok, Err, List, subst}
use Rattle.mac_base.specs.declared.error.OsErr.{OsErr}
use Rattle.mac_base.specs.HeadKind.{Shape}
use Rattle.mac_base.specs.Heap.{Heap}
use Rattle.mac_base.specs.declared.memory_call.MemoryCall.{MemoryCall}
use Rattle.mac_base.specs.declared.resource_call.ResourceCall.{ResourceCall}
use Rattle.mac_base.specs.GrowZone.{Ask}
use Rattle.mac_base.specs.Outcomes.{Outcome}
use Rattle.res_table.specs.declared.chain.RowPlace.{RowPlace}
use Rattle.res_table.specs.OpenFiles.{row_at}
use Rattle.res_update.specs.Answered.{answered_disks}
use Rattle.res_update.specs.Changes.{FileRow}
use Rattle.res_update.specs.Device.{Device, DiskRelations, LeaveRelation, read_truly}
use Rattle.res_update.specs.Files.{ResState, ResourceEnd}
use Rattle.res_update.specs.Loads.{placing}
use Rattle.res_update.specs.Sought.{AnswersSought, FoundStepBy, GetsIt, getting_it}
use Rattle.res_update.specs.Steps.{GetsRow, MemoryRelation}
use Rattle.res_update.proofs.Answering.{all_answered}

module _ (One Other : MemoryRelation) (one other : ℕ → DiskRelations) (device : Device) (old : ResState) (asks : List Ask) (end : ResourceEnd)
    (same : (s : Shape) (heap : Heap) (inner : MemoryCall) (outcome : Outcome) (new : Heap) → One s heap inner asks outcome new → Other s heap inner asks outcome new) where
  row_by : (call : ResourceCall) (p : RowPlace) (r : FileRow) (inner : Option MemoryCall) → GetsRow One one device old call asks end p r inner → GetsRow Other other device old call asks end p r inner
  row_by call p r None gets = gets
  row_by call p r (Some inner) gets = (gets.0, gets.1, same old.shape old.heap inner gets.0 gets.1 gets.2, gets.3)

  it_by : (p : RowPlace) (o : Option FileRow) → GetsIt One one device old asks end p o → GetsIt Other other device old asks end p o
  it_by p None gets = gets
  it_by p (Some r) gets = row_by (getting_it r) p r (placing old.heap.table old.loads r) gets

  -- a step whose calls of the Memory Manager with these asks are made otherwise, whatever may become of disks
  pub found_by : (found : Result RowPlace OsErr) → FoundStepBy One one found device old asks end → FoundStepBy Other other found device old asks end
  found_by (Ok p) step = it_by p (row_at p old.files) step
  found_by (Err code) step = step

-- of honest devices a step is one of the states themselves
pub honest_found : (honest : ℕ → Type 0) (worked : Type 0) (Failed : ℕ → Type 0) (One Other : MemoryRelation) (may_leave : LeaveRelation) (old : ResState) (found : Result RowPlace OsErr) (asks : List Ask) (outcome : Outcome) (new : ResState)
    → ((k : ℕ) → honest k)
    → ((s : Shape) (heap : Heap) (inner : MemoryCall) (outcome : Outcome) (new : Heap) → One s heap inner asks outcome new → Other s heap inner asks outcome new)
    → (s : AnswersSought honest worked Failed One may_leave old found asks outcome new) → FoundStepBy Other (read_truly may_leave) found s.device old asks (record { outcome = outcome; state = new })
honest_found honest worked Failed One Other may_leave old found asks outcome new is same s =
    let disks = answered_disks honest may_leave in
    let from_old : FoundStepBy One disks found s.device old asks (record { outcome = outcome; state = s.after }) =
    subst (λ (state : ResState). FoundStepBy One disks found s.device state asks (record { outcome = outcome; state = s.after })) (all_answered honest is old s.before s.was) s.step in
    found_by One Other disks (read_truly may_leave) s.device old asks (record { outcome = outcome; state = new }) same found
    (subst (λ (state : ResState). FoundStepBy One disks found s.device old asks (record { outcome = outcome; state = state })) (all_answered honest is new s.after s.becomes) from_old)

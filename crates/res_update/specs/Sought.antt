-- Calls that seek a resource otherwise than by its id, and get it as GetResource does.
use Rattle.std.specs.Prelude.{◌≡◌, ℕ, List, [], Option, Some, None, is_some, if◌then◌else◌, Result, Ok, Err, ok_or, IsOkAnd, MatchBool}
use Rattle.mac_base.specs.declared.error.OsErr.{OsErr}
use Rattle.mac_base.specs.declared.error.OsErr.TheVariants.{ResNotFound, ResFNotFound}
use Rattle.mac_base.specs.declared.resource_call.ResourceCall.{ResourceCall}
use Rattle.mac_base.specs.declared.resource_call.ResourceCall.TheVariants.{Getting}
use Rattle.mac_base.specs.declared.resource_call.GettingCall.TheVariants.{GetResource}
use Rattle.mac_base.specs.GrowZone.{Ask}
use Rattle.mac_base.specs.Outcomes.{Outcome}
use Rattle.res_table.specs.declared.chain.RowPlace.{RowPlace}
use Rattle.res_table.specs.AllFiles.{ith_place}
use Rattle.res_table.specs.OpenFiles.{name_here, place_of_name, row_at}
use Rattle.res_update.specs.declared.seeking_call.SeekingCall.{SeekingCall}
use Rattle.res_update.specs.declared.seeking_call.SeekingCall.TheVariants.{GetNamedResource, Get1NamedResource, GetIndResource}
use Rattle.res_update.specs.Answered.{IsAnswered, answered_disks}
use Rattle.res_update.specs.Changes.{Files, FileRow}
use Rattle.res_update.specs.Device.{Device, DiskRelations, LeaveRelation, device_works}
use Rattle.res_update.specs.Files.{ResState, ResourceEnd, refused_with}
use Rattle.res_update.specs.Loads.{placing}
use Rattle.res_update.specs.Steps.{GetsRow, MemoryRelation}

-- where the resource is that a call seeks, if there is one
abbrev pub place_sought : SeekingCall → Files → Option RowPlace
place_sought (GetNamedResource kind name) files = place_of_name kind name files
place_sought (Get1NamedResource kind name) files = name_here kind name files
place_sought (GetIndResource kind i) files = ith_place kind i files.files

-- the same, or why the call is refused: no file is open, or none that it seeks in has such a resource
abbrev pub sought : SeekingCall → Files → Result RowPlace OsErr
sought call files = if is_some files.current then ok_or (place_sought call files) ResNotFound else Err ResFNotFound

-- the call that gets a row by its id
abbrev pub getting_it : FileRow → ResourceCall
getting_it r = Getting (GetResource r.resource.kind r.resource.id)

-- by what may become of the disk of each file
module _ (Memory : MemoryRelation) (disks : ℕ → DiskRelations) where
  -- a row is got as GetResource gets it
  abbrev pub GetsIt : Device → ResState → List Ask → ResourceEnd → RowPlace → Option FileRow → Type 0
  GetsIt device old asks end p (Some r) = GetsRow Memory disks device old (getting_it r) asks end p r (placing old.heap.table old.loads r)
  GetsIt device old asks end p None = ⊥

  -- From the old state, and with the device going so, a call may ask so and end so that found its resource at this
  -- place, or is refused by this code.
  abbrev pub FoundStepBy : Result RowPlace OsErr → Device → ResState → List Ask → ResourceEnd → Type 0
  FoundStepBy (Ok p) device old asks end = GetsIt device old asks end p (row_at p old.files)
  FoundStepBy (Err code) device old asks end = (asks ≡ []) × (end ≡ refused_with code old)

-- From the old state, the call with these asks may have this outcome and leave the new one, by what the devices
-- answered, as AnswersStep says it of other calls. A device failed in it just where a count of failures rose, that of
-- the store of the file with the resource.
pub record AnswersSought (honest : ℕ → Type 0) (worked : Type 0) (Failed : ℕ → Type 0) (Memory : MemoryRelation) (may_leave : LeaveRelation)
    (old : ResState) (found : Result RowPlace OsErr) (asks : List Ask) (outcome : Outcome) (new : ResState) : Type 0 where
  pub device : Device
  pub before : ResState
  pub after : ResState
  pub was : IsAnswered honest old before
  pub becomes : IsAnswered honest new after
  pub step : FoundStepBy Memory (answered_disks honest may_leave) found device before asks (record { outcome = outcome; state = after })
  pub cause : MatchBool (device_works device) worked (IsOkAnd found (λ p. Failed p.file))

-- SetResourceSize and WritePartialResource: other bytes of a resource in its file, which is written at once, whether or
-- not it is in memory.
use Rattle.std.specs.Prelude.{◌≡◌, ℕ, nat_le, Bool, true, false, List, length, Option, Some, None, is_some, if◌then◌else◌, Result, Ok, Err, MatchBool}
use Rattle.std.specs.Option.{option_map_or}
use Rattle.mac_base.specs.declared.error.OsErr.TheVariants.{DskFulErr, IoErr, ResNotFound, ResFNotFound}
use Rattle.mac_base.specs.HandleTable.{is_full, resized}
use Rattle.mac_base.specs.Outcomes.{Outcome}
use Rattle.mac_base.specs.declared.resource_call.ResourceCall.TheVariants.{Writing}
use Rattle.mac_base.specs.declared.resource_call.WritingCall.TheVariants.{UpdateResFile}
use Rattle.fork_disk.specs.Disk.{put_at}
use Rattle.res_table.specs.declared.chain.RowPlace.{RowPlace}
use Rattle.res_table.specs.OpenFiles.{place_of_handle}
use Rattle.res_table.specs.Rows.{changed_at, with_datum}
use Rattle.res_update.specs.declared.partial_end.PartialEnd.{PartialEnd}
use Rattle.res_update.specs.declared.partial_end.PartialEnd.TheVariants.{Done, OutOfBounds, Refused}
use Rattle.res_update.specs.declared.patching_call.PatchingCall.{PatchingCall}
use Rattle.res_update.specs.declared.patching_call.PatchingCall.TheVariants.{SetResourceSize, WritePartialResource}
use Rattle.res_update.specs.Answered.{IsAnswered, answered_disks}
use Rattle.res_update.specs.Changes.{FileRow, Files, with_changed_rows}
use Rattle.res_update.specs.Device.{Device, Works, FailsBefore, FailsWriting, DiskRelations, LeaveRelation, device_works}
use Rattle.res_update.specs.Files.{ResState, ResourceEnd, disk_of, refused_with}
use Rattle.res_update.specs.Partial.{data_at, end_of_part}
use Rattle.res_update.specs.Steps.{LeavesDisk, Memory}
use Rattle.res_update.specs.Updates.{Update, fits_fork, update_end, update_of}

-- the handle of the resource
abbrev pub handle_patched : PatchingCall → ℕ
handle_patched (SetResourceSize h n) = h
handle_patched (WritePartialResource h at bytes) = h

-- the bytes that it has in its file then, by those that it had
abbrev pub patched_bytes : PatchingCall → List ℕ → List ℕ
patched_bytes (SetResourceSize h n) own = resized n own
patched_bytes (WritePartialResource h at bytes) own = put_at at bytes own

-- whether the bytes that are written begin among those that it had, or right after them
abbrev pub begins_within : PatchingCall → List ℕ → Bool
begins_within (SetResourceSize h n) own = true
begins_within (WritePartialResource h at bytes) own = nat_le at (length own)

-- its place, if they do; or else they are out of its bounds
abbrev pub patch_at : PatchingCall → Files → RowPlace → Result RowPlace PartialEnd
patch_at call files p = if begins_within call (data_at p files) then Ok p else Err OutOfBounds

-- its place, or how the call ends before any work: no file is open, no resource has the handle, or they are out of its
-- bounds
abbrev pub patch_asked : PatchingCall → Files → Result RowPlace PartialEnd
patch_asked call files =
    if is_some files.current then option_map_or (patch_at call files) (place_of_handle (handle_patched call) files) (Err (Refused ResNotFound)) else Err (Refused ResFNotFound)

-- its row then: of all that a row has, only the bytes in the file are others
abbrev pub patched_row : PatchingCall → FileRow → FileRow
patched_row call r = with_datum (patched_bytes call r.resource.datum) r

-- the update that the call makes where the resource is at this place
abbrev pub patch_update : PatchingCall → Files → RowPlace → Option Update
patch_update call files p = update_of p.file (with_changed_rows (changed_at p.index (patched_row call))) files

-- the update that it makes, unless it ends before any work
abbrev pub update_asked : PatchingCall → Files → Result RowPlace PartialEnd → Option Update
update_asked call files (Ok p) = patch_update call files p
update_asked call files (Err refusal) = None

-- the end of a call that wrote, by whether the resource is in memory: of SetResourceSize there is no warning
abbrev pub end_of_patch : PatchingCall → Bool → PartialEnd
end_of_patch (SetResourceSize h n) in_memory = Done
end_of_patch (WritePartialResource h at bytes) in_memory = end_of_part in_memory

-- the end of a call whose update had this outcome
abbrev pub end_by : PartialEnd → Outcome → PartialEnd
end_by written (Ok results) = written
end_by written (Err code) = Refused code

-- by what may become of the disk of each file
module _ (disks : ℕ → DiskRelations) where
  -- With the device going so, an update may end so whose table a fork can hold, or can't. Before it the old bytes are
  -- read, in which a device may fail too; what no fork can hold isn't written.
  abbrev pub WritesBy : Bool → Device → Update → ResState → ResourceEnd → Type 0
  WritesBy true device u old end = LeavesDisk Memory disks device u (disk_of u.file old) × (end ≡ update_end device (Writing (UpdateResFile None)) u old)
  WritesBy false Works u old end = end ≡ refused_with DskFulErr old
  WritesBy false FailsBefore u old end = end ≡ refused_with IoErr old
  WritesBy false (FailsWriting left) u old end = ⊥

  -- the same of the update of an open file
  abbrev pub UpdatesBy : Device → Option Update → ResState → ResourceEnd → Type 0
  UpdatesBy device (Some u) old end = WritesBy (fits_fork u.table) device u old end
  UpdatesBy device None old end = ⊥

  -- From the old state, and with the device going so, a call whose resource is at this place may end so and leave the
  -- new state.
  abbrev pub PatchStepBy : RowPlace → Device → PatchingCall → ResState → PartialEnd → ResState → Type 0
  PatchStepBy p device call old end new = (outcome : Outcome) × UpdatesBy device (patch_update call old.files p) old (record { outcome = outcome; state = new })
      × (end ≡ end_by (end_of_patch call (is_full old.heap.table (handle_patched call))) outcome)

-- From the old state, a call whose resource is at this place may end so and leave the new one, by what the devices
-- answered: from the state as they answered before it, it is a step to the state as they answered after it. A device
-- failed in it just where the count of failures of the resource's file rose.
pub record AnswersPatch (honest : ℕ → Type 0) (worked : Type 0) (Failed : ℕ → Type 0) (may_leave : LeaveRelation)
    (old : ResState) (p : RowPlace) (call : PatchingCall) (end : PartialEnd) (new : ResState) : Type 0 where
  pub device : Device
  pub before : ResState
  pub after : ResState
  pub was : IsAnswered honest old before
  pub becomes : IsAnswered honest new after
  pub step : PatchStepBy (answered_disks honest may_leave) p device call before end after
  pub cause : MatchBool (device_works device) worked (Failed p.file)

-- the same of a call by its place, or by how it ends before any work: then all stays
module _ (honest : ℕ → Type 0) (worked : Type 0) (Failed : ℕ → Type 0) (may_leave : LeaveRelation) where
  abbrev pub Patches : ResState → PatchingCall → Result RowPlace PartialEnd → PartialEnd → ResState → Type 0
  Patches old call (Ok p) end new = AnswersPatch honest worked Failed may_leave old p call end new
  Patches old call (Err refusal) end new = (end ≡ refusal) × (new ≡ old) × worked

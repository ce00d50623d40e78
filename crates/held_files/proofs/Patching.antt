-- Calls that change a resource's bytes in its fork, of forks in memory: each device is honest.
use Rattle.std.proofs.Common.{◌≡◌, ◌∙◌, refl, ap, subst, ℕ, Bool, true, false, List, map, Option, Some, None, Result, Ok, Err, inl, inr}
use Rattle.std.specs.Prelude.{IsOk, MatchBool, OnErr, ⊤}
use Rattle.fork_disk.specs.Fork.{IsPartly}
use Rattle.held_files.specs.Forks.{ForksState, failures_in, fork_in, seen_on}
use Rattle.held_files.specs.declared.elsewhere.OtherZones.{OtherZones}
use Rattle.held_files.specs.Making.{FailsAt}
use Rattle.held_files.specs.Patching.{PatchesOnForks}
use Rattle.held_zone.specs.State.{State}
use Rattle.mac_base.specs.declared.error.OsErr.TheVariants.{MemFullErr}
use Rattle.res_update.proofs.Answering.{all_answered}
use Rattle.res_update.specs.declared.partial_end.PartialEnd.{PartialEnd}
use Rattle.res_update.specs.declared.partial_end.PartialEnd.TheVariants.{Done, InMemory, OutOfBounds, Refused}
use Rattle.res_update.specs.declared.patching_call.PatchingCall.{PatchingCall}
use Rattle.res_update.specs.Answered.{IsAnswered, answered_disks}
use Rattle.res_update.specs.Device.{Device, Works, FailsBefore, FailsWriting, Disk, LeaveRelation, device_works, read_truly}
use Rattle.res_update.specs.Files.{ResState, ResourceEnd, disk_of}
use Rattle.res_update.specs.Patching.{PatchStepBy, Patches, UpdatesBy, WritesBy, patch_asked, patch_update, update_asked}
use Rattle.res_update.specs.Steps.{IsSaved, LeavesDisk, Memory}
use Rattle.res_update.specs.Updates.{Update, fits_fork}
use Rattle.res_files.specs.FilesOn.{FailedAt, FilesOn, NoneFailed}
use Rattle.res_manager.specs.Patching.{OnWritten, PatchesOn}
use Rattle.res_manager.specs.Steps.{state_of}
use Rattle.res_table.specs.declared.chain.RowPlace.{RowPlace}
use Rattle.held_files.proofs.Honest.{Store, all_honest, counts-rose, honest_in, mem_store, saved_there}

-- where each device is honest, a step by what the devices answered is one by what the disks have
module _ (honest : ℕ → Type 0) (is : (k : ℕ) → honest k) (may_leave : LeaveRelation) where
  leaves_truly : (device : Device) (u : Update) (disk : Disk) → LeavesDisk Memory (answered_disks honest may_leave) device u disk → LeavesDisk Memory (read_truly may_leave) device u disk
  leaves_truly Works u disk leaves = leaves
  leaves_truly FailsBefore u disk leaves = leaves
  leaves_truly (FailsWriting left) u disk leaves = leaves (is u.file)

  writes_truly : (fits : Bool) (device : Device) (u : Update) (old : ResState) (end : ResourceEnd) → WritesBy (answered_disks honest may_leave) fits device u old end → WritesBy (read_truly may_leave) fits device u old end
  writes_truly true device u old end writes = (leaves_truly device u (disk_of u.file old) writes.0, writes.1)
  writes_truly false Works u old end writes = writes
  writes_truly false FailsBefore u old end writes = writes
  writes_truly false (FailsWriting left) u old end writes = writes

  updates_truly : (device : Device) (update : Option Update) (old : ResState) (end : ResourceEnd) → UpdatesBy (answered_disks honest may_leave) device update old end → UpdatesBy (read_truly may_leave) device update old end
  updates_truly device (Some u) old end updates = writes_truly (fits_fork u.table) device u old end updates
  updates_truly device None old end updates = updates

  step_truly : (p : RowPlace) (device : Device) (call : PatchingCall) (old : ResState) (end : PartialEnd) (new : ResState)
      → PatchStepBy (answered_disks honest may_leave) p device call old end new → PatchStepBy (read_truly may_leave) p device call old end new
  step_truly p device call old end new step = (step.0, updates_truly device (patch_update call old.files p) old (record { outcome = step.0; state = new }) step.1, step.2)

-- a failure of a device is one of its fork
caused : (works : Bool) (k : ℕ) (old new : List Store) → MatchBool works (NoneFailed failures_in old new) (FailedAt failures_in k old new)
    → MatchBool works (map failures_in new ≡ map failures_in old) (FailsAt k (map failures_in old) (map failures_in new))
caused true k old new cause = cause
caused false k old new cause = counts-rose k old new cause.1

-- what was written on honest devices was written
written_there : (honest : ℕ → Type 0) → ((k : ℕ) → honest k) → (end : PartialEnd) (update : Option Update) (state : ResState) → OnWritten end (IsSaved honest update state) → OnWritten end (IsSaved (λ k. ⊤) update state)
written_there honest is Done update state saved = saved_there honest is update state saved
written_there honest is InMemory update state saved = saved_there honest is update state saved
written_there honest is OutOfBounds update state saved = saved
written_there honest is (Refused code) update state saved = saved

-- a call that had its host memory
patches-on : (zones : OtherZones) (zone : State) (on new_on : FilesOn Store) (call : PatchingCall) (part : Result RowPlace PartialEnd) (end : PartialEnd)
    → Patches (honest_in new_on.stores) (NoneFailed failures_in on.stores new_on.stores) (λ k. FailedAt failures_in k on.stores new_on.stores) IsPartly (state_of fork_in zone.zone on) call part end (state_of fork_in zone.zone new_on)
    → OnWritten end (IsSaved (honest_in new_on.stores) (update_asked call on.files part) (state_of fork_in zone.zone new_on))
    → OnErr part (new_on ≡ on)
    → PatchesOnForks zone (seen_on zones on) call part end (seen_on zones new_on)
patches-on zones zone on new_on call (Err refusal) end patches written refused = (patches.0, ap (seen_on zones) refused)
patches-on zones zone on new_on call (Ok p) end patches written refused = inl (record {
  device = patches.device;
  step = step_truly honest is IsPartly p patches.device call was end becomes
      (subst (λ (s : ResState). PatchStepBy (answered_disks honest IsPartly) p patches.device call s end becomes) (all_answered honest is was patches.before patches.was)
      (subst (λ (s : ResState). PatchStepBy (answered_disks honest IsPartly) p patches.device call patches.before end s) (all_answered honest is becomes patches.after patches.becomes) patches.step));
  cause = caused (device_works patches.device) p.file on.stores new_on.stores patches.cause;
  reads_back = written_there honest is end (patch_update call on.files p) becomes written;
  zones = refl;
})
  where
    honest : ℕ → Type 0
    honest = honest_in new_on.stores

    is : (k : ℕ) → honest_in new_on.stores k
    is = all_honest new_on.stores

    was : ResState
    was = state_of fork_in zone.zone on

    becomes : ResState
    becomes = state_of fork_in zone.zone new_on

-- one that had none
full-on : (zones : OtherZones) (zone : State) (on new_on : FilesOn Store) (call : PatchingCall) (part : Result RowPlace PartialEnd) → IsOk part
    → IsAnswered (honest_in new_on.stores) (state_of fork_in zone.zone on) (state_of fork_in zone.zone new_on) → NoneFailed failures_in on.stores new_on.stores
    → PatchesOnForks zone (seen_on zones on) call part (Refused MemFullErr) (seen_on zones new_on)
full-on zones zone on new_on call (Err refusal) late same works = absurd (cc late)
full-on zones zone on new_on call (Ok p) late same works = inr (refl, stays)
  where
    is : state_of fork_in zone.zone new_on ≡ state_of fork_in zone.zone on
    is = all_answered (honest_in new_on.stores) (all_honest new_on.stores) (state_of fork_in zone.zone on) (state_of fork_in zone.zone new_on) same

    stays : seen_on zones new_on ≡ seen_on zones on
    stays = ap (λ (s : ResState). let f : ForksState = record { files = s.files; loads = s.loads; disks = s.disks; failures = map failures_in new_on.stores; zones = zones } in f) is
        ∙ ap (λ (counts : List ℕ). let f : ForksState = record { files = on.files; loads = on.loads; disks = map fork_in on.stores; failures = counts; zones = zones } in f) works

module _ (zones : OtherZones) (zone : State) (on : FilesOn Store) (seen : State) (old : ForksState) (zone_is : zone ≡ seen) (files_are : seen_on zones on ≡ old) (new_on : FilesOn Store) (call : PatchingCall) where
  -- so it is with the zone and the files as they were seen
  seen_then : (end : PartialEnd) → PatchesOnForks zone (seen_on zones on) call (patch_asked call on.files) end (seen_on zones new_on) → PatchesOnForks seen old call (patch_asked call old.files) end (seen_on zones new_on)
  seen_then end patches = subst (λ (f : ForksState). PatchesOnForks seen f call (patch_asked call f.files) end (seen_on zones new_on)) files_are
      (subst (λ (s : State). PatchesOnForks s (seen_on zones on) call (patch_asked call on.files) end (seen_on zones new_on)) zone_is patches)

  pub patches-seen : (end : PartialEnd) → PatchesOn mem_store zone.zone on call end new_on
      → OnWritten end (IsSaved (honest_in new_on.stores) (update_asked call on.files (patch_asked call on.files)) (state_of fork_in zone.zone new_on)) → OnErr (patch_asked call on.files) (new_on ≡ on)
      → PatchesOnForks seen old call (patch_asked call old.files) end (seen_on zones new_on)
  patches-seen end patches written refused = seen_then end (patches-on zones zone on new_on call (patch_asked call on.files) end patches written refused)

  pub full-seen : IsOk (patch_asked call on.files) → IsAnswered (honest_in new_on.stores) (state_of fork_in zone.zone on) (state_of fork_in zone.zone new_on) → NoneFailed failures_in on.stores new_on.stores
      → PatchesOnForks seen old call (patch_asked call old.files) (Refused MemFullErr) (seen_on zones new_on)
  full-seen late same works = seen_then (Refused MemFullErr) (full-on zones zone on new_on call (patch_asked call on.files) late same works)

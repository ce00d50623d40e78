-- How calls end that ask nothing.
use Rattle.std.specs.Prelude.{◌≡◌, ℕ, List, Result, Ok, MatchBool, MatchResult, ⊤}
use Rattle.mac_base.specs.declared.error.OsErr.{OsErr}
use Rattle.mac_base.specs.declared.error.OsErr.TheVariants.{DskFulErr}
use Rattle.mac_base.specs.ZoneState.{ZoneState}
use Rattle.mac_base.specs.declared.resource_call.ResourceCall.{ResourceCall}
use Rattle.mac_base.specs.declared.reply.Results.TheVariants.{Nothing}
use Rattle.mac_base.specs.Outcomes.{Outcome}
use Rattle.res_update.specs.Changes.{FileTable}
use Rattle.res_update.specs.Device.{Device, ReadsBy, device_works}
use Rattle.res_update.specs.Answered.{IsAnswered, answered_disks}
use Rattle.res_update.specs.Files.{ResState, disk_of, refused_with}
use Rattle.res_update.specs.Quiet.{quiet_end}
use Rattle.res_update.specs.Steps.{LeavesDisk, opened_end, Memory}
use Rattle.res_update.specs.Updates.{Update, fits_fork, update_end}
use Rattle.fork_disk.specs.declared.store.ForkStore.{Ghosts}
use Rattle.res_files.specs.FilesOn.{FailedAt, FilesOn, HonestAt, NoneFailed}
use Rattle.res_manager.specs.Steps.{state_of}
use Rattle.res_manager.specs.Tests.{Tests, early_tests}

-- the call ends so and leaves these, as calls do that need neither room in the zone nor a disk
abbrev pub EndsQuietly : {S : Type 0} → (S → List ℕ) → ZoneState → FilesOn S → ResourceCall → Outcome → ZoneState → FilesOn S → Type 0
EndsQuietly fork old old_files call outcome new new_files = quiet_end call (state_of fork old old_files) ≡ record { outcome = outcome; state = state_of fork new new_files }

-- such a call is refused by the first early test that it doesn't pass, and leaves all as it was; else it ends so, and
-- gives nothing
abbrev pub EndsTested : {S : Type 0} → (S → List ℕ) → ZoneState → FilesOn S → ResourceCall → Result ⊤ OsErr → ZoneState → FilesOn S → Type 0
EndsTested fork old old_files call done new new_files = Tests (state_of fork old old_files) (early_tests call) done
    × MatchResult done (λ _. EndsQuietly fork old old_files call (Ok Nothing) new new_files) (λ _. (new ≡ old) × (new_files ≡ old_files))

-- What a call that makes an update does to the disk and leaves, where its fork holds what is written: a device may
-- fail.
pub record Writes {S : Type 0} (store : Ghosts S) (old : ZoneState) (old_files : FilesOn S) (call : ResourceCall) (u : Update) (outcome : Outcome) (new : ZoneState) (new_files : FilesOn S) : Type 0 where
  pub device : Device
  pub after : ResState
  pub becomes : IsAnswered (HonestAt store.is_honest new_files.stores) (state_of store.fork new new_files) after
  pub leaves : LeavesDisk Memory (answered_disks (HonestAt store.is_honest new_files.stores) store.may_leave) device u (disk_of u.file (state_of store.fork old old_files))
  pub ends : update_end device call u (state_of store.fork old old_files) ≡ record { outcome = outcome; state = after }
  pub cause : MatchBool (device_works device) (NoneFailed store.failures old_files.stores new_files.stores) (FailedAt store.failures u.file old_files.stores new_files.stores)

-- it is refused, and leaves what was there
pub record IsUnwritten {S : Type 0} (store : Ghosts S) (old : ZoneState) (old_files : FilesOn S) (outcome : Outcome) (new : ZoneState) (new_files : FilesOn S) : Type 0 where
  pub ends : refused_with DskFulErr (state_of store.fork old old_files) ≡ record { outcome = outcome; state = state_of store.fork new new_files }
  pub works : NoneFailed store.failures old_files.stores new_files.stores

-- Such a call ends so: it is refused where no fork can hold what it writes, and else it writes.
abbrev pub WritesFile : {S : Type 0} → Ghosts S → ZoneState → FilesOn S → ResourceCall → Update → Outcome → ZoneState → FilesOn S → Type 0
WritesFile store old old_files call u outcome new new_files =
    MatchBool (fits_fork u.table) (Writes store old old_files call u outcome new new_files) (IsUnwritten store old old_files outcome new new_files)

-- OpenResFile of a file that isn't open ends so: a device may fail, and it is refused where the disk can't be opened.
pub record OpensFile {S : Type 0} (store : Ghosts S) (zone : ZoneState) (old_files : FilesOn S) (k : ℕ) (outcome : Outcome) (new_files : FilesOn S) : Type 0 where
  pub device : Device
  pub read : Result FileTable OsErr
  pub after : ResState
  pub becomes : IsAnswered (HonestAt store.is_honest new_files.stores) (state_of store.fork zone new_files) after
  pub reads : ReadsBy (answered_disks (HonestAt store.is_honest new_files.stores) store.may_leave k) device (disk_of k (state_of store.fork zone old_files)) read
  pub ends : opened_end k (state_of store.fork zone old_files) read ≡ record { outcome = outcome; state = after }
  pub cause : MatchBool (device_works device) (NoneFailed store.failures old_files.stores new_files.stores) (FailedAt store.failures k old_files.stores new_files.stores)

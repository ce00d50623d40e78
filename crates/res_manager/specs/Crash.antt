-- What a start may find after a crash in a call of the Resource Manager.
use Rattle.std.specs.Prelude.{◌≡◌, ℕ, ◌≤◌, ◌⊎◌, List, Option, Some, None, Result, IfSome, IfOk, OnOk, OnErr}
use Rattle.std.specs.Option.{IsSomeAnd}
use Rattle.mac_base.specs.ZoneState.{ZoneState}
use Rattle.mac_base.specs.declared.resource_call.ResourceCall.{ResourceCall}
use Rattle.mac_base.specs.Outcomes.{Outcome}
use Rattle.fork_bytes.specs.Written.{written}
use Rattle.fork_disk.specs.declared.store.ForkStore.{Ghosts}
use Rattle.fork_disk.specs.Crash.{AlwaysFinds, Finds}
use Rattle.res_update.specs.Changes.{saved_table}
use Rattle.res_update.specs.Steps.{Work, Gets, Updates, Opens, Quiet, IsSaved, ReadsBack, update_in, work_of}
use Rattle.res_update.specs.Updates.{Update}
use Rattle.res_files.specs.Crash.{history_of}
use Rattle.res_files.specs.FilesOn.{FilesOn, HonestAt, WereHonest, fork_of}
use Rattle.res_manager.specs.Steps.{state_of}

-- As the file of a number, a start may find what it might have found before the call, or, where the call updates that
-- file, the table as it is saved.
abbrev pub MayBeFound : {S : Type 0} → Ghosts S → Option Update → List S → ℕ → List ℕ → Type 0
MayBeFound store update old number found = store.may_find (history_of store.history number old) found
    ⊎ IsSomeAnd update (λ u. (u.file ≡ number) × (found ≡ written (saved_table u.table)))

-- Whenever a crash comes in a call that makes this update, or none, each file whose device is honest is found as before
-- the call or as the update saves it.
abbrev pub CrashLeaves : {S : Type 0} → Ghosts S → Option Update → List S → List S → Type 0
CrashLeaves store update old new = (number : ℕ) → 1 ≤ number → HonestAt store.is_honest new number
    → AlwaysFinds store.may_find (MayBeFound store update old number) (history_of store.history number old) (history_of store.history number new)

-- the file that such work leaves so that a crash changes nothing of it, where it succeeds
abbrev pub file_settled : Work → Option ℕ
file_settled (Updates u) = Some u.file
file_settled (Opens k) = Some k
file_settled (Gets p) = None
file_settled Quiet = None

-- where stores have journals, a start finds the file of this number as it is read, if its device is honest
abbrev pub IsSettled : {S : Type 0} → Ghosts S → Option ℕ → List S → Type 0
IsSettled store file stores = store.has_journal
    → IfSome file (λ k. HonestAt store.is_honest stores k → Finds store.may_find (λ found. found ≡ fork_of store.fork k stores) (history_of store.history k stores))

-- Work on the store of one file: whenever a crash comes, each file is found as before or as this update saves it, and
-- where the work succeeds, its file as it is read.
pub record WorksOnFile {S E : Type 0} (store : Ghosts S) (number : ℕ) (update : Option Update) (old new : List S) (result : Result Outcome E) : Type 0 where
  pub honest : WereHonest store.is_honest old new
  pub any_moment : CrashLeaves store update old new
  pub settled : IfOk result (λ outcome. OnOk outcome (IsSettled store (Some number) new))

-- the file is opened, and each fork is the same whose device is honest
pub record OpensFork {S E : Type 0} (store : Ghosts S) (number : ℕ) (old new : List S) (result : Result Outcome E) : Type 0 where
  pub works : WorksOnFile store number None old new result
  pub forks : (k : ℕ) → HonestAt store.is_honest new k → fork_of store.fork k new ≡ fork_of store.fork k old

-- the file is written, and reads back as the update saves it
pub record SavesFork {S E : Type 0} (store : Ghosts S) (number : ℕ) (update : Option Update) (old : List S) (new : ZoneState) (new_files : FilesOn S) (result : Result Outcome E) : Type 0 where
  pub works : WorksOnFile store number update old new_files.stores result
  pub saved : IfOk result (λ outcome. OnOk outcome (IsSaved (HonestAt store.is_honest new_files.stores) update (state_of store.fork new new_files)))

-- What a call leaves: a device that is honest after it was so before, and a file on such a device that the call updates
-- reads back. Whenever a crash comes, each file is found as before the call, or as the call saves it; once an update or
-- an opening succeeded, as it is read.
pub record LeavesForks {S E : Type 0} (store : Ghosts S) (old : ZoneState) (old_files : FilesOn S) (call : ResourceCall) (result : Result Outcome E) (new : ZoneState) (new_files : FilesOn S) : Type 0 where
  pub honest : WereHonest store.is_honest old_files.stores new_files.stores
  pub reads_back : IfOk result (λ outcome. ReadsBack (HonestAt store.is_honest new_files.stores) (state_of store.fork old old_files) call outcome (state_of store.fork new new_files))
  pub any_moment : IfOk result (λ outcome. CrashLeaves store (update_in (work_of (state_of store.fork old old_files) call)) old_files.stores new_files.stores)
  pub settled : IfOk result (λ outcome. OnOk outcome (IsSettled store (file_settled (work_of (state_of store.fork old old_files) call)) new_files.stores))
  pub crash_full : OnErr result (CrashLeaves store None old_files.stores new_files.stores)

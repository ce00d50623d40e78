-- What a call that changes a resource's bytes in its file does to the resource files.
use Rattle.std.specs.Prelude.{◌≡◌, ℕ, ◌+◌, nat_le, Bool, true, List, length, Option, Some, Result, IfOk, IsSomeAnd, MatchBool, OnErr, option_map, ⊤}
use Rattle.mac_base.specs.HandleTable.{HandleTable, FullHandle, new_table, no_flags, with_live}
use Rattle.mac_base.specs.ZoneState.{ZoneState}
use Rattle.mac_base.specs.Outcomes.{Outcome}
use Rattle.fork_disk.specs.Disk.{put_at}
use Rattle.fork_disk.specs.declared.store.ForkStore.{Ghosts}
use Rattle.res_table.specs.declared.chain.RowPlace.{RowPlace}
use Rattle.res_table.specs.OpenFiles.{row_at}
use Rattle.res_table.specs.Rows.{changed_at, with_datum}
use Rattle.res_update.specs.declared.partial_end.PartialEnd.{PartialEnd}
use Rattle.res_update.specs.declared.partial_end.PartialEnd.TheVariants.{Done, InMemory, OutOfBounds, Refused}
use Rattle.res_update.specs.declared.patching_call.PatchingCall.{PatchingCall}
use Rattle.res_update.specs.declared.patching_call.PatchingCall.TheVariants.{SetResourceSize, WritePartialResource}
use Rattle.res_update.specs.Answered.{IsAnswered, answered_disks}
use Rattle.res_update.specs.Changes.{Files, with_changed_rows}
use Rattle.res_update.specs.Device.{Device, device_works}
use Rattle.res_update.specs.Files.{ResState}
use Rattle.res_update.specs.Patching.{Patches, UpdatesBy, patch_asked, patch_update, patched_bytes, update_asked}
use Rattle.res_update.specs.Steps.{IsSaved}
use Rattle.res_update.specs.Updates.{Update, update_of}
use Rattle.res_files.specs.FilesOn.{FailedAt, FilesOn, HonestAt, NoneFailed, WereHonest}
use Rattle.res_files.specs.Stores.{KeepsStores}
use Rattle.res_manager.specs.Crash.{CrashLeaves, IsSettled}
use Rattle.res_manager.specs.Steps.{state_of}

-- Over this zone, which stays, and these files, the call may end so and leave these, by what the devices answered.
abbrev pub PatchesOn : {S : Type 0} → Ghosts S → ZoneState → FilesOn S → PatchingCall → PartialEnd → FilesOn S → Type 0
PatchesOn store zone old call end new = Patches (HonestAt store.is_honest new.stores) (NoneFailed store.failures old.stores new.stores)
    (λ k. FailedAt store.failures k old.stores new.stores) store.may_leave (state_of store.fork zone old) call (patch_asked call old.files) end (state_of store.fork zone new)

-- what holds where the call wrote
abbrev pub OnWritten : PartialEnd → Type 0 → Type 0
OnWritten Done P = P
OnWritten InMemory P = P
OnWritten OutOfBounds P = ⊤
OnWritten (Refused code) P = ⊤

-- What such a call leaves by the update that it makes, if it makes one: a device that is honest after it was so before.
-- Whenever a crash comes, each file is found as before the call, or as the call saves it; where it wrote, its file
-- reads back as it was saved, and is found as it is read. Where the host had no memory for it, the stores were read at
-- most.
pub record LeavesPatched {S E : Type 0} (store : Ghosts S) (zone : ZoneState) (old : FilesOn S) (update : Option Update) (result : Result PartialEnd E) (new : FilesOn S) : Type 0 where
  pub honest : WereHonest store.is_honest old.stores new.stores
  pub any_moment : CrashLeaves store update old.stores new.stores
  pub saved : IfOk result (λ end. OnWritten end (IsSaved (HonestAt store.is_honest new.stores) update (state_of store.fork zone new)))
  pub settled : IfOk result (λ end. OnWritten end (IsSettled store (option_map (λ (u : Update). u.file) update) new.stores))
  pub kept : OnErr result (KeepsStores store old.stores new.stores)

-- the same of a call on these files
abbrev pub LeavesPatch : {S E : Type 0} → Ghosts S → ZoneState → FilesOn S → PatchingCall → Result PartialEnd E → FilesOn S → Type 0
LeavesPatch store zone old call result new = LeavesPatched store zone old (update_asked call old.files (patch_asked call old.files)) result new

-- the table in which this handle is live alone, without flags and with these bytes
abbrev pub live_alone : ℕ → List ℕ → HandleTable
live_alone h bytes = with_live h (FullHandle no_flags bytes) new_table

-- bytes that a call makes of those that a device answered for a resource's own: as many, and where the device is
-- honest, these
pub record MakesOf (honest : Type 0) (call : PatchingCall) (own bytes : List ℕ) : Type 0 where
  pub read : List ℕ
  pub long : length read ≡ length own
  pub same : honest → read ≡ own
  pub made : bytes ≡ patched_bytes call read

-- the file of a place, in which the row there has these bytes, if it is open
abbrev pub update_with : List ℕ → RowPlace → Files → Option Update
update_with bytes p files = update_of p.file (with_changed_rows (changed_at p.index (with_datum bytes))) files

-- the row at a place is there, and has this handle
abbrev pub HasHandle : RowPlace → ℕ → Files → Type 0
HasHandle p h files = IsSomeAnd (row_at p files) (λ r. r.handle ≡ Some h)

-- How an update of the resource at a place goes for a call, by what the devices answered: with this outcome, and it
-- leaves these files.
pub record PatchesAt {S : Type 0} (store : Ghosts S) (zone : ZoneState) (old : FilesOn S) (p : RowPlace) (call : PatchingCall) (outcome : Outcome) (new : FilesOn S) : Type 0 where
  pub device : Device
  pub before : ResState
  pub after : ResState
  pub was : IsAnswered (HonestAt store.is_honest new.stores) (state_of store.fork zone old) before
  pub becomes : IsAnswered (HonestAt store.is_honest new.stores) (state_of store.fork zone new) after
  pub updates : UpdatesBy (answered_disks (HonestAt store.is_honest new.stores) store.may_leave) device (patch_update call before.files p) before (record { outcome = outcome; state = after })
  pub cause : MatchBool (device_works device) (NoneFailed store.failures old.stores new.stores) (FailedAt store.failures p.file old.stores new.stores)

-- the bytes that a call writes, put over others
abbrev pub put_over : PatchingCall → List ℕ → List ℕ
put_over (SetResourceSize h n) old = old
put_over (WritePartialResource h at bytes) old = put_at at bytes old

-- whether they end among these at the latest
abbrev pub ends_within : PatchingCall → List ℕ → Bool
ends_within (SetResourceSize h n) old = true
ends_within (WritePartialResource h at bytes) old = nat_le (at + length bytes) (length old)

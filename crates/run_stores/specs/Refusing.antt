-- Why a file isn't opened, by the calls of the system: the last one gave the reason, and those before it went well.
use Rattle.std.specs.Prelude.{◌≡◌, ◌≢◌, ◌⊎◌, Bool, true, false, not, List, [], ◌∷◌, Result, Ok, Err}
use Rattle.std.specs.declared.fs.File.{File}
use Rattle.std.specs.declared.io.ErrorKind.{ErrorKind}
use Rattle.std.specs.declared.io.ErrorKind.TheVariants as kinds
use Rattle.clap.specs.Words.{Text}
use Rattle.host_paths.specs.Asked.{Log, folder_name, is_regular, same_file}
use Rattle.host_paths.specs.Following.{CantFollow, Follows}
use Rattle.host_paths.specs.declared.host.Access.TheVariants.{Read, Both}
use Rattle.host_paths.specs.declared.host.Answer.{Answer}
use Rattle.host_paths.specs.declared.host.Answer.TheVariants.{Is, Nothing, Failed}
use Rattle.host_paths.specs.declared.host.Found.{Found}
use Rattle.host_paths.specs.declared.host.HostCall.TheVariants.{Of, Open, OpenOrMake, Over, Lock, Sync}
use Rattle.host_paths.specs.declared.host.Locking.TheVariants.{Busy}
use Rattle.run_stores.specs.Claiming.{Asking, HasLock, IsNamed, LeadsTo, Opens, is_known, is_unwritable}
use Rattle.run_stores.specs.Opening.{because}
use Rattle.run_stores.specs.declared.claimed.Naming.{Naming}
use Rattle.run_stores.specs.declared.claimed.Naming.TheVariants.{Once}
use Rattle.run_stores.specs.declared.opened.NotOpened.{NotOpened}
use Rattle.run_stores.specs.declared.opened.NotOpened.TheVariants.{InUse, Twice}
use Rattle.run_stores.specs.declared.opened.Refusal.{Refusal}

-- the folder of a path can't be opened, and that isn't for its mode; or it can't be synced
abbrev pub CantSyncFolder : Text → NotOpened → Log → Log → Type 0
CantSyncFolder to why old new = ((kind : ErrorKind) × (kind ≢ kinds.PermissionDenied) × (why ≡ because kind) × (new ≡ Open Read (folder_name to) (Err kind) ∷ old))
    ⊎ ((folder : File) × (kind : ErrorKind) × (why ≡ because kind) × (new ≡ Sync folder (Err kind) ∷ Open Read (folder_name to) (Ok folder) ∷ old))

-- a path can't be followed over links; or the folder of where it leads can't be synced
abbrev pub CantSettleName : Text → NotOpened → Log → Log → Type 0
CantSettleName path why old new = ((kind : ErrorKind) × CantFollow path kind old new × (why ≡ because kind))
    ⊎ ((to : Text) × (mid : Log) × Follows path to old mid × CantSyncFolder to why mid new)

-- no file can be made at this path; or it was made, and its name can't be settled
abbrev pub CantMake : Text → NotOpened → Log → Log → Type 0
CantMake path why old new = ((kind : ErrorKind) × (why ≡ because kind) × (new ≡ OpenOrMake path (Err kind) ∷ old))
    ⊎ ((file : File) × CantSettleName path why (OpenOrMake path (Ok file) ∷ old) new)

-- The file of this path can't be opened to read and to write it, and neither is it missing nor may it just not be
-- written; or it may not be written, and can't be opened to read it; or it is missing, and can't be made.
pub data CantOpen (path : Text) (why : NotOpened) (old new : Log) : Type 0 where
  at_once : (kind : ErrorKind) → kind ≢ kinds.NotFound → is_unwritable kind ≡ false → why ≡ because kind → new ≡ Open Both path (Err kind) ∷ old → CantOpen path why old new
  to_read : (kind other : ErrorKind) → is_unwritable kind ≡ true → why ≡ because kind → new ≡ Open Read path (Err other) ∷ Open Both path (Err kind) ∷ old → CantOpen path why old new
  to_make : CantMake path why (Open Both path (Err kinds.NotFound) ∷ old) new → CantOpen path why old new

-- another program has the lock of this file; or it can't be locked
abbrev pub CantLock : File → NotOpened → Log → Log → Type 0
CantLock file why old new = ((why ≡ InUse) × (new ≡ Lock file (Ok Busy) ∷ old)) ⊎ ((kind : ErrorKind) × (why ≡ because kind) × (new ≡ Lock file (Err kind) ∷ old))

-- a path leads to nothing, or to another file than this
abbrev pub is_elsewhere : Found → Answer → Bool
is_elsewhere here (Is there) = not (same_file there here)
is_elsewhere here Nothing = true
is_elsewhere here (Failed kind) = false

-- the path leads elsewhere now; or it can't be asked where it leads
abbrev pub HasMoved : Text → Found → NotOpened → Log → Log → Type 0
HasMoved path here why old new = ((there : Answer) × (is_elsewhere here there ≡ true) × (why ≡ InUse) × (new ≡ Over path there ∷ old))
    ⊎ ((kind : ErrorKind) × (why ≡ because kind) × (new ≡ Over path (Failed kind) ∷ old))

-- this file, which was opened by this path, can't be locked; or it is, and its path leads elsewhere; or it can't be
-- synced
pub data CantClaim (path : Text) (file : File) (here : Found) (why : NotOpened) (old new : Log) : Type 0 where
  unlocked : CantLock file why old new → CantClaim path file here why old new
  moved : (locked : Log) → HasLock file old locked → HasMoved path here why locked new → CantClaim path file here why old new
  unsynced : (locked led : Log) (kind : ErrorKind) → HasLock file old locked → LeadsTo path here locked led → why ≡ because kind → new ≡ Sync file (Err kind) ∷ led
      → CantClaim path file here why old new

-- By these calls the file of this path wasn't opened, where these were before it: it can't be opened; or it was, and
-- can't be asked which one it is; it is one of these, and may not be named again; or it is none of them and a regular
-- file, and can't be claimed.
pub data IsRefused (naming : Naming) (known : List Found) (path : Text) (why : NotOpened) (calls : Log) : Type 0 where
  unopened : CantOpen path why [] calls → IsRefused naming known path why calls
  unasked : (file : File) (start : Log) (kind : ErrorKind) → Opens path file [] start → why ≡ because kind → calls ≡ Of file (Failed kind) ∷ start → IsRefused naming known path why calls
  again : (file : File) (start : Log) (id : Found) → Opens path file [] start → is_known known id ≡ true → naming ≡ Once → why ≡ Twice → calls ≡ Of file (Is id) ∷ start
      → IsRefused naming known path why calls
  unclaimed : (file : File) (start : Log) (id : Found) → Opens path file [] start → is_known known id ≡ false → is_regular id.kind ≡ true
      → CantClaim path file id why (Of file (Is id) ∷ start) calls → IsRefused naming known path why calls

-- so the file of this path was opened; or it was refused for this reason
abbrev pub IsOpening : {F : Type 0} → Asking F → Naming → List Found → Text → Result F Refusal → Type 0
IsOpening asking naming known path (Ok file) = IsNamed asking naming known path file
IsOpening asking naming known path (Err refusal) = IsRefused naming known path refusal.why refusal.calls.events

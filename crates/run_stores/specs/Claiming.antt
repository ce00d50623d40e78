-- How a file is opened by a name, locked and synced.
use Rattle.std.specs.Prelude.{◌≡◌, ◌≢◌, ◌⊎◌, Bool, true, false, List, [], ◌∷◌, ◌++◌, Result, Ok, Err, ⊤}
use Rattle.std.specs.List.{list_any}
use Rattle.clap.specs.Words.{Text}
use Rattle.std.specs.declared.fs.File.{File}
use Rattle.std.specs.declared.io.ErrorKind.{ErrorKind}
use Rattle.std.specs.declared.io.ErrorKind.TheVariants as kinds
use Rattle.host_paths.specs.Asked.{Log, folder_name, is_regular, same_file}
use Rattle.host_paths.specs.Following.{Follows}
use Rattle.host_paths.specs.declared.host.Access.TheVariants.{Read, Both}
use Rattle.host_paths.specs.declared.host.Answer.TheVariants.{Is}
use Rattle.host_paths.specs.declared.host.Found.{Found}
use Rattle.host_paths.specs.declared.host.HostCall.TheVariants.{Of, Open, OpenOrMake, Over, Lock, Sync}
use Rattle.host_paths.specs.declared.host.Locking.{Locking}
use Rattle.host_paths.specs.declared.host.Locking.TheVariants.{Busy}
use Rattle.host_paths.specs.declared.host.Syncing.{Syncing}
use Rattle.host_paths.specs.declared.host.Syncing.TheVariants.{Done, NotOffered}
use Rattle.run_stores.specs.declared.opened.NewFile.{NewFile}
use Rattle.run_stores.specs.declared.claimed.Naming.{Naming}
use Rattle.run_stores.specs.declared.claimed.Naming.TheVariants.{Once}

-- a file that is one of these
abbrev pub is_known : List Found → Found → Bool
is_known known id = list_any (λ one. same_file one id) known

-- the folder of a path was synced, if its mode lets it be read and that is offered
abbrev pub SyncsFolder : Text → Log → Log → Type 0
SyncsFolder to old new = (new ≡ Open Read (folder_name to) (Err kinds.PermissionDenied) ∷ old)
    ⊎ ((folder : File) × (syncing : Syncing) × (new ≡ Sync folder (Ok syncing) ∷ Open Read (folder_name to) (Ok folder) ∷ old))

-- a path was followed over links, and the folder of where it leads was synced
abbrev pub SettlesName : Text → Log → Log → Type 0
SettlesName path old new = (to : Text) × (mid : Log) × Follows path to old mid × SyncsFolder to mid new

-- this file was made at this path, and its folder synced
abbrev pub Makes : Text → File → Log → Log → Type 0
Makes path file old new = SettlesName path (OpenOrMake path (Ok file) ∷ old) new

-- an error of this kind says of a file that it may not be written
abbrev pub is_unwritable : ErrorKind → Bool
is_unwritable kinds.PermissionDenied = true
is_unwritable kinds.ReadOnlyFilesystem = true
is_unwritable kind = false

-- it was to be opened to read and to write it, and it may not be written
abbrev pub IsUnwritable : Text → Log → Log → Type 0
IsUnwritable path old new = (kind : ErrorKind) × (is_unwritable kind ≡ true) × (new ≡ Open Both path (Err kind) ∷ old)

-- This file was opened by this path, to read and to write it; or to read it, since it may not be written; or it was
-- missing, and was made.
abbrev pub Opens : Text → File → Log → Log → Type 0
Opens path file old new = (new ≡ Open Both path (Ok file) ∷ old)
    ⊎ (((mid : Log) × IsUnwritable path old mid × (new ≡ Open Read path (Ok file) ∷ mid)) ⊎ Makes path file (Open Both path (Err kinds.NotFound) ∷ old) new)

-- this file was locked, if that is offered
abbrev pub HasLock : File → Log → Log → Type 0
HasLock file old new = (locking : Locking) × (locking ≢ Busy) × (new ≡ Lock file (Ok locking) ∷ old)

-- the path led to this file
abbrev pub LeadsTo : Text → Found → Log → Log → Type 0
LeadsTo path here old new = (there : Found) × (same_file there here ≡ true) × (new ≡ Over path (Is there) ∷ old)

-- whether a file was synced, by what the system answered
abbrev pub is_synced : Syncing → Bool
is_synced Done = true
is_synced NotOffered = false

-- This file was locked, and after that its path led to it still; then it was synced, if that is offered.
abbrev pub IsHeld : Text → File → Found → Bool → Log → Log → Type 0
IsHeld path file here was_synced old new = (locked : Log) × (led : Log) × (syncing : Syncing)
    × HasLock file old locked × LeadsTo path here locked led × (new ≡ Sync file (Ok syncing) ∷ led) × (was_synced ≡ is_synced syncing)

-- so was a regular file; of another nothing was asked, and it wasn't synced
pub record IsClaimed (path : Text) (file : File) (here : Found) (was_synced : Bool) (old new : Log) : Type 0 where
  pub held : is_regular here.kind ≡ true → IsHeld path file here was_synced old new
  pub other : is_regular here.kind ≡ false → (new ≡ old) × (was_synced ≡ false)

-- What is asked of a file that was opened: the file itself, which one it is, whether it was synced, and the calls of the
-- system so far, the newest first.
pub record Asking (F : Type 0) : Type 1 where
  pub file : F → File
  pub id : F → Found
  pub was_synced : F → Bool
  pub calls : F → Log

-- a file of the host as it was opened
abbrev pub as_opened : Asking NewFile
as_opened = record {
  file = λ file. file.file.file;
  id = λ file. file.id;
  was_synced = λ file. file.file.was_synced;
  calls = λ file. file.calls.events;
}

-- a file by itself, with which one it is and whether it was synced, where these were the calls
abbrev pub as_claimed : Log → Asking (File × Found × Bool)
as_claimed calls = record { file = λ file. file.0; id = λ file. file.1; was_synced = λ file. file.2; calls = λ file. calls }

-- This file was opened by this path, where these were before it, and it was asked which one it is. If it is none of
-- these, it was claimed; else it may have been named again. Nothing else was asked.
pub record IsNamed {F : Type 0} (asking : Asking F) (naming : Naming) (known : List Found) (path : Text) (file : F) : Type 0 where
  pub start : Log
  pub opened : Opens path (asking.file file) [] start
  pub claimed : is_known known (asking.id file) ≡ false → IsClaimed path (asking.file file) (asking.id file) (asking.was_synced file) (Of (asking.file file) (Is (asking.id file)) ∷ start) (asking.calls file)
  pub again : is_known known (asking.id file) ≡ true → (asking.calls file ≡ Of (asking.file file) (Is (asking.id file)) ∷ start) × (asking.was_synced file ≡ false)
  pub once : naming ≡ Once → is_known known (asking.id file) ≡ false

-- these files were opened by these paths in turn, where those were before them
abbrev pub AreNamed : {F : Type 0} → Asking F → Naming → List Found → List Text → List F → Type 0
AreNamed asking naming known [] [] = ⊤
AreNamed asking naming known (path ∷ paths) (file ∷ files) = IsNamed asking naming known path file × AreNamed asking naming (known ++ asking.id file ∷ []) paths files
AreNamed asking naming known [] (file ∷ files) = ⊥
AreNamed asking naming known (path ∷ paths) [] = ⊥

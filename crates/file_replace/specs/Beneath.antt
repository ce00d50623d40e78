-- By which calls of the system a path of the host does what it is asked for. The newest call comes first.
use Rattle.std.specs.Prelude.{◌≡◌, ◌⊎◌, Bool, true, false, List, ℕ, [], ◌∷◌, Option, Some, None, Result, Ok, Err, IsErr, is_ok}
use Rattle.std.specs.declared.fs.File.{File}
use Rattle.std.specs.IoError.{error_kind}
use Rattle.std.specs.declared.io.Error.{Error}
use Rattle.std.specs.declared.io.ErrorKind.{ErrorKind}
use Rattle.std.specs.declared.io.ErrorKind.TheVariants.{PermissionDenied}
use Rattle.host_paths.specs.Asked.{LeadsTo, Log, done_answer, folder_name}
use Rattle.host_paths.specs.Left.{OnlyBeside}
use Rattle.host_paths.specs.Made.{MakesBeside, file_of, path_of}
use Rattle.host_paths.specs.declared.beside.Beside.{Beside}
use Rattle.host_paths.specs.declared.host.Answer.{Answer}
use Rattle.host_paths.specs.declared.host.Answer.TheVariants.{Is, Nothing, Failed}
use Rattle.host_paths.specs.declared.host.HostCall.TheVariants.{At, Give, Of, Remove, Rename, SetMode, Sync, Write}
use Rattle.host_paths.specs.declared.host.FolderOpen.{FolderOpen}
use Rattle.host_paths.specs.declared.host.Found.{Found}
use Rattle.host_paths.specs.declared.host.Syncing.{Syncing}
use Rattle.host_paths.specs.declared.host.Syncing.TheVariants as answers
use Rattle.file_replace.specs.declared.place.FolderSync.{FolderSync}
use Rattle.file_replace.specs.declared.place.FolderSync.TheVariants as syncs
use Rattle.file_replace.specs.declared.host_place.There.{There}
use Rattle.file_replace.specs.declared.host_place.There.TheVariants as places
use Rattle.file_replace.specs.declared.rights.Owner.{Owner}

-- a path has nothing, not even a link
abbrev pub is_nothing : Answer → Bool
is_nothing (Is found) = false
is_nothing Nothing = true
is_nothing (Failed kind) = false

-- a path has what it has to have, or not
abbrev pub Has : There → List ℕ → Bool → Log → Log → Type 0
Has (places.This file) path is old new = LeadsTo path file is old new
Has places.Nothing path is old new = (answer : Answer) × (is ≡ is_nothing answer) × (new ≡ At path answer ∷ old)
Has places.Anything path is old new = (is ≡ true) × (new ≡ old)

-- a file was made beside the path, by the last calls; or it wasn't; and nothing else was done there
abbrev pub MakesIt : {T E : Type 0} → List ℕ → Bool → Option Beside → Result T E → Log → Log → Type 0
MakesIt path is_private beside (Err error) old new = OnlyBeside path old new
MakesIt path is_private (Some beside) (Ok value) old new = MakesBeside path is_private beside new × OnlyBeside path old new
MakesIt path is_private None (Ok value) old new = ⊥

-- these bytes were to be written to the file beside; without one it fails
abbrev pub WritesIt : {T E : Type 0} → Option Beside → List ℕ → Result T E → Log → Log → Type 0
WritesIt None bytes result old new = IsErr result
WritesIt (Some beside) bytes result old new = new ≡ Write (file_of beside) bytes (is_ok result) ∷ old

-- a file was to be given to an owner: to the user and the group, or else to the group alone
abbrev pub IsGivenTo : File → Owner → Log → Log → Type 0
IsGivenTo file owner old new = (new ≡ Give file (Some owner.user) owner.group true ∷ old)
    ⊎ ((is_done : Bool) × (new ≡ Give file None owner.group is_done ∷ Give file (Some owner.user) owner.group false ∷ old))

-- to whom it belongs then, which was asked for
abbrev pub BelongsTo : File → Result Owner Error → Log → Log → Type 0
BelongsTo file (Ok owner) old new = (found : Found) × (owner ≡ record { user = found.user; group = found.group }) × (new ≡ Of file (Is found) ∷ old)
BelongsTo file (Err error) old new = new ≡ Of file (Failed (error_kind error)) ∷ old

abbrev pub Gives : File → Owner → Result Owner Error → Log → Log → Type 0
Gives file owner result old new = (mid : Log) × IsGivenTo file owner old mid × BelongsTo file result mid new

-- the same of the file beside; without one it fails
abbrev pub GivesIt : Option Beside → Owner → Result Owner Error → Log → Log → Type 0
GivesIt None owner result old new = IsErr result
GivesIt (Some beside) owner result old new = Gives (file_of beside) owner result old new

-- the file beside was to get this mode; without one it fails
abbrev pub SetsMode : {T E : Type 0} → Option Beside → ℕ → Result T E → Log → Log → Type 0
SetsMode None mode result old new = IsErr result
SetsMode (Some beside) mode result old new = new ≡ SetMode (file_of beside) mode (is_ok result) ∷ old

-- the file beside was to be synced; without one it fails
abbrev pub SyncsIt : {T : Type 0} → Option Beside → Result T Error → Log → Log → Type 0
SyncsIt None result old new = IsErr result
SyncsIt (Some beside) result old new = new ≡ Sync (file_of beside) (done_answer result) ∷ old

-- the file beside was to be renamed to this path; without one it fails
abbrev pub RenamesIt : {T E : Type 0} → Option Beside → List ℕ → Result T E → Log → Log → Type 0
RenamesIt None path result old new = IsErr result
RenamesIt (Some beside) path result old new = new ≡ Rename (path_of beside) path (is_ok result) ∷ old

-- the file beside was to be removed, if there is one
abbrev pub RemovesIt : {T E : Type 0} → Option Beside → Result T E → Log → Log → Type 0
RemovesIt None result old new = new ≡ old
RemovesIt (Some beside) result old new = new ≡ Remove (path_of beside) (is_ok result) ∷ old

-- a folder that is open; or none, since its mode doesn't let it be read
abbrev pub open_answer : Option File → Result File ErrorKind
open_answer (Some folder) = Ok folder
open_answer None = Err PermissionDenied

-- the folder of a path was to be opened, to be synced, and this was answered
abbrev pub OpensFolder : List ℕ → Option File → List FolderOpen → Type 0
OpensFolder path folder new = new ≡ record { path = folder_name path; answer = open_answer folder } ∷ []

-- what the system answered where a folder was to be synced
abbrev pub folder_answer : Result FolderSync Error → Result Syncing ErrorKind
folder_answer (Ok syncs.Done) = Ok answers.Done
folder_answer (Ok syncs.NotOffered) = Ok answers.NotOffered
folder_answer (Err error) = Err (error_kind error)

-- a folder was to be synced, if it could be opened; else nothing is offered
abbrev pub SyncsFolder : Option File → Result FolderSync Error → Log → Log → Type 0
SyncsFolder None result old new = (result ≡ Ok syncs.NotOffered) × (new ≡ old)
SyncsFolder (Some folder) result old new = new ≡ Sync folder (folder_answer result) ∷ old

-- Calls of the system at paths and on open files, and what follows from their answers.
use Rattle.std.specs.Prelude.{◌≡◌, ⊤, ◌⊎◌, ℕ, ◌==◌, ◌&&◌, Bool, true, false, if◌then◌else◌, bytes_eq, codes, List, [], ◌∷◌, Option, Some, None, Result, Ok, Err, unwrap_or}
use Rattle.std.specs.Global.{Global}
use Rattle.std.specs.IoError.{error_kind}
use Rattle.std.specs.Path.{path_buf_bytes, path_parent}
use Rattle.std.specs.declared.fs.File.{File}
use Rattle.std.specs.declared.io.Error.{Error}
use Rattle.std.specs.declared.io.ErrorKind.{ErrorKind}
use Rattle.std.specs.declared.path.buf.PathBuf.{PathBuf}
use Rattle.host_paths.specs.declared.host.Answer.{Answer}
use Rattle.host_paths.specs.declared.host.Answer.TheVariants.{Is, Nothing, Failed}
use Rattle.host_paths.specs.declared.host.FileKind.{FileKind}
use Rattle.host_paths.specs.declared.host.FileKind.TheVariants as kinds
use Rattle.host_paths.specs.declared.host.Found.{Found}
use Rattle.host_paths.specs.declared.host.HostCall.{HostCall}
use Rattle.host_paths.specs.declared.host.HostCall.TheVariants.{At, Over, Of, ReadLink, Open, Lock, User, Empty}
use Rattle.host_paths.specs.declared.host.Syncing.{Syncing}
use Rattle.host_paths.specs.declared.host.Syncing.TheVariants as syncs

-- the calls, the newest first
abbrev pub Log : Type 0
Log = List HostCall

-- an answer as it is noted
abbrev pub answer_of : Result (Option Found) Error → Answer
answer_of (Ok (Some found)) = Is found
answer_of (Ok None) = Nothing
answer_of (Err error) = Failed (error_kind error)

-- the same of a file that is open
abbrev pub said_of : Result Found Error → Answer
said_of (Ok found) = Is found
said_of (Err error) = Failed (error_kind error)

-- the file that was made, if one was
abbrev pub opened : {E : Type 0} → Result File E → Option File
opened (Ok file) = Some file
opened (Err error) = None

-- what a call gave, or of which kind the error was
abbrev pub or_kind : {T : Type 0} → Result T Error → Result T ErrorKind
or_kind (Ok given) = Ok given
or_kind (Err error) = Err (error_kind error)

-- the path that a link names, or of which kind the error was
abbrev pub named_path : Result (PathBuf Global) Error → Result (List ℕ) ErrorKind
named_path (Ok named) = Ok (path_buf_bytes named)
named_path (Err error) = Err (error_kind error)

-- a file was synced, or of which kind the error was
abbrev pub done_answer : {T : Type 0} → Result T Error → Result Syncing ErrorKind
done_answer (Ok value) = Ok syncs.Done
done_answer (Err error) = Err (error_kind error)

-- the user that was asked for, if one is known
abbrev pub asked_user : {E : Type 0} → Result ℕ E → Option ℕ
asked_user (Ok user) = Some user
asked_user (Err error) = None

-- a regular file
abbrev pub is_regular : FileKind → Bool
is_regular kinds.Regular = true
is_regular kind = false

-- a folder
abbrev pub is_folder : FileKind → Bool
is_folder kinds.Folder = true
is_folder kind = false

-- two that were found are one file
abbrev pub same_file : Found → Found → Bool
same_file one other = one.device == other.device && one.number == other.number

-- a path was asked for, and then an open file: the path has nothing, or it is the file's own, or another's
abbrev pub LeadsTo : List ℕ → File → Bool → Log → Log → Type 0
LeadsTo path file is old new = ((is ≡ false) × (new ≡ At path Nothing ∷ old))
    ⊎ ((there : Found) × (here : Found) × (is ≡ same_file there here) × (new ≡ Of file (Is here) ∷ At path (Is there) ∷ old))

-- at most a path was asked for, and then an open file
abbrev pub AsksBoth : List ℕ → File → Log → Log → Type 0
AsksBoth path file old new = ((answer : Answer) × (new ≡ At path answer ∷ old)) ⊎ ((answer : Answer) × (here : Answer) × (new ≡ Of file here ∷ At path answer ∷ old))

-- a path was asked for, and then an open file, and one of the two calls failed
abbrev pub CantTell : List ℕ → File → Log → Log → Type 0
CantTell path file old new = ((kind : ErrorKind) × (new ≡ At path (Failed kind) ∷ old)) ⊎ ((there : Found) × (kind : ErrorKind) × (new ≡ Of file (Failed kind) ∷ At path (Is there) ∷ old))

-- a call that only asks or opens: nothing is made, changed or removed by it
abbrev pub is_asking : HostCall → Bool
is_asking (At path answer) = true
is_asking (Over path answer) = true
is_asking (Of file answer) = true
is_asking (ReadLink path named) = true
is_asking (Open access path file) = true
is_asking (Lock file locking) = true
is_asking (User user) = true
is_asking (Empty folder is) = true
is_asking call = false

-- all calls are such
abbrev pub OnlyAsks : Log → Type 0
OnlyAsks [] = ⊤
OnlyAsks (call ∷ past) = OnlyAsks past × (is_asking call ≡ true)

abbrev pub KeepsAsking : Log → Log → Type 0
KeepsAsking old new = OnlyAsks old → OnlyAsks new

-- the folder of a path, as it is opened
abbrev pub folder_name : List ℕ → List ℕ
folder_name path = let folder = unwrap_or (path_parent path) [] in if bytes_eq folder [] then codes "." else folder

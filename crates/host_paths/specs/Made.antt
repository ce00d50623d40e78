-- The file that is made beside a path.
use Rattle.std.specs.Prelude.{◌≡◌, ◌⊎◌, ℕ, Bool, true, false, List, ◌∷◌, Option, Some, None, Result, Ok, Err}
use Rattle.std.specs.Path.{path_buf_bytes}
use Rattle.std.specs.declared.fs.File.{File}
use Rattle.std.specs.declared.io.ErrorKind.{ErrorKind}
use Rattle.host_paths.specs.declared.beside.Beside.{Beside}
use Rattle.host_paths.specs.declared.host.HostCall.TheVariants.{Lock, Make}
use Rattle.host_paths.specs.declared.host.Locking.TheVariants.{Taken, Busy, NotOffered}
use Rattle.host_paths.specs.Asked.{CantTell, LeadsTo, Log}
use Rattle.host_paths.specs.Naming.{path_beside}

-- where a new file was made
abbrev pub path_of : Beside → List ℕ
path_of beside = path_buf_bytes beside.path.path

-- the file itself
abbrev pub file_of : Beside → File
file_of beside = beside.file

-- the mode with which a new file is made: a private one can be read by its owner alone
abbrev pub mode_of : Bool → ℕ
mode_of true = 0o600
mode_of false = 0o666

-- a new file was locked, and its path led to it still; or no lock can be had, or the path can't be asked for
abbrev pub IsOurs : List ℕ → File → Log → Log → Type 0
IsOurs path file old new = (new ≡ Lock file (Ok NotOffered) ∷ old) ⊎ (((kind : ErrorKind) × (new ≡ Lock file (Err kind) ∷ old))
    ⊎ (LeadsTo path file true (Lock file (Ok Taken) ∷ old) new ⊎ CantTell path file (Lock file (Ok Taken) ∷ old) new))

-- another program has its lock, or has put another file at its path
abbrev pub IsOthers : List ℕ → File → Log → Log → Type 0
IsOthers path file old new = (new ≡ Lock file (Ok Busy) ∷ old) ⊎ LeadsTo path file false (Lock file (Ok Taken) ∷ old) new

-- this file was made beside a path, and is locked
abbrev pub IsMade : List ℕ → Bool → Beside → Log → Log → Type 0
IsMade path is_private beside old new = (path_of beside ≡ path) × IsOurs path beside.file (Make (mode_of is_private) path (Some beside.file) ∷ old) new

-- a file was to be made at this path: it was; or there is one, or another program took it; or why not
abbrev pub MakesAt : {E : Type 0} → Bool → List ℕ → Result (Option Beside) E → Log → Log → Type 0
MakesAt is_private path (Ok (Some beside)) old new = IsMade path is_private beside old new
MakesAt is_private path (Ok None) old new = (new ≡ Make (mode_of is_private) path None ∷ old) ⊎ ((file : File) × IsOthers path file (Make (mode_of is_private) path (Some file) ∷ old) new)
MakesAt is_private path (Err error) old new = (new ≡ old) ⊎ (new ≡ Make (mode_of is_private) path None ∷ old)

-- the last calls made this file, beside this path
abbrev pub MakesBeside : List ℕ → Bool → Beside → Log → Type 0
MakesBeside path is_private beside new = (number : ℕ) × (past : Log) × IsMade (path_beside path number) is_private beside past new

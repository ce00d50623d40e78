-- How a path is opened to be written, by the calls of the system, of which the newest comes first.
use Rattle.std.specs.Prelude.{◌≡◌, ⊤, ◌⊎◌, ℕ, ◌&&◌, Bool, true, false, List, [], ◌∷◌, Some, Result, Ok, Err}
use Rattle.std.specs.Path.{path_buf_bytes}
use Rattle.std.specs.Global.{Global}
use Rattle.std.specs.declared.fs.File.{File}
use Rattle.std.specs.declared.path.buf.PathBuf.{PathBuf}
use Rattle.host_paths.specs.Asked.{Log, OnlyAsks, is_regular, same_file}
use Rattle.host_paths.specs.Following.{Follows}
use Rattle.host_paths.specs.declared.host.Access.TheVariants.{Both, Write}
use Rattle.host_paths.specs.declared.host.Answer.{Answer}
use Rattle.host_paths.specs.declared.host.Answer.TheVariants.{Is, Nothing, Failed}
use Rattle.host_paths.specs.declared.host.Found.{Found}
use Rattle.host_paths.specs.declared.host.HostCall.{HostCall}
use Rattle.host_paths.specs.declared.host.HostCall.TheVariants.{At, Over, Of, Open, Lock}
use Rattle.host_paths.specs.declared.host.Locking.TheVariants.{Taken, Busy, NotOffered}
use Rattle.file_replace.specs.declared.calls.HeldCall.{HeldCall}
use Rattle.file_replace.specs.declared.calls.HeldCall.TheVariants.{Asked}
use Rattle.file_replace.specs.declared.destination.Destination.{Destination}
use Rattle.file_replace.specs.declared.destination.Destination.TheVariants as destinations
use Rattle.file_replace.specs.declared.held.Held.{Held}
use Rattle.file_replace.specs.declared.rights.Rights.{Rights}
use Rattle.file_replace.specs.declared.told.NotReplaced.{NotReplaced}
use Rattle.file_replace.specs.declared.told.NotReplaced.TheVariants as refusals

-- it was asked by calls that have P, and they are noted
abbrev pub Asks : (List HostCall → Type 0) → List HeldCall → List HeldCall → Type 0
Asks P old new = (calls : List HostCall) × P calls × (new ≡ Asked calls ∷ old)

-- the path wasn't opened, so no file was to be put yet: another program has the lock, by the last call; it moved, if
-- that is so; or there is another cause
abbrev pub IsUnopened : Type 0 → NotReplaced → Log → Type 0
IsUnopened Moves refusals.InUse new = (file : File) × (past : Log) × (new ≡ Lock file (Ok Busy) ∷ past)
IsUnopened Moves refusals.NotAFile new = ⊥
IsUnopened Moves refusals.Moved new = Moves
IsUnopened Moves (refusals.Stopped stop) new = ⊥
IsUnopened Moves (refusals.NoBackup name stop) new = ⊥
IsUnopened Moves (refusals.Stream error) new = ⊥
IsUnopened Moves refusal new = ⊤

-- a file was locked, or its file system has no locks
abbrev pub IsLocked : File → Log → Log → Type 0
IsLocked file old new = (new ≡ Lock file (Ok Taken) ∷ old) ⊎ (new ≡ Lock file (Ok NotOffered) ∷ old)

-- what a path led to, what was opened, and what is at the path that was opened are one regular file
abbrev pub is_one : Found → Found → Found → Bool
is_one found here there = is_regular here.kind && same_file here found && same_file there here

-- to whom a file belongs, and its mode
abbrev pub rights_of : Found → Rights
rights_of found = record { owner = record { user = found.user; group = found.group }; mode = found.mode }

-- this file is the one that was found, this path is its own, and these are its rights
abbrev pub IsOwn : Held → PathBuf Global → File → Found → Log → Log → Type 0
IsOwn held path file found old new = (here : Found) × (there : Found) × (is_one found here there ≡ true)
    × (held ≡ record { file = file; path = path; rights = rights_of here; names = here.names }) × (new ≡ At (path_buf_bytes path) (Is there) ∷ Of file (Is here) ∷ old)

-- the file that a path leads to over links was opened to be read and written, locked, and is the one that was found
abbrev pub Holds : List ℕ → Held → Found → Log → Log → Type 0
Holds path held found old new = (followed : Log) × (mid : Log) × Follows path (path_buf_bytes held.path) old followed
    × IsLocked held.file (Open Both (path_buf_bytes held.path) (Ok held.file) ∷ followed) mid × IsOwn held held.path held.file found mid new

-- a path has nothing, or something else than what was found and what was opened
abbrev pub HasAnother : Found → Found → Answer → Type 0
HasAnother found here Nothing = ⊤
HasAnother found here (Is there) = is_one found here there ≡ false
HasAnother found here (Failed kind) = ⊥

-- this file was opened by this path, and one of both isn't that of what was found
abbrev pub IsAnother : List ℕ → File → Found → Log → Log → Type 0
IsAnother to file found old new = (here : Found) × (there : Answer) × HasAnother found here there × (new ≡ At to there ∷ Of file (Is here) ∷ old)

-- the file that a path leads to over links was opened and locked, and it isn't the one that was found any more
abbrev pub HoldsAnother : List ℕ → Found → Log → Log → Type 0
HoldsAnother path found old new = (to : List ℕ) × (file : File) × (followed : Log) × (mid : Log) × Follows path to old followed
    × IsLocked file (Open Both to (Ok file) ∷ followed) mid × IsAnother to file found mid new

-- A path was asked for, and the regular file that it led to is held. Or what it led to is no regular file, and nothing
-- else was asked.
abbrev pub OpensHeld : List ℕ → Result Held NotReplaced → Log → Type 0
OpensHeld path (Ok held) new = (found : Found) × (is_regular found.kind ≡ true) × Holds path held found (Over path (Is found) ∷ []) new
OpensHeld path (Err refusals.NotAFile) new = (found : Found) × (is_regular found.kind ≡ false) × (new ≡ Over path (Is found) ∷ [])
OpensHeld path (Err refusal) new = IsUnopened ((found : Found) × (is_regular found.kind ≡ true) × HoldsAnother path found (Over path (Is found) ∷ []) new) refusal new × OnlyAsks new

-- what was opened isn't a regular file
abbrev pub IsStream : List ℕ → File → Log → Log → Type 0
IsStream path file old new = (here : Found) × (is_regular here.kind ≡ false) × (new ≡ Of file (Is here) ∷ Open Write path (Ok file) ∷ old)

-- what was opened is a regular file
abbrev pub IsNoStream : List ℕ → Log → Log → Type 0
IsNoStream path old new = (file : File) × (here : Found) × (is_regular here.kind ≡ true) × (new ≡ Of file (Is here) ∷ Open Write path (Ok file) ∷ old)

-- what was found at a path was opened, and it is something else now
abbrev pub HasMoved : List ℕ → Found → Log → Log → Type 0
HasMoved path found old new = ((is_regular found.kind ≡ true) × HoldsAnother path found old new) ⊎ ((is_regular found.kind ≡ false) × IsNoStream path old new)

-- what was found at a path was opened
abbrev pub IsOpened : List ℕ → Found → Destination → Log → Log → Type 0
IsOpened path found (destinations.Existing held) old new = (is_regular found.kind ≡ true) × Holds path held found old new
IsOpened path found (destinations.Stream stream) old new = (is_regular found.kind ≡ false) × (path_buf_bytes stream.path ≡ path) × IsStream path stream.file old new
IsOpened path found (destinations.New it) old new = ⊥

-- a path was asked for, and it is open as what it led to; or it leads to nothing, over links, at this path
abbrev pub OpensAs : List ℕ → Result Destination NotReplaced → Log → Type 0
OpensAs path (Ok (destinations.New it)) new = Follows path (path_buf_bytes it.path) (Over path Nothing ∷ []) new
OpensAs path (Ok destination) new = (found : Found) × IsOpened path found destination (Over path (Is found) ∷ []) new
OpensAs path (Err refusal) new = IsUnopened ((found : Found) × HasMoved path found (Over path (Is found) ∷ []) new) refusal new × OnlyAsks new

-- What was done with the host's files and with the standard output, and what was written.
use Rattle.std.specs.Prelude.{◌≡◌, ◌≢◌, ◌⊎◌, ℕ, true, false, List, [], ◌∷◌, Option, None, Some, Result, Ok, Err, Vec, codes, ⊤}
use Rattle.std.specs.List.{Contains}
use Rattle.std.specs.Global.{Global}
use Rattle.std.specs.declared.fs.File.{File}
use Rattle.host_paths.specs.Identified.{Identifies}
use Rattle.host_paths.specs.declared.host.HostCall.{HostCall}
use Rattle.host_paths.specs.declared.identity.Identity.{Identity}
use Rattle.file_acts.specs.declared.acts.Act.{Act}
use Rattle.file_acts.specs.declared.acts.Act.TheVariants as act
use Rattle.file_acts.specs.declared.message.Problem.{Problem}
use Rattle.file_acts.specs.declared.message.Problem.TheVariants as problem

-- what was done, the newest first
abbrev pub Log : Type 0
Log = List Act

-- the bytes that were read, if they were
abbrev pub bytes_read : {E : Type 0} → Result (Vec ℕ Global) E → Option (List ℕ)
bytes_read (Ok bytes) = Some bytes.items
bytes_read (Err error) = None

-- the paths of the files that may be read, or none where any may
abbrev pub Paths : Type 0
Paths = Option (List (List ℕ))

abbrev pub MayRead : Paths → List ℕ → Type 0
MayRead None path = ⊤
MayRead (Some paths) path = Contains paths path

-- Nothing was written, made, removed or opened to be written, but for the standard output. Of files just those that may
-- be were read, or looked at.
abbrev pub OnlyReads : Paths → Log → Type 0
OnlyReads paths [] = ⊤
OnlyReads paths (act.Read path bytes ∷ past) = MayRead paths path × OnlyReads paths past
OnlyReads paths (act.ReadFront path most bytes ∷ past) = MayRead paths path × OnlyReads paths past
OnlyReads paths (act.ReadParts path number calls ∷ past) = MayRead paths path × OnlyReads paths past
OnlyReads paths (act.ReadHeld file bytes ∷ past) = ⊥
OnlyReads paths (act.Asked path answer ∷ past) = MayRead paths path × OnlyReads paths past
OnlyReads paths (act.Identified path calls ∷ past) = MayRead paths path × OnlyReads paths past
OnlyReads paths (act.Listed path ∷ past) = MayRead paths path × OnlyReads paths past
OnlyReads paths (act.Printed bytes is_done ∷ past) = OnlyReads paths past
OnlyReads paths (act.Saved calls ∷ past) = ⊥
OnlyReads paths (act.Unpacked calls ∷ past) = ⊥

-- it goes on being so by what was done: nothing was read
abbrev pub ReadsNothing : Log → Log → Type 0
ReadsNothing old new = (paths : Paths) → OnlyReads paths old → OnlyReads paths new

-- nothing but this file was
abbrev pub ReadsOnly : List ℕ → Log → Log → Type 0
ReadsOnly path old new = (paths : Paths) → MayRead paths path → OnlyReads paths old → OnlyReads paths new

-- files were read, and nothing was written
abbrev pub WritesNothing : Log → Log → Type 0
WritesNothing old new = OnlyReads None old → OnlyReads None new

-- these bytes were to be written to the standard output
abbrev pub Prints : {T : Type 0} → List ℕ → Result T Problem → Log → Log → Type 0
Prints bytes (Ok done) old new = new ≡ act.Printed bytes true ∷ old
Prints bytes (Err (problem.Print error)) old new = new ≡ act.Printed bytes false ∷ old
Prints bytes (Err other) old new = ⊥

-- the file that this path leads to was read, or the standard input, which "-" is; or why not
abbrev pub Reads : List ℕ → Result (Vec ℕ Global) Problem → Log → Log → Type 0
Reads path (Ok bytes) old new = new ≡ act.Read path (Some bytes.items) ∷ old
Reads path (Err (problem.Read why)) old new = new ≡ act.Read path None ∷ old
Reads path (Err other) old new = ⊥

-- the same of a file that belongs to another
abbrev pub ReadsOther : List ℕ → Result (Vec ℕ Global) Problem → Log → Log → Type 0
ReadsOther path (Ok bytes) old new = new ≡ act.Read path (Some bytes.items) ∷ old
ReadsOther path (Err (problem.Unread shown why)) old new = new ≡ act.Read path None ∷ old
ReadsOther path (Err problem.HostFull) old new = new ≡ act.Read path None ∷ old
ReadsOther path (Err other) old new = ⊥

-- a file that is held was read, or why not
abbrev pub ReadsHeld : File → Result (Vec ℕ Global) Problem → Log → Log → Type 0
ReadsHeld file (Ok bytes) old new = new ≡ act.ReadHeld file (Some bytes.items) ∷ old
ReadsHeld file (Err (problem.Read why)) old new = new ≡ act.ReadHeld file None ∷ old
ReadsHeld file (Err other) old new = ⊥

-- it was asked which file a path leads to, and it is this one; none is known of the standard output, which no file is, and
-- where the system doesn't say
abbrev pub Knows : List ℕ → Option Identity → Log → Log → Type 0
Knows path (Some it) old new = (calls : List HostCall) × (path ≢ codes "-") × Identifies path it [] calls × (new ≡ act.Identified path calls ∷ old)
Knows path None old new = ((path ≡ codes "-") × (new ≡ old)) ⊎ ((calls : List HostCall) × (path ≢ codes "-") × (new ≡ act.Identified path calls ∷ old))

-- one thing was done, and then another with what it gave; or the first wasn't done, and that was all
unfoldable pub Then : {T U : Type 0} → (Result T Problem → Log → Log → Type 0) → (T → Result U Problem → Log → Log → Type 0) → Result U Problem → Log → Log → Type 0
Then {T} first next result old new = ((done : T) × (mid : Log) × first (Ok done) old mid × next done result mid new)
    ⊎ ((why : Problem) × (result ≡ Err why) × first (Err why) old new)

-- nothing was done, and the result is so
abbrev pub Finds : {T : Type 0} → (Result T Problem → Type 0) → Result T Problem → Log → Log → Type 0
Finds Is result old new = Is result × (new ≡ old)

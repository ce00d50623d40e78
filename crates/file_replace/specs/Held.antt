-- What is done for a file of the host, by the calls that it was asked for. Which calls these are rests on no premise
-- about the host. What files have then rests on that of `Calls`: that the host is honest.
use Rattle.std.specs.Prelude.{◌≡◌, ◌≢◌, ℕ, ◌⊎◌, Bool, true, false, not, List, [], ◌∷◌, ◌++◌, Option, Some, None, is_some, Result, Ok, Err, IsErrAnd, IsOkAnd, nat_lt, ◌==◌, if◌then◌else◌, ⊤}
use Rattle.std.specs.Path.{path_buf_bytes}
use Rattle.std.specs.declared.io.Error.{Error}
use Rattle.std.specs.declared.path.buf.PathBuf.{PathBuf}
use Rattle.std.specs.Global.{Global}
use Rattle.file_replace.specs.declared.calls.HeldCall.{HeldCall}
use Rattle.file_replace.specs.declared.calls.HeldCall.TheVariants.{OpenFolder, Put}
use Rattle.file_replace.specs.declared.calls.HeldCall.TheVariants as held
use Rattle.file_replace.specs.declared.calls.Call.TheVariants as calls
use Rattle.file_replace.specs.declared.calls.Wanted.{Wanted}
use Rattle.file_replace.specs.declared.calls.Wanted.TheVariants.{Same, Nothing, Anything}
use Rattle.file_replace.specs.declared.destination.Destination.{Destination}
use Rattle.file_replace.specs.declared.destination.Destination.TheVariants as destinations
use Rattle.file_replace.specs.declared.destination.OpenStream.{OpenStream}
use Rattle.file_replace.specs.declared.held.Held.{Held}
use Rattle.file_replace.specs.declared.host_place.There.{There}
use Rattle.file_replace.specs.declared.host_place.There.TheVariants as places
use Rattle.file_replace.specs.declared.pair.PairFault.{PairFault}
use Rattle.file_replace.specs.declared.pair.PairFault.TheVariants as faults
use Rattle.file_replace.specs.declared.place.FolderSync.{FolderSync}
use Rattle.file_replace.specs.declared.place.FolderSync.TheVariants.{NotOffered}
use Rattle.file_replace.specs.declared.prepared.Difference.{Difference}
use Rattle.file_replace.specs.declared.prepared.Losses.{Losses}
use Rattle.file_replace.specs.declared.prepared.NewFile.{NewFile}
use Rattle.file_replace.specs.declared.prepared.NotBoth.{NotBoth}
use Rattle.file_replace.specs.declared.prepared.NotBoth.TheVariants.{First, Second}
use Rattle.file_replace.specs.declared.prepared.Outcome.{Outcome}
use Rattle.file_replace.specs.declared.prepared.Outcome.TheVariants.{Unchanged, Written}
use Rattle.file_replace.specs.declared.prepared.Prepared.{Prepared}
use Rattle.file_replace.specs.declared.prepared.Prepared.TheVariants as prepared
use Rattle.file_replace.specs.declared.replacement.Fault.{Fault}
use Rattle.file_replace.specs.declared.replacement.Step.TheVariants.{Create}
use Rattle.file_replace.specs.declared.rights.Owner.{Owner}
use Rattle.file_replace.specs.declared.rights.Rights.{Rights}
use Rattle.file_replace.specs.declared.told.NotReplaced.{NotReplaced}
use Rattle.file_replace.specs.declared.told.NotReplaced.TheVariants as refusals
use Rattle.file_replace.specs.declared.stop.Stop.{Stop}
use Rattle.file_replace.specs.Place.{Answered, IfHonest}
use Rattle.file_replace.specs.OnPlace.{answered}
use Rattle.file_replace.specs.LeftBeside.{IsMadeLeft}
use Rattle.file_replace.specs.OnHost.{IsSpot, spot_of}
use Rattle.file_replace.specs.Calls.{HeldAt, seen_at}
use Rattle.file_replace.specs.Pair.{CallsOfBoth, IfBothHonest, PutsBoth}
use Rattle.file_replace.specs.Replacing.{CallsOf, CallsToPrepare, CallsToPut, Prepares, Puts, ReplacesFile}

-- what was done for a file, the newest first
abbrev pub Log : Type 0
Log = List HeldCall

-- a fault as it is reported: with the path of the file that is left beside
abbrev pub fault_of : Stop → Fault Error
fault_of stop = record { step = stop.step; error = stop.error; is_left = is_some stop.left }

abbrev pub end_of : {T : Type 0} → Result T Stop → Result T (Fault Error)
end_of (Ok value) = Ok value
end_of (Err stop) = Err (fault_of stop)

-- what a path has to have when a file is renamed to it
abbrev pub wanted_of : There → Wanted
wanted_of (places.This file) = Same
wanted_of places.Nothing = Nothing
wanted_of places.Anything = Anything

-- the folder of a path couldn't be opened, so that no call was made there
abbrev pub IsShut : Wanted → Stop → Log → Log → Type 0
IsShut wanted stop old new = (stop.step ≡ Create) × (stop.left ≡ None) × (new ≡ OpenFolder wanted false ∷ old)

-- these calls made a file beside a path, or they were to
abbrev pub IsPrepared : HeldAt → Option Rights → List ℕ → Result (Option Owner) (Fault Error) → List Answered → Type 0
IsPrepared there rights bytes result calls = CallsToPrepare rights bytes result [] calls × IfHonest (Prepares rights bytes result) (seen_at there []) (seen_at there calls)

-- another number than before, if it is one
abbrev pub difference : ℕ → ℕ → Option Difference
difference old new = if old == new then None else Some (record { old = old; new = new })

-- what a file of these rights and so many names loses where the new one belongs to these
abbrev pub losses_by : Option Rights → ℕ → Option Owner → Losses
losses_by (Some rights) names (Some now) = record { names = if nat_lt 1 names then Some names else None; user = difference rights.owner.user now.user; group = difference rights.owner.group now.group }
losses_by rights names now = record { names = None; user = None; group = None }

-- what is lost by what is prepared
abbrev pub prepared_losses : {F : Type 0} → Prepared F → Losses
prepared_losses (prepared.File file) = file.losses
prepared_losses it = record { names = None; user = None; group = None }

-- A file was made beside this path, whose folder is open, or why not. It is renamed only there, and only while the path
-- has what it has to have.
abbrev pub MakesFile : {F : Type 0} → HeldAt → List ℕ → There → Option Rights → ℕ → List ℕ → Result (NewFile F) Stop → Log → Log → Type 0
MakesFile there path has rights names bytes (Ok file) old new = IsSpot path has (spot_of file.place) × (new ≡ OpenFolder (wanted_of has) true ∷ old)
    × ((now : Option Owner) × IsPrepared there rights bytes (Ok now) file.place.log.events × (file.losses ≡ losses_by rights names now))
MakesFile there path has rights names bytes (Err stop) old new = IsShut (wanted_of has) stop old new
    ⊎ ((calls : List Answered) × (new ≡ Put path calls ∷ OpenFolder (wanted_of has) true ∷ old) × IsPrepared there rights bytes (Err (fault_of stop)) calls)

-- the same of what is prepared
abbrev pub MakesPrepared : {F : Type 0} → HeldAt → List ℕ → There → Option Rights → ℕ → List ℕ → Result (Prepared F) NotReplaced → Log → Log → Type 0
MakesPrepared there path has rights names bytes (Ok (prepared.File file)) old new = MakesFile there path has rights names bytes (Ok file) old new
MakesPrepared {F} there path has rights names bytes (Err (refusals.Stopped stop)) old new = MakesFile {F = F} there path has rights names bytes (Err stop) old new
MakesPrepared there path has rights names bytes result old new = ⊥

-- the file beside its path was put there, or why not
abbrev pub PutsFile : {F : Type 0} → HeldAt → NewFile F → Result FolderSync Stop → Log → Log → Type 0
PutsFile there file result old new = (calls : List Answered) × (new ≡ Put (path_buf_bytes file.place.path) calls ∷ old) × CallsToPut (end_of result) file.place.log.events calls
    × IfHonest (Puts (end_of result)) (seen_at there file.place.log.events) (seen_at there calls)

-- the file beside its path was removed, or is left
abbrev pub GivesUp : {F : Type 0} → NewFile F → Option (PathBuf Global) → Log → Log → Type 0
GivesUp file left old new = (new ≡ Put (path_buf_bytes file.place.path) (answered calls.Remove (not (is_some left)) [] ∷ file.place.log.events) ∷ old) × IsMadeLeft left

-- what is prepared was put, or why not
abbrev pub PutsPrepared : {F : Type 0} → HeldAt → Prepared F → Result Outcome NotReplaced → Log → Log → Type 0
PutsPrepared there prepared.Unchanged (Ok Unchanged) old new = new ≡ old
PutsPrepared there (prepared.File file) (Ok (Written answer)) old new = PutsFile there file (Ok answer) old new
PutsPrepared there (prepared.File file) (Err (refusals.Stopped stop)) old new = PutsFile there file (Err stop) old new
PutsPrepared there (prepared.Stream stream) (Ok (Written answer)) old new = (answer ≡ NotOffered) × (new ≡ held.Stream (path_buf_bytes stream.to.path) true stream.bytes.now ∷ old)
PutsPrepared there (prepared.Stream stream) (Err (refusals.Stream error)) old new = new ≡ held.Stream (path_buf_bytes stream.to.path) false stream.bytes.now ∷ old
PutsPrepared there it result old new = ⊥

-- what is prepared was given up, and a file that couldn't be removed is reported
abbrev pub GivesUpPrepared : {F : Type 0} → Prepared F → Option (PathBuf Global) → Log → Log → Type 0
GivesUpPrepared (prepared.File file) left old new = GivesUp file left old new
GivesUpPrepared it left old new = (left ≡ None) × (new ≡ old)

-- two files of these places were put, the second only after the first
abbrev pub PutsFiles : {F G : Type 0} → HeldAt → HeldAt → NewFile F → NewFile G → Result (FolderSync × FolderSync) (PairFault Error Error) → Log → Log → Type 0
PutsFiles there also first second result old new = (calls : List Answered) × (others : List Answered)
    × (new ≡ Put (path_buf_bytes second.place.path) others ∷ Put (path_buf_bytes first.place.path) calls ∷ old)
    × CallsOfBoth result first.place.log.events calls second.place.log.events others
    × IfBothHonest (PutsBoth result (seen_at there first.place.log.events) (seen_at there calls) (seen_at also second.place.log.events) (seen_at also others))
    (seen_at there first.place.log.events) (seen_at there calls) (seen_at also second.place.log.events) (seen_at also others)

-- the end of two files, as it is reported
abbrev pub EndsBoth : (Result (FolderSync × FolderSync) (PairFault Error Error) → Type 0) → Result (FolderSync × FolderSync) NotBoth → Type 0
EndsBoth P (Ok answers) = P (Ok answers)
EndsBoth P (Err (First (refusals.Stopped stop) left)) = P (Err (faults.First (fault_of stop) (is_some left))) × IsMadeLeft left
EndsBoth P (Err (Second (refusals.Stopped stop))) = P (Err (faults.Second (fault_of stop)))
EndsBoth P result = ⊥

-- one was put, and then the other; or the first was not, and the other was given up
abbrev pub PutsInTurn : {F G : Type 0} → HeldAt → HeldAt → Prepared F → Prepared G → Result (Outcome × Outcome) NotBoth → Log → Log → Type 0
PutsInTurn there also first second (Ok outcomes) old new = (mid : Log) × PutsPrepared there first (Ok outcomes.0) old mid × PutsPrepared also second (Ok outcomes.1) mid new
PutsInTurn there also first second (Err (First refusal left)) old new = (mid : Log) × PutsPrepared there first (Err refusal) old mid × GivesUpPrepared second left mid new
PutsInTurn there also first second (Err (Second refusal)) old new = (mid : Log) × ((outcome : Outcome) × PutsPrepared there first (Ok outcome) old mid) × PutsPrepared also second (Err refusal) mid new

-- two files are put as such, and anything else in turn
abbrev pub PutsTwo : {F G : Type 0} → HeldAt → HeldAt → Prepared F → Prepared G → Result (Outcome × Outcome) NotBoth → Log → Log → Type 0
PutsTwo there also (prepared.File first) (prepared.File second) (Ok (Written answer, Written other)) old new = EndsBoth (λ end. PutsFiles there also first second end old new) (Ok (answer, other))
PutsTwo there also (prepared.File first) (prepared.File second) (Err refusal) old new = EndsBoth (λ end. PutsFiles there also first second end old new) (Err refusal)
PutsTwo there also (prepared.File first) (prepared.File second) (Ok outcomes) old new = ⊥
PutsTwo there also first second result old new = PutsInTurn there also first second result old new

-- a file was put at a path, whatever is there, in the place of one of these rights, or why not
abbrev pub PutsOver : HeldAt → List ℕ → Rights → List ℕ → Result FolderSync Stop → Log → Log → Type 0
PutsOver there path rights bytes result old new = IsErrAnd result (λ stop. IsShut Anything stop old new)
    ⊎ ((calls : List Answered) × (new ≡ Put path calls ∷ OpenFolder Anything true ∷ old) × CallsOf (Some rights) bytes (end_of result) [] calls × IfHonest (ReplacesFile (Some rights) bytes (end_of result)) (seen_at there []) (seen_at there calls))

-- `NAME~` beside a file
abbrev pub backup_name : List ℕ → List ℕ
backup_name path = path ++ 126 ∷ []

-- a copy of a file was put at the name of its backup, or why not
abbrev pub BacksUp : {T : Type 0} → HeldAt → Held → List ℕ → Result T NotReplaced → Log → Log → Type 0
BacksUp there held bytes (Ok done) old new = (answer : FolderSync) × PutsOver there (backup_name (path_buf_bytes held.path)) held.rights bytes (Ok answer) old new
BacksUp there held bytes (Err (refusals.NoBackup name stop)) old new = (path_buf_bytes name ≡ backup_name (path_buf_bytes held.path)) × PutsOver there (backup_name (path_buf_bytes held.path)) held.rights bytes (Err stop) old new
BacksUp there held bytes (Err refusals.HostFull) old new = new ≡ old
BacksUp there held bytes (Err refusal) old new = ⊥

-- where a copy of a file is kept, it is put before the new one is made, and where that fails none is made
abbrev pub MakesOver : {F : Type 0} → HeldAt → HeldAt → Bool → Held → List ℕ → List ℕ → Result (Prepared F) NotReplaced → Log → Log → Type 0
MakesOver there backup false held before after result old new = MakesPrepared there (path_buf_bytes held.path) (places.This held.file) (Some held.rights) held.names after result old new
MakesOver there backup true held before after result old new = IsErrAnd result (λ refusal. BacksUp {T = ⊤} backup held before (Err refusal) old new)
    ⊎ ((mid : Log) × BacksUp {T = ⊤} backup held before (Ok tt) old mid × MakesPrepared there (path_buf_bytes held.path) (places.This held.file) (Some held.rights) held.names after result mid new)

-- where the bytes are the same nothing is done
abbrev pub PreparesHeld : {F : Type 0} → HeldAt → HeldAt → Bool → Held → List ℕ → List ℕ → Result (Prepared F) NotReplaced → Log → Log → Type 0
PreparesHeld there backup keeps_old held before after result old new = ((before ≡ after) × (result ≡ Ok prepared.Unchanged) × (new ≡ old)) ⊎ ((before ≢ after) × MakesOver there backup keeps_old held before after result old new)

-- these bytes are for this stream
abbrev pub IsForStream : {F : Type 0} → OpenStream → List ℕ → Prepared F → Type 0
IsForStream to bytes (prepared.Stream stream) = (stream.to ≡ to) × (stream.bytes.now ≡ bytes)
IsForStream to bytes it = ⊥

-- A file is made beside the one that is there, whose rights it gets, or beside a path that has none. For a stream
-- nothing is done.
abbrev pub PreparesAt : {F : Type 0} → HeldAt → Destination → List ℕ → Result (Prepared F) NotReplaced → Log → Log → Type 0
PreparesAt there (destinations.Existing held) bytes result old new = MakesPrepared there (path_buf_bytes held.path) (places.This held.file) (Some held.rights) held.names bytes result old new
PreparesAt there (destinations.New it) bytes result old new = MakesPrepared there (path_buf_bytes it.path) places.Nothing None 1 bytes result old new
PreparesAt there (destinations.Stream stream) bytes result old new = IsOkAnd result (IsForStream stream bytes) × (new ≡ old)

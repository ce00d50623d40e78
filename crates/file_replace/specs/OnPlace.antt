-- What a call at a path does, by its answer.
use Rattle.std.specs.Prelude.{◌≡◌, ℕ, ◌⊎◌, Bool, true, false, IsTrue, List, [], ◌∷◌, ◌++◌, Option, Some, None, Result, Ok, Err}
use Rattle.file_replace.specs.declared.calls.Call.{Call}
use Rattle.file_replace.specs.declared.calls.Call.TheVariants as calls
use Rattle.file_replace.specs.declared.place.PlainFile.{PlainFile}
use Rattle.file_replace.specs.declared.rights.Owner.{Owner}
use Rattle.file_replace.specs.declared.place.FolderSync.{FolderSync}
use Rattle.file_replace.specs.declared.place.FolderSync.TheVariants.{NotOffered}
use Rattle.file_replace.specs.declared.place.Event.TheVariants.{Made, Changed, Synced, Failed, Renamed, Tried, Asked}
use Rattle.file_replace.specs.Place.{Answered, Folder, History, Seen, IfHonest}

-- the file beside is at the path
abbrev pub moved : Folder → Folder
moved folder = record { path = folder.beside; beside = None }

-- the file beside is this one now, if there was one
abbrev pub Becomes : (PlainFile → PlainFile) → Folder → Folder → Type 0
Becomes change old new = (file : PlainFile) → old.beside ≡ Some file → new.beside ≡ Some (change file)

-- the file beside belongs to these now, if there was one, and has its bytes still
abbrev pub IsGiven : Owner → Folder → Folder → Type 0
IsGiven owner old new = (file : PlainFile) → old.beside ≡ Some file → (given : PlainFile) × (new.beside ≡ Some given) × (given.bytes ≡ file.bytes) × (given.owner ≡ owner)

-- The answer of a call fits a folder that had the old files before it and has the new ones after it. A write, an owner and
-- a mode change the file beside alone, a rename is done or not, and a file that can't be made isn't there.
abbrev pub Fits : Call → Bool → List ℕ → Folder → Folder → Type 0
Fits (calls.Create is_private) true bytes old new = (new.path ≡ old.path) × ((file : PlainFile) × (new.beside ≡ Some file) × (file.bytes ≡ []))
Fits (calls.Create is_private) false bytes old new = new ≡ old
Fits calls.Write ok bytes old new = (new.path ≡ old.path) × (IsTrue ok → Becomes (λ file. record file { bytes = file.bytes ++ bytes }) old new)
Fits (calls.SetOwner owner now) ok bytes old new = (new.path ≡ old.path) × (IsTrue ok → IsGiven now old new)
Fits (calls.SetMode mode) ok bytes old new = (new.path ≡ old.path) × (IsTrue ok → Becomes (λ file. record file { mode = mode }) old new)
Fits calls.Sync ok bytes old new = new ≡ old
Fits calls.Check ok bytes old new = new ≡ old
Fits calls.Rename true bytes old new = new ≡ moved old
Fits calls.Rename false bytes old new = (new ≡ moved old) ⊎ (new ≡ old)
Fits (calls.SyncFolder answer) ok bytes old new = new ≡ old
Fits calls.Remove ok bytes old new = (new.path ≡ old.path) × (IsTrue ok → new.beside ≡ None)

-- a sync of the file beside, if there is one
abbrev pub synced : Option PlainFile → History → History
synced None past = past
synced (Some file) past = Synced file ∷ past

-- what a call adds to what a crash may undo
abbrev pub happened : Call → Bool → Folder → History → History
happened (calls.Create is_private) true old past = Made ∷ past
happened (calls.Create is_private) false old past = past
happened calls.Write ok old past = Changed ∷ past
happened (calls.SetOwner owner now) ok old past = Changed ∷ past
happened (calls.SetMode mode) ok old past = Changed ∷ past
happened calls.Sync true old past = synced old.beside past
happened calls.Sync false old past = Failed ∷ past
happened calls.Check ok old past = past
happened calls.Rename true old past = Renamed ∷ past
happened calls.Rename false old past = Tried ∷ past
happened (calls.SyncFolder answer) true old past = Asked answer ∷ past
happened (calls.SyncFolder answer) false old past = past
happened calls.Remove ok old past = past

-- what the host said of a folder that it was to sync
abbrev pub told : {E : Type 0} → Result FolderSync E → FolderSync
told (Ok answer) = answer
told (Err error) = NotOffered

-- to whom a file belongs that was to be given to these
abbrev pub now_of : {E : Type 0} → Owner → Result Owner E → Owner
now_of owner (Ok now) = now
now_of owner (Err error) = owner

-- a call with its answer
abbrev pub answered : Call → Bool → List ℕ → Answered
answered call ok bytes = (record { call = call; is_done = ok }, bytes)

-- the call is noted, the answer fits, and this happened
abbrev pub Does : Call → Bool → List ℕ → Seen → Seen → Type 0
Does call ok bytes old new = (new.calls ≡ answered call ok bytes ∷ old.calls) × IfHonest (λ old new. Fits call ok bytes old.files new.files × (new.history ≡ happened call ok old.files old.history)) old new

-- That these bytes were saved, by what was done.
use Rattle.std.specs.Prelude.{◌≡◌, ◌⊎◌, ℕ, Bool, true, List, [], ◌∷◌, Option, Some, Ok, ⊤}
use Rattle.file_replace.specs.declared.calls.HeldCall.{HeldCall}
use Rattle.file_replace.specs.declared.calls.HeldCall.TheVariants as held
use Rattle.file_replace.specs.declared.place.FolderSync.{FolderSync}
use Rattle.file_replace.specs.declared.rights.Rights.{Rights}
use Rattle.file_replace.specs.Place.{Answered}
use Rattle.file_replace.specs.Replacing.{CallsOf}
use Rattle.file_acts.specs.declared.acts.Act.TheVariants as act
use Rattle.file_acts.specs.Acts.{Log}

-- A file of these bytes was made beside a path, written, synced and renamed to it, and then the folder was synced, where
-- that is offered: by these calls there. Of an honest host `ReplacesFile` says what the path has then, and after a crash.
abbrev pub IsPut : List ℕ → List Answered → Type 0
IsPut bytes calls = (rights : Option Rights) × (answer : FolderSync) × CallsOf {E = ⊤} rights bytes (Ok answer) [] calls

-- a call did what it was for
abbrev pub IsGood : HeldCall → Type 0
IsGood (held.Asked calls) = ⊤
IsGood (held.OpenFolder wanted is_done) = is_done ≡ true
IsGood (held.Put path calls) = (bytes : List ℕ) × IsPut bytes calls
IsGood (held.Stream path is_done bytes) = is_done ≡ true

abbrev pub AreGood : List HeldCall → Type 0
AreGood [] = ⊤
AreGood (call ∷ past) = IsGood call × AreGood past

-- these bytes were put, or written to what is no regular file
abbrev pub IsPutBy : List ℕ → HeldCall → Type 0
IsPutBy bytes (held.Put path calls) = IsPut bytes calls
IsPutBy bytes (held.Stream path is_done out) = (is_done ≡ true) × (out ≡ bytes)
IsPutBy bytes other = ⊥

-- the same by the last of these calls, and all before it did what they were for
abbrev pub ArePut : List ℕ → List HeldCall → Type 0
ArePut bytes [] = ⊥
ArePut bytes (call ∷ past) = IsPutBy bytes call × AreGood past

-- these bytes were just read of the file that is held
abbrev pub JustRead : List ℕ → Log → Type 0
JustRead bytes (act.ReadHeld file (Some read) ∷ past) = read ≡ bytes
JustRead bytes other = ⊥

-- These bytes were just saved: they were put, with a good end. Where nothing had to be done for that, the file that is
-- held has them.
abbrev pub JustSaved : List ℕ → Log → Type 0
JustSaved bytes (act.Saved [] ∷ past) = JustRead bytes past
JustSaved bytes (act.Saved (call ∷ before) ∷ past) = ArePut bytes (call ∷ before)
JustSaved bytes other = ⊥

abbrev pub SomeSaved : Log → Type 0
SomeSaved new = (bytes : List ℕ) × JustSaved bytes new

-- these bytes were saved, and then it may be that something was printed
abbrev pub SavedAndSaid : List ℕ → Log → Type 0
SavedAndSaid bytes new = JustSaved bytes new ⊎ ((text : List ℕ) × (is_done : Bool) × (past : Log) × (new ≡ act.Printed text is_done ∷ past) × JustSaved bytes past)

-- Whatever was printed, a file was saved just before that.
abbrev pub SeenIsSaved : Log → Type 0
SeenIsSaved [] = ⊤
SeenIsSaved (act.Printed text is_done ∷ past) = SomeSaved past × SeenIsSaved past
SeenIsSaved (other ∷ past) = SeenIsSaved past

-- it goes on being so by what was done
abbrev pub ShowsSaved : Log → Log → Type 0
ShowsSaved old new = SeenIsSaved old → SeenIsSaved new

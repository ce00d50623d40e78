-- What is at a path and beside it, and what a crash may leave at the path.
use Rattle.std.specs.Prelude.{◌≡◌, ℕ, ⊤, ◌⊎◌, Bool, true, false, List, [], ◌∷◌, Option, Some, None}
use Rattle.file_replace.specs.declared.calls.Noted.{Noted}
use Rattle.file_replace.specs.declared.place.PlainFile.{PlainFile}
use Rattle.file_replace.specs.declared.place.FolderSync.TheVariants.{Done, NotOffered}
use Rattle.file_replace.specs.declared.place.Event.{Event}
use Rattle.file_replace.specs.declared.place.Event.TheVariants.{Found, Made, Changed, Synced, Failed, Renamed, Tried, Asked}

-- the file at the path, and the one beside it
pub record Folder : Type 0 where
  pub path : Option PlainFile
  pub beside : Option PlainFile

-- the events since a start, the last one first
abbrev pub History : Type 0
History = List Event

-- a call, whether it was done, and the bytes that were given to it
abbrev pub Answered : Type 0
Answered = Noted × List ℕ

-- a place: the calls there, the newest first; and its files, what happened, and that it does what it answers and nobody
-- else writes there
pub record Seen : Type 1 where
  pub calls : List Answered
  pub files : Folder
  pub history : History
  pub is_honest : Type 0

-- if the place is honest after a call, it was so before, and this is so
abbrev pub IfHonest : (Seen → Seen → Type 0) → Seen → Seen → Type 0
IfHonest Fact old new = new.is_honest → old.is_honest × Fact old new

-- where it is honest, no file is beside the path
abbrev pub IsClear : Seen → Type 0
IsClear place = place.is_honest → place.files.beside ≡ None

-- a sync of the file beside has failed since it was made
abbrev pub has_failed : History → Bool
has_failed [] = false
has_failed (Found file ∷ past) = false
has_failed (Made ∷ past) = false
has_failed (Changed ∷ past) = has_failed past
has_failed (Synced file ∷ past) = has_failed past
has_failed (Failed ∷ past) = true
has_failed (Renamed ∷ past) = has_failed past
has_failed (Tried ∷ past) = has_failed past
has_failed (Asked answer ∷ past) = has_failed past

-- What a crash may leave of the file that was made beside: any file until a sync, and what was synced after it. After a
-- sync that failed no later one counts.
abbrev pub MayBe : History → PlainFile → Type 0
MayBe [] file = ⊤
MayBe (Found start ∷ past) file = ⊤
MayBe (Made ∷ past) file = ⊤
MayBe (Changed ∷ past) file = ⊤
MayBe (Synced synced ∷ past) file = has_failed past ≡ false → file ≡ synced
MayBe (Failed ∷ past) file = ⊤
MayBe (Renamed ∷ past) file = MayBe past file
MayBe (Tried ∷ past) file = MayBe past file
MayBe (Asked answer ∷ past) file = MayBe past file

-- a crash may leave the file that was made beside
abbrev pub IsMade : History → Option PlainFile → Type 0
IsMade history left = (file : PlainFile) × MayBe history file × (left ≡ Some file)

-- what a crash may leave at the path once the folder is synced: the last file that was renamed to it
abbrev pub MaySettle : History → Option PlainFile → Type 0
MaySettle [] left = ⊥
MaySettle (Found start ∷ past) left = left ≡ start
MaySettle (Made ∷ past) left = MaySettle past left
MaySettle (Changed ∷ past) left = MaySettle past left
MaySettle (Synced synced ∷ past) left = MaySettle past left
MaySettle (Failed ∷ past) left = MaySettle past left
MaySettle (Renamed ∷ past) left = IsMade past left
MaySettle (Tried ∷ past) left = MaySettle past left ⊎ IsMade past left
MaySettle (Asked answer ∷ past) left = MaySettle past left

-- What a crash may leave at the path: what it might have left before a rename, or the file that was renamed; and of
-- this a sync of the folder leaves only the last.
abbrev pub MayLeave : History → Option PlainFile → Type 0
MayLeave [] left = ⊥
MayLeave (Found start ∷ past) left = left ≡ start
MayLeave (Made ∷ past) left = MayLeave past left
MayLeave (Changed ∷ past) left = MayLeave past left
MayLeave (Synced synced ∷ past) left = MayLeave past left
MayLeave (Failed ∷ past) left = MayLeave past left
MayLeave (Renamed ∷ past) left = MayLeave past left ⊎ IsMade past left
MayLeave (Tried ∷ past) left = MayLeave past left ⊎ IsMade past left
MayLeave (Asked Done ∷ past) left = MaySettle past left
MayLeave (Asked NotOffered ∷ past) left = MayLeave past left

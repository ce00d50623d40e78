-- What happens where two files are put one after the other.
use Rattle.std.specs.Prelude.{◌≡◌, ℕ, ◌⊎◌, Bool, true, not, List, [], ◌∷◌, Result, Ok, Err, OnOk}
use Rattle.fork_disk.specs.Crash.{AlwaysFinds, Finds}
use Rattle.fork_disk.specs.Disk.{Rose}
use Rattle.file_replace.specs.declared.calls.Call.TheVariants as calls
use Rattle.file_replace.specs.declared.pair.PairFault.{PairFault}
use Rattle.file_replace.specs.declared.pair.PairFault.TheVariants.{First, Second}
use Rattle.file_replace.specs.declared.place.FolderSync.{FolderSync}
use Rattle.file_replace.specs.declared.place.FolderSync.TheVariants.{Done}
use Rattle.file_replace.specs.declared.place.Event.TheVariants.{Asked}
use Rattle.file_replace.specs.Place.{Answered, History, MayLeave, Seen}
use Rattle.file_replace.specs.OnPlace.{answered}
use Rattle.file_replace.specs.Replacing.{CallsToPut, Is, IsOldOr, IsReady}

-- the second file is put only after the first was, and its folder synced; else it is removed
abbrev pub CallsOfBoth : {E F : Type 0} → Result (FolderSync × FolderSync) (PairFault E F) → (first first_now second second_now : List Answered) → Type 0
CallsOfBoth {E} {F} (Ok answers) first first_now second second_now = CallsToPut {E = E} (Ok answers.0) first first_now × CallsToPut {E = F} (Ok answers.1) second second_now
CallsOfBoth (Err (First fault is_left)) first first_now second second_now = CallsToPut (Err fault) first first_now × (second_now ≡ answered calls.Remove (not is_left) [] ∷ second)
CallsOfBoth {E} (Err (Second fault)) first first_now second second_now = ((answer : FolderSync) × CallsToPut {E = E} (Ok answer) first first_now) × CallsToPut (Err fault) second second_now

-- it fails only where a call did, at the place that it names
abbrev pub CausesOf : {E F : Type 0} → Result (FolderSync × FolderSync) (PairFault E F) → (first first_now second second_now : ℕ) → Type 0
CausesOf (Ok answers) first first_now second second_now = (first_now ≡ first) × (second_now ≡ second)
CausesOf (Err (First fault is_left)) first first_now second second_now = Rose first first_now
CausesOf (Err (Second fault)) first first_now second second_now = (first_now ≡ first) × Rose second second_now

-- a file that may be left beside, at which place, is one that may be there
abbrev pub LeftOfBoth : {E F : Type 0} → Result (FolderSync × FolderSync) (PairFault E F) → (first second : Bool) → Type 0
LeftOfBoth (Ok answers) first second = Unit
LeftOfBoth (Err (First fault is_left)) first second = (fault.is_left ≡ true → first ≡ true) × (is_left ≡ true → second ≡ true)
LeftOfBoth (Err (Second fault)) first second = fault.is_left ≡ true → second ≡ true

-- nothing happened at the path, so that a crash leaves what it might have left before
pub record Keeps (old new : Seen) : Type 0 where
  pub path : new.files.path ≡ old.files.path
  pub calm : new.history ≡ old.history

-- The path has the file that was beside, and its folder was to be synced. Where that was done a crash leaves that file,
-- and no other.
pub record IsPut (old new : Seen) : Type 0 where
  pub path : new.files.path ≡ old.files.beside
  pub stable : (answer : FolderSync) × (past : History) × (new.history ≡ Asked answer ∷ past) × (IsReady old → answer ≡ Done → Finds MayLeave (Is old.files.beside) new.history)

-- Nothing happened at the second path, or the first one has its new file. Each path has the old file or the new one,
-- whenever a crash comes.
pub record PutsBoth {E F : Type 0} (result : Result (FolderSync × FolderSync) (PairFault E F)) (first first_now second second_now : Seen) : Type 0 where
  pub none_lost : Keeps second second_now ⊎ IsPut first first_now
  pub both : OnOk result ((first_now.files.path ≡ first.files.beside) × (second_now.files.path ≡ second.files.beside))
  pub at_first : IsReady first → AlwaysFinds MayLeave (IsOldOr first.history (Is first.files.beside)) first.history first_now.history
  pub at_second : IsReady second → AlwaysFinds MayLeave (IsOldOr second.history (Is second.files.beside)) second.history second_now.history

-- where both are honest
abbrev pub IfBothHonest : Type 0 → (first first_now second second_now : Seen) → Type 0
IfBothHonest Fact first first_now second second_now = first_now.is_honest → second_now.is_honest → (first.is_honest × second.is_honest) × Fact

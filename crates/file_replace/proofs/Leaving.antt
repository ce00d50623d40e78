-- A crash after any calls leaves something.
use Rattle.std.proofs.Common.{inl, Bool, true, false, List, [], ◌∷◌, Option, Some, None, refl}
use Rattle.file_replace.specs.declared.calls.Call.{Call}
use Rattle.file_replace.specs.declared.calls.Call.TheVariants as calls
use Rattle.file_replace.specs.declared.place.PlainFile.{PlainFile}
use Rattle.file_replace.specs.declared.place.FolderSync.TheVariants.{Done, NotOffered}
use Rattle.file_replace.specs.declared.place.Event.TheVariants.{Found, Made, Changed, Synced, Failed, Renamed, Tried, Asked}
use Rattle.file_replace.specs.Place.{Answered, Folder, History, IsMade, MayBe, MaySettle, MayLeave}
use Rattle.file_replace.specs.OnPlace.{happened, synced}
use Rattle.file_replace.specs.Calls.{LeavesSomething, history_of}

no_file : PlainFile
no_file = record { bytes = []; owner = record { user = 0; group = 0 }; mode = 0 }

may_be : (history : History) → (file : PlainFile) × MayBe history file
may_be [] = (no_file, tt)
may_be (Found start ∷ past) = (no_file, tt)
may_be (Made ∷ past) = (no_file, tt)
may_be (Changed ∷ past) = (no_file, tt)
may_be (Synced file ∷ past) = (file, λ _. refl)
may_be (Failed ∷ past) = (no_file, tt)
may_be (Renamed ∷ past) = may_be past
may_be (Tried ∷ past) = may_be past
may_be (Asked answer ∷ past) = may_be past

made : (history : History) → (left : Option PlainFile) × IsMade history left
made history = let some = may_be history in (Some some.0, (some.0, some.1, refl))

-- what a crash may leave, with the folder synced and without
abbrev Some_left : History → Type 0
Some_left history = ((left : Option PlainFile) × MaySettle history left) × ((left : Option PlainFile) × MayLeave history left)

after : (call : Call) (ok : Bool) (old : Folder) (past : History) → Some_left past → Some_left (happened call ok old past)
after (calls.Create is_private) true old past some = some
after (calls.Create is_private) false old past some = some
after calls.Write ok old past some = some
after (calls.SetOwner owner now) ok old past some = some
after (calls.SetMode mode) ok old past some = some
after calls.Sync true old past some = of_sync old.beside past some
  where
    of_sync : (beside : Option PlainFile) (past : History) → Some_left past → Some_left (synced beside past)
    of_sync None past some = some
    of_sync (Some file) past some = some
after calls.Sync false old past some = some
after calls.Check ok old past some = some
after calls.Rename true old past some = (made past, (some.1.0, inl some.1.1))
after calls.Rename false old past some = ((some.0.0, inl some.0.1), (some.1.0, inl some.1.1))
after (calls.SyncFolder Done) true old past some = (some.0, some.0)
after (calls.SyncFolder NotOffered) true old past some = some
after (calls.SyncFolder answer) false old past some = some
after calls.Remove ok old past some = some

all : (held : List Answered → Folder) (calls : List Answered) → Some_left (history_of held calls)
all held [] = (((held []).path, refl), ((held []).path, refl))
all held (e ∷ past) = after e.0.call e.0.is_done (held past) (history_of held past) (all held past)

pub leaves_something : LeavesSomething
leaves_something held calls = (all held calls).1

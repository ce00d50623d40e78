-- The calls at a path of the host with their answers, and which answers an honest host gives.
use Rattle.std.specs.Prelude.{◌≡◌, List, [], ◌∷◌, Option, None}
use Rattle.file_replace.specs.declared.place.PlainFile.{PlainFile}
use Rattle.file_replace.specs.declared.place.Event.TheVariants.{Found}
use Rattle.file_replace.specs.Place.{Answered, Folder, History, MayLeave, Seen}
use Rattle.file_replace.specs.OnPlace.{Fits, happened}

-- what a path has and what is beside it, after each of the calls there
abbrev pub HeldAt : Type 0
HeldAt = List Answered → Folder

-- the answers of these calls, the newest first, are those of a folder that had such files after each of them, and
-- nothing beside the path at first
abbrev pub IsHonest : HeldAt → List Answered → Type 0
IsHonest held [] = (held []).beside ≡ None
IsHonest held (e ∷ past) = IsHonest held past × Fits e.0.call e.0.is_done e.1 (held past) (held (e ∷ past))

-- what happened since a start
abbrev pub history_of : HeldAt → List Answered → History
history_of held [] = Found (held []).path ∷ []
history_of held (e ∷ past) = happened e.0.call e.0.is_done (held past) (history_of held past)

-- after any calls a crash may leave something at the path
abbrev pub LeavesSomething : Type 0
LeavesSomething = (held : HeldAt) (calls : List Answered) → (left : Option PlainFile) × MayLeave (history_of held calls) left

-- a path of the host after these calls there
abbrev pub seen_at : HeldAt → List Answered → Seen
seen_at held calls = record { calls = calls; files = held calls; history = history_of held calls; is_honest = IsHonest held calls }

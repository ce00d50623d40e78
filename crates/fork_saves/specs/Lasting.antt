-- What a path of an honest host has once a file was put there, and what a crash leaves.
use Rattle.std.specs.Prelude.{◌≡◌, ℕ, List, [], ◌∷◌, Option, Ok, ⊤}
use Rattle.file_replace.specs.declared.place.FolderSync.{FolderSync}
use Rattle.file_replace.specs.declared.rights.Rights.{Rights}
use Rattle.file_replace.specs.Calls.{HeldAt, IsHonest, seen_at}
use Rattle.file_replace.specs.Place.{Answered}
use Rattle.file_replace.specs.Replacing.{CallsOf, ReplacesFile}

-- Wherever a file was put by such calls with a good end, and the host is honest there, the path has it. Whenever a crash
-- comes, it leaves what was there or this file; and only this one once the folder was synced.
abbrev pub PutFilesLast : Type 0
PutFilesLast = (rights : Option Rights) (bytes : List ℕ) (answer : FolderSync) (calls : List Answered) (there : HeldAt) → CallsOf {E = ⊤} rights bytes (Ok answer) [] calls
    → IsHonest there calls → ReplacesFile {E = ⊤} rights bytes (Ok answer) (seen_at there []) (seen_at there calls)

-- What is made in a folder, by the calls that the host was asked for.
use Rattle.std.specs.Prelude.{◌≡◌, ℕ, ◌==◌, ◌&&◌, ◌||◌, not, Bool, true, false, List, [], ◌∷◌, ◌++◌, codes, bytes_eq, Option, None, Some, Result, Ok, Err}
use Rattle.std.specs.List.{list_any}
use Rattle.new_folder.specs.declared.calls.FolderCall.{FolderCall}
use Rattle.new_folder.specs.declared.calls.FolderCall.TheVariants.{MakeFolder, OpenFolder, MakeFile, Write}
use Rattle.new_folder.specs.declared.calls.FolderNoted.{FolderNoted}

-- a call with its answer; and the path that it was given, or the bytes
abbrev pub Event : Type 0
Event = FolderNoted × List ℕ

abbrev pub event : FolderCall → Bool → List ℕ → Event
event call ok given = (record { call = call; is_done = ok }, given)

-- what can't be in the name of a file: `/`, which is 47, and 0
abbrev pub is_end : ℕ → Bool
is_end byte = byte == 47 || byte == 0

-- a name of something in a folder: neither the folder itself nor the one above
abbrev pub is_single : List ℕ → Bool
is_single name = not (bytes_eq name [] || (bytes_eq name (codes ".") || bytes_eq name (codes ".."))) && not (list_any is_end name)

-- the path of a file that is in a folder or in none
abbrev pub path_below : Option (List ℕ) → List ℕ → List ℕ
path_below None name = name
path_below (Some folder) name = folder ++ 47 ∷ name

-- a folder that wasn't there is made and opened, after these calls; the newest comes first
abbrev pub with_folder : List ℕ → List Event → List Event
with_folder name past = event OpenFolder true name ∷ event MakeFolder true name ∷ past

-- a file that wasn't there is made and gets these bytes
abbrev pub with_file : List ℕ → List ℕ → List Event → List Event
with_file path bytes past = event Write true bytes ∷ event MakeFile true path ∷ past

-- one of these calls failed, after all before it were done, and it was the last
pub record StopsIn (all old new : List Event) : Type 0 where
  pub later : List Event
  pub call : FolderCall
  pub given : List ℕ
  pub between : List Event
  pub wanted : all ≡ later ++ (event call true given ∷ (between ++ old))
  pub made : new ≡ event call false given ∷ (between ++ old)

-- these calls were made, or those up to one that failed
abbrev pub Makes : {T E : Type 0} → Result T E → List Event → List Event → List Event → Type 0
Makes (Ok value) all old new = new ≡ all
Makes (Err error) all old new = StopsIn all old new

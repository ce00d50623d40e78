-- Folders and files with their paths.
use Rattle.std.specs.Prelude.{ℕ, ◌||◌, if◌then◌else◌, Bool, List, filter, is_some, position, Option, None, Some}
use Rattle.hfs_volume.specs.declared.entry.Entry.{Entry}
use Rattle.hfs_volume.specs.declared.name.Name.{Name}
use Rattle.hfs_volume.specs.Entries.{is_folder, is_file}
use Rattle.volume_names.specs.Paths.{has_texts, path_of, with_name}
use Rattle.volume_names.specs.declared.letters.Rule.{Rule}
use Rattle.volume_names.specs.declared.letters.Rule.TheVariants.{Bytes, Letters}

-- the path of a folder's record, or of a file's, where its folder has one
abbrev pub path_of_thing : List Entry → Entry → Option (List Name)
path_of_thing entries entry = if is_folder entry || is_file entry then with_name entry.name (path_of entries entry.parent) else None

-- all things of a volume, in the order of its catalog: the folders and files that have a path
abbrev pub things_of : List Entry → List Entry
things_of entries = filter (λ entry. is_some (path_of_thing entries entry)) entries

-- whether a thing has a path by a rule
abbrev pub has_path : Rule → List Entry → List (List ℕ) → Entry → Bool
has_path rule entries path thing = has_texts rule path (path_of_thing entries thing)

abbrev pub place_or : Option ℕ → Option ℕ → Option ℕ
place_or (Some place) other = Some place
place_or None other = other

-- the first thing with just this path, or the first whose names are the same to the File Manager
abbrev pub place_of : List Entry → List (List ℕ) → List Entry → Option ℕ
place_of entries path things = place_or (position (has_path Bytes entries path) things) (position (has_path Letters entries path) things)

-- Paths of folders.
use Rattle.std.specs.Prelude.{◌≡◌, ℕ, zero, suc, ◌==◌, ◌&&◌, if◌then◌else◌, Bool, false, List, [], ◌∷◌, ◌++◌, find, Option, None, Some}
use Rattle.std.specs.Global.{Vec}
use Rattle.std.specs.Ordering.{nat_cmp}
use Rattle.std.specs.BTreeMap.{BTreeMap, get}
use Rattle.hfs_volume.specs.declared.entry.Entry.{Entry}
use Rattle.hfs_volume.specs.declared.name.Name.{Name}
use Rattle.hfs_volume.specs.Entries.{is_folder, id_of}
use Rattle.volume_names.specs.Letters.{is_same_path}
use Rattle.volume_names.specs.declared.letters.Rule.{Rule}

-- whether a record is of the folder with an id
abbrev pub is_folder_with : ℕ → Entry → Bool
is_folder_with id entry = is_folder entry && (id_of entry == id)

-- the first folder with each id, by its id
pub record HasFolders (folders : BTreeMap ℕ Entry) (entries : List Entry) : Type 0 where
  pub each : (id : ℕ) → get nat_cmp folders id ≡ find (is_folder_with id) entries

-- a path with one more name
abbrev pub with_name : Name → Option (List Name) → Option (List Name)
with_name name None = None
with_name name (Some path) = Some (path ++ name ∷ [])

-- the path of a folder, by that of the one that it is in
abbrev pub path_by : Option Entry → (ℕ → Option (List Name)) → Option (List Name)
path_by None others = None
path_by (Some folder) others = with_name folder.name (others folder.parent)

-- The names of the folders from below the root, whose id is 2, to the one with an id, if there are fewer than so many. Of
-- folders with one id the first counts.
unfoldable pub path_within : ℕ → List Entry → ℕ → Option (List Name)
path_within zero entries id = None
path_within (suc more) entries id = if id == 2 then Some [] else path_by (find (is_folder_with id) entries) (path_within more entries)

-- the path of a folder, of 255 names at most
abbrev pub path_of : List Entry → ℕ → Option (List Name)
path_of entries id = path_within 256 entries id

-- the bytes of a name as they are kept
abbrev pub items_of : Vec ℕ → List ℕ
items_of name = name.items

-- whether there is a path, and its names have these texts by a rule
abbrev pub has_texts : Rule → List (List ℕ) → Option (List Name) → Bool
has_texts rule texts None = false
has_texts rule texts (Some path) = is_same_path rule path texts

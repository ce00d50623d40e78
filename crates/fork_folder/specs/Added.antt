-- Files that the manifest doesn't name.
use Rattle.std.specs.Prelude.{◌≡◌, ◌≢◌, ◌⊎◌, ℕ, ℤ, ◌&&◌, ◌||◌, not, if◌then◌else◌, Bool, true, List, [], ◌∷◌, ◌++◌, bytes_eq, count_by, string_bytes, Option, ⊤}
use Rattle.std.specs.List.{list_any}
use Rattle.std.specs.Ordering.{int_eq}
use Rattle.fork_folder.specs.declared.rows.Entry.{Entry}
use Rattle.fork_folder.specs.declared.rows.PackFault.{PackFault}
use Rattle.fork_folder.specs.declared.rows.PackFault.TheVariants.{HostFull, Taken, Unnamed}
use Rattle.fork_folder.specs.Names.{file_name, folder_name, plain_name}

-- the path of the nth resource of this type and id, from 0 on, with this name: in either folder of the type
abbrev pub is_path : List ℕ → List ℕ → ℤ → ℕ → Option (List ℕ) → Bool
is_path path kind id n name =
    bytes_eq path (plain_name kind ++ 47 ∷ file_name id n name) || bytes_eq path (folder_name kind ++ 47 ∷ file_name id n name)

-- what a path says of a resource, which has no attributes
pub record IsNamedSo (path : List ℕ) (entry : Entry) (n : ℕ) : Type 0 where
  pub path_is : is_path path entry.kind entry.id n entry.name ≡ true
  pub file : string_bytes entry.file ≡ path
  pub attributes : entry.attributes.0 ≡ 0

-- how many entries have this type and id
abbrev pub count_at : List ℕ → ℤ → List Entry → ℕ
count_at kind id entries = count_by (λ entry. bytes_eq entry.kind kind && int_eq entry.id id) entries

-- whether some entry has this type
abbrev pub has_kind : List ℕ → List Entry → Bool
has_kind kind entries = list_any (λ entry. bytes_eq entry.kind kind) entries

-- the entries with one more: as the last of its type, or as the last of all where there is none of it
abbrev pub with_entry : Entry → List Entry → List Entry
with_entry new [] = new ∷ []
with_entry new (entry ∷ entries) =
    if bytes_eq entry.kind new.kind && not (has_kind new.kind entries) then entry ∷ new ∷ entries else entry ∷ with_entry new entries

-- one more entry, which a path names: the next one of its type and id
abbrev pub IsAdded : List ℕ → List Entry → List Entry → Type 0
IsAdded path old new = (entry : Entry) × IsNamedSo path entry (count_at entry.kind entry.id old) × (new ≡ with_entry entry old)

-- the entries of these paths are more of them, added one after the other
abbrev pub AreAdded : List (List ℕ) → List Entry → List Entry → Type 0
AreAdded [] old new = old ≡ new
AreAdded (path ∷ paths) old new = (middle : List Entry) × IsAdded path old middle × AreAdded paths middle new

-- why a path is refused: it isn't taken for that of a resource, or names another than the next one of its type and id;
-- or the host has no memory
abbrev pub IsNotAdded : List ℕ → List Entry → PackFault → Type 0
IsNotAdded path entries (Unnamed refused) = string_bytes refused ≡ path
IsNotAdded path entries (Taken refused) = (string_bytes refused ≡ path)
    × ((entry : Entry) × (n : ℕ) × IsNamedSo path entry n × (n ≢ count_at entry.kind entry.id entries))
IsNotAdded path entries HostFull = ⊤
IsNotAdded path entries other = ⊥

-- one of these paths is refused, after those before it were added
abbrev pub AreNotAdded : List (List ℕ) → List Entry → PackFault → Type 0
AreNotAdded [] old why = ⊥
AreNotAdded (path ∷ paths) old why = IsNotAdded path old why ⊎ ((middle : List Entry) × IsAdded path old middle × AreNotAdded paths middle why)

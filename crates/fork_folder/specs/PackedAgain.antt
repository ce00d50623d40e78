-- What was unpacked is packed again.
use Rattle.std.specs.Prelude.{◌≡◌, ℕ, ◌<◌, ◌^◌, if◌then◌else◌, List, [], ◌∷◌, ◌++◌, length, filter, bytes_eq, option_map, Option, Ok}
use Rattle.std.specs.List.{find, AllByRecursion}
use Rattle.fork_bytes.specs.Rows.{Row}
use Rattle.fork_list.specs.Listing.{is_chosen}
use Rattle.fork_folder.specs.Laws.{IsNamed, path_of}
use Rattle.fork_folder.specs.Unpacked.{Unpacked, file_of, types_of, unpacked}
use Rattle.fork_folder.specs.Packed.{Listed, packed}

-- what the manifest says of a row in this file
abbrev pub entry_of : Row → Unpacked → Listed
entry_of row file = record { kind = row.kind; id = row.id; name = row.name; attributes = row.attributes; file = path_of file }

-- what it says of rows of these kinds, after other rows, in a fork of these types
abbrev pub entries_from : List (List ℕ) → List (List ℕ) → List Row → List Row → List Listed
entries_from types kinds done [] = []
entries_from types kinds done (row ∷ rows) =
    (if is_chosen kinds row.kind then entry_of row (file_of types done row) ∷ [] else []) ++ entries_from types kinds (done ++ row ∷ []) rows

-- what the manifest says of the rows of these types
abbrev pub manifest : List (List ℕ) → List Row → List Listed
manifest kinds rows = entries_from (types_of rows) kinds [] rows

-- the bytes of the first file of this path, if there is one
abbrev pub folder_with : List Unpacked → List ℕ → Option (List ℕ)
folder_with files path = option_map (λ file. file.bytes) (find (λ file. bytes_eq (path_of file) path) files)

-- the files that rows are unpacked to, packed again, are those rows
abbrev pub IsPackedAgain : Type 0
IsPackedAgain = (kinds : List (List ℕ)) (rows : List Row) → AllByRecursion IsNamed rows → length rows < 2 ^ 32
    → packed (folder_with (unpacked kinds rows)) (manifest kinds rows) ≡ Ok (filter (λ row. is_chosen kinds row.kind) rows)

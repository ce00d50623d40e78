-- The files that the resources of a fork are unpacked to.
use Rattle.std.specs.Prelude.{ℕ, ◌&&◌, if◌then◌else◌, Bool, List, [], ◌∷◌, ◌++◌, bytes_eq, filter, map, count_by, string_bytes}
use Rattle.std.specs.Ordering.{int_eq}
use Rattle.fork_bytes.specs.Rows.{Row}
use Rattle.fork_list.specs.Listing.{is_chosen}
use Rattle.fork_folder.specs.declared.files.File.{File}
use Rattle.fork_folder.specs.Names.{file_name, folder_among}

-- a file: the folder that it is in, its name, and its bytes
pub record Unpacked : Type 0 where
  pub folder : List ℕ
  pub name : List ℕ
  pub bytes : List ℕ

-- the same, of what code has
abbrev pub unpacked_file : File → Unpacked
unpacked_file file = record { folder = string_bytes file.folder; name = string_bytes file.name; bytes = file.row.now.datum }

-- the resource of a file
abbrev pub file_row : File → Row
file_row file = file.row.now

-- the rows of these types
abbrev pub chosen : List (List ℕ) → List Row → List Row
chosen kinds rows = filter (λ row. is_chosen kinds row.kind) rows

-- whether two resources have one type and one id
abbrev pub is_same : Row → Row → Bool
is_same row other = bytes_eq other.kind row.kind && int_eq other.id row.id

-- the types of rows
abbrev pub types_of : List Row → List (List ℕ)
types_of rows = map (λ row. row.kind) rows

-- the file of the nth row, from 0 on, of its type and id, in a fork of these types: its bytes are those of the row
abbrev pub nth_file : List (List ℕ) → ℕ → Row → Unpacked
nth_file types n row = record { folder = folder_among types row.kind; name = file_name row.id n row.name; bytes = row.datum }

-- the file of a row after these rows
abbrev pub file_of : List (List ℕ) → List Row → Row → Unpacked
file_of types before row = nth_file types (count_by (is_same row) before) row

-- the files of rows of these kinds, after other rows
abbrev pub files_from : List (List ℕ) → List (List ℕ) → List Row → List Row → List Unpacked
files_from types kinds before [] = []
files_from types kinds before (row ∷ rows) =
    (if is_chosen kinds row.kind then file_of types before row ∷ [] else []) ++ files_from types kinds (before ++ row ∷ []) rows

-- the files of the rows of these kinds
abbrev pub unpacked : List (List ℕ) → List Row → List Unpacked
unpacked kinds rows = files_from (types_of rows) kinds [] rows

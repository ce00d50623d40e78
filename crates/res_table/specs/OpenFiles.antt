-- The open resource files, in the order of opening, and the current one.
use Rattle.std.specs.Prelude.{ℕ, ℤ, ◌+◌, ◌==◌, Bool, false, List, [], ◌∷◌, ◌++◌, map, take, position, find, Option, None, Some, option_map, option_and_then, slice_get, if◌then◌else◌}
use Rattle.std.specs.List.{list_any}
use Rattle.std.specs.Option.{option_or, option_map_or}
use Rattle.res_table.specs.declared.row.Row.{Row}
use Rattle.res_table.specs.declared.chain.ResourceTable.{ResourceTable}
use Rattle.res_table.specs.declared.chain.OpenFile.{OpenFile}
use Rattle.res_table.specs.declared.chain.RowPlace.{RowPlace}
use Rattle.res_table.specs.Names.{is_named}
use Rattle.res_table.specs.Rows.{has_handle, is_resource, forgotten}

-- the open files, the earliest first, and the number of the current one, if one is open
pub record OpenFiles (D : Type 0) : Type 0 where
  pub files : List (OpenFile D)
  pub current : Option ℕ

-- no file is open
abbrev pub no_files : {D : Type 0} → OpenFiles D
no_files = record { files = []; current = None }

-- whether a file has the number
abbrev pub is_numbered : {D : Type 0} → ℕ → OpenFile D → Bool
is_numbered k f = f.number == k

-- whether the file of a number is open
abbrev pub is_open : {D : Type 0} → ℕ → OpenFiles D → Bool
is_open k chain = list_any (is_numbered k) chain.files

-- the table of a file
abbrev pub table_in : {D : Type 0} → OpenFile D → ResourceTable D
table_in f = f.table

-- the table of the file of a number, if it is open
abbrev pub table_of : {D : Type 0} → ℕ → OpenFiles D → Option (ResourceTable D)
table_of k chain = option_map table_in (find (is_numbered k) chain.files)

-- where the first row that passes a test is in a file
abbrev pub place_in : {D : Type 0} → (Row D → Bool) → OpenFile D → Option RowPlace
place_in test f = option_map (λ i. record { file = f.number; index = i }) (position test f.table.rows)

-- where it is in the earliest of some files that has such a row
abbrev pub earliest_place : {D : Type 0} → (Row D → Bool) → List (OpenFile D) → Option RowPlace
earliest_place test [] = None
earliest_place test (f ∷ fs) = option_or (place_in test f) (earliest_place test fs)

-- where it is in the latest of some files that has such a row
abbrev pub latest_place : {D : Type 0} → (Row D → Bool) → List (OpenFile D) → Option RowPlace
latest_place test [] = None
latest_place test (f ∷ fs) = option_or (latest_place test fs) (place_in test f)

-- how many files there are up to the one of a number
abbrev pub count_up_to : {D : Type 0} → List (OpenFile D) → ℕ → ℕ
count_up_to files k = option_map_or (λ at. at + 1) (position (is_numbered k) files) 0

-- how many files are looked through for a resource: those up to the current one
abbrev pub searched : {D : Type 0} → OpenFiles D → ℕ
searched chain = option_map_or (count_up_to chain.files) chain.current 0

-- where the resource of a type and an id is: in the current file, or else in the latest before it
abbrev pub place_of_resource : {D : Type 0} → List ℕ → ℤ → OpenFiles D → Option RowPlace
place_of_resource kind id chain = latest_place (is_resource kind id) (take (searched chain) chain.files)

-- where the row with the handle is, in any open file
abbrev pub place_of_handle : {D : Type 0} → ℕ → OpenFiles D → Option RowPlace
place_of_handle h chain = earliest_place (has_handle h) chain.files

-- a file of which no row has the handle
abbrev pub file_forgotten : {D : Type 0} → ℕ → OpenFile D → OpenFile D
file_forgotten h f = record f { table = record (f.table) { rows = forgotten h f.table.rows } }

-- the chain, in which no row has the handle
abbrev pub handle_forgotten : {D : Type 0} → ℕ → OpenFiles D → OpenFiles D
handle_forgotten h chain = record chain { files = map (file_forgotten h) chain.files }

-- the chain with one more file, which is the current one
abbrev pub file_opened : {D : Type 0} → ℕ → ResourceTable D → OpenFiles D → OpenFiles D
file_opened k table chain = record { files = chain.files ++ record { number = k; table = table } ∷ []; current = Some k }

-- the chain with this current file
abbrev pub file_used : {D : Type 0} → ℕ → OpenFiles D → OpenFiles D
file_used k chain = record chain { current = Some k }

-- the number of the latest of some files
abbrev pub last_number : {D : Type 0} → List (OpenFile D) → Option ℕ
last_number [] = None
last_number (f ∷ fs) = option_or (last_number fs) (Some f.number)

-- the files without the one of a number
abbrev pub without : {D : Type 0} → ℕ → List (OpenFile D) → List (OpenFile D)
without k [] = []
without k (f ∷ fs) = if is_numbered k f then fs else f ∷ without k fs

-- whether the file of a number is the current one
abbrev pub is_current : {D : Type 0} → ℕ → OpenFiles D → Bool
is_current k chain = option_map_or (λ at. at == k) chain.current false

-- the chain without the file of a number, if it is open. Where that was the current one, the latest of the others is
abbrev pub file_closed : {D : Type 0} → ℕ → OpenFiles D → OpenFiles D
file_closed k chain = if is_open k chain then record { files = without k chain.files; current = if is_current k chain then last_number (without k chain.files) else chain.current } else chain

-- the row at a place
abbrev pub row_at : {D : Type 0} → RowPlace → OpenFiles D → Option (Row D)
row_at place chain = option_and_then (λ table. slice_get table.rows place.index) (table_of place.file chain)

-- where the resource of a type and an id is in the file of a number, if it is open
abbrev pub place_in_file : {D : Type 0} → List ℕ → ℤ → OpenFiles D → ℕ → Option RowPlace
place_in_file kind id chain k = option_and_then (place_in (is_resource kind id)) (find (is_numbered k) chain.files)

-- where it is in the current file
abbrev pub place_here : {D : Type 0} → List ℕ → ℤ → OpenFiles D → Option RowPlace
place_here kind id chain = option_and_then (place_in_file kind id chain) chain.current

-- where the first row of a type and a name is: in the current file, or else in the latest before it that has one
abbrev pub place_of_name : {D : Type 0} → List ℕ → List ℕ → OpenFiles D → Option RowPlace
place_of_name kind name chain = latest_place (is_named kind name) (take (searched chain) chain.files)

-- where it is in the file of a number, if it is open
abbrev pub named_in_file : {D : Type 0} → List ℕ → List ℕ → OpenFiles D → ℕ → Option RowPlace
named_in_file kind name chain k = option_and_then (place_in (is_named kind name)) (find (is_numbered k) chain.files)

-- where it is in the current file
abbrev pub name_here : {D : Type 0} → List ℕ → List ℕ → OpenFiles D → Option RowPlace
name_here kind name chain = option_and_then (named_in_file kind name chain) chain.current

-- a file with its rows changed so
abbrev pub with_rows : {D : Type 0} → (List (Row D) → List (Row D)) → OpenFile D → OpenFile D
with_rows change f = record f { table = record (f.table) { rows = change f.table.rows } }

-- the files, with the rows of the one of a number changed so
abbrev pub changed_file : {D : Type 0} → ℕ → (List (Row D) → List (Row D)) → List (OpenFile D) → List (OpenFile D)
changed_file k change [] = []
changed_file k change (f ∷ fs) = if is_numbered k f then with_rows change f ∷ fs else f ∷ changed_file k change fs

-- the chain, with the rows of the file of a number changed so
abbrev pub rows_changed : {D : Type 0} → ℕ → (List (Row D) → List (Row D)) → OpenFiles D → OpenFiles D
rows_changed k change chain = record chain { files = changed_file k change chain.files }

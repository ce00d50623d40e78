-- What all open files have together, where the earliest is first.
use Rattle.std.specs.Prelude.{ℕ, ◌-◌, nat_le, Bool, not, if◌then◌else◌, List, [], ◌∷◌, ◌++◌, map, filter, Option, None, Some, option_map}
use Rattle.std.specs.List.{list_any}
use Rattle.res_table.specs.declared.row.Row.{Row}
use Rattle.res_table.specs.declared.chain.OpenFile.{OpenFile}
use Rattle.res_table.specs.declared.chain.RowPlace.{RowPlace}
use Rattle.res_table.specs.Rows.{is_of_type, count_of_type, index_of_ith, largest_id, unique_id}
use Rattle.res_table.specs.Saved.{kind_of, row_types}

-- the rows of some files, those of the latest first
abbrev pub all_rows : {D : Type 0} → List (OpenFile D) → List (Row D)
all_rows [] = []
all_rows (f ∷ fs) = all_rows fs ++ f.table.rows

-- where the i-th resource of a type is, counted from 1: in a later file, if the later ones have so many, or else in
-- this one, by what is left of the index
abbrev pub ith_place : {D : Type 0} → List ℕ → ℕ → List (OpenFile D) → Option RowPlace
ith_place kind i [] = None
ith_place kind i (f ∷ fs) =
    if nat_le i (count_of_type kind (all_rows fs)) then ith_place kind i fs
    else option_map (λ at. record { file = f.number; index = at }) (index_of_ith kind (i - count_of_type kind (all_rows fs)) f.table.rows)

-- whether some files have a resource of a type
abbrev pub has_type : {D : Type 0} → List ℕ → List (OpenFile D) → Bool
has_type kind files = list_any (is_of_type kind) (all_rows files)

-- the types of rows
abbrev pub types_in : {D : Type 0} → List (Row D) → List (List ℕ)
types_in rows = map kind_of (row_types rows)

-- the types of rows that some files don't have
abbrev pub new_types : {D : Type 0} → List (Row D) → List (OpenFile D) → List (List ℕ)
new_types rows files = filter (λ kind. not (has_type kind files)) (types_in rows)

-- the types of some files: those of the later ones, and then those of this one that no later one has
abbrev pub all_types : {D : Type 0} → List (OpenFile D) → List (List ℕ)
all_types [] = []
all_types (f ∷ fs) = all_types fs ++ new_types f.table.rows fs

-- the least id from 128 on that no resource of a type has in any of some files, if one is left
abbrev pub free_in_all : {D : Type 0} → List ℕ → List (OpenFile D) → Option ℕ
free_in_all kind files = if nat_le (unique_id kind (all_rows files)) largest_id then Some (unique_id kind (all_rows files)) else None

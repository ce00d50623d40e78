-- Rows that are changed in one way or another, where it makes no difference.
use Rattle.std.proofs.Common.{◌≡◌, ℕ, Bool, true, false, cond, List, [], ◌∷◌, Option, Some, set, slice_get, find, option_map, option_and_then, refl, sym, ap, subst, ◌∙◌}
use Rattle.std.specs.Option.{option_map_or}
use Rattle.mac_base.specs.declared.resource.ResAttrs.{ResAttrs}
use Rattle.res_update.specs.Changes.{Files, FileRow, FileTable, row_changed}
use Rattle.res_update.specs.Quiet.{attributes_changed}
use Rattle.res_files.specs.FilesOn.{FilesOn}
use Rattle.res_table.specs.declared.chain.OpenFile.{OpenFile}
use Rattle.res_table.specs.declared.chain.RowPlace.{RowPlace}
use Rattle.res_table.specs.OpenFiles.{changed_file, is_numbered, place_of_handle, row_at, table_in, with_rows}
use Rattle.res_table.specs.Rows.{changed_at, with_attributes}

pub row_same : (at : ℕ) (f g : FileRow → FileRow) (rows : List FileRow) (r : FileRow) → slice_get rows at ≡ Some r → f r ≡ g r → changed_at at f rows ≡ changed_at at g rows
row_same at f g rows r is same =
    let P : Option FileRow → Type 0 = λ o. option_map_or (λ x. set rows at (f x)) o rows ≡ option_map_or (λ x. set rows at (g x)) o rows in
    subst P (sym is) (ap (λ x. set rows at x) same)

files_same : (k at : ℕ) (f g : FileRow → FileRow) (files : List (OpenFile (List ℕ))) (r : FileRow)
    → option_and_then (λ (table : FileTable). slice_get table.rows at) (option_map table_in (find (is_numbered k) files)) ≡ Some r → f r ≡ g r → changed_file k (changed_at at f) files ≡ changed_file k (changed_at at g) files
files_same k at f g [] r is same = refl
files_same k at f g (file ∷ files) r is same = by_case (is_numbered k file) (λ later. files_same k at f g files r later same) is
  where
    by_case : (b : Bool) → (option_and_then (λ (table : FileTable). slice_get table.rows at) (option_map table_in (find (is_numbered k) files)) ≡ Some r → changed_file k (changed_at at f) files ≡ changed_file k (changed_at at g) files)
        → option_and_then (λ (table : FileTable). slice_get table.rows at) (option_map table_in (cond b (Some file) (find (is_numbered k) files))) ≡ Some r
        → cond b (with_rows (changed_at at f) file ∷ files) (file ∷ changed_file k (changed_at at f) files) ≡ cond b (with_rows (changed_at at g) file ∷ files) (file ∷ changed_file k (changed_at at g) files)
    by_case true rest here =
        let other : List FileRow → OpenFile (List ℕ) = λ rows. record file { table = record (file.table) { rows = rows } } in
        ap (λ rows. other rows ∷ files) (row_same at f g file.table.rows r here same)
    by_case false rest later = ap (λ (others : List (OpenFile (List ℕ))). file ∷ others) (rest later)

-- a row is changed so or so, where both make the same of the row that is there
pub changed_same : (p : RowPlace) (f g : FileRow → FileRow) (files : Files) (r : FileRow) → row_at p files ≡ Some r → f r ≡ g r → row_changed p f files ≡ row_changed p g files
changed_same p f g files r is same = ap (λ fs. record files { files = fs }) (files_same p.file p.index f g files.files r is same)

-- the attributes of the row of a handle are set to what its old ones become
pub attributes_set : {S : Type 0} (on after : FilesOn S) (h : ℕ) (p : RowPlace) (r : FileRow) (change : ResAttrs → ResAttrs) (a : ResAttrs) → place_of_handle h on.files ≡ Some p → row_at p on.files ≡ Some r → a ≡ change r.resource.attributes
    → after ≡ record on { files = row_changed p (with_attributes a) on.files } → after ≡ record on { files = attributes_changed change h on.files }
attributes_set on after h p r change a place is same set =
    let changed : FileRow → FileRow = λ row. with_attributes (change row.resource.attributes) row in
    let at_place : attributes_changed change h on.files ≡ row_changed p changed on.files = ap (λ (o : Option RowPlace). option_map_or (λ (q : RowPlace). row_changed q changed on.files) o on.files) place in
    let by_row : row_changed p (with_attributes a) on.files ≡ row_changed p changed on.files = changed_same p (with_attributes a) changed on.files r is (ap (λ (x : ResAttrs). with_attributes x r) same) in
    set ∙ ap (λ (f : Files). record on { files = f }) (by_row ∙ sym at_place)

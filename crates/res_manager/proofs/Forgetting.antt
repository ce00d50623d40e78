-- Handles that the rows forget, one after another.
use Rattle.std.proofs.Common.{◌≡◌, ℕ, zero, suc, true, false, List, [], ◌∷◌, map, Option, Some, None, refl, ap, ◌∙◌}
use Rattle.std.specs.Prelude.{◌==◌, find, slice_get, option_map, option_and_then, if◌then◌else◌}
use Rattle.mac_base.specs.declared.resource.Resource.{Resource}
use Rattle.res_table.specs.declared.chain.OpenFile.{OpenFile}
use Rattle.res_table.specs.declared.chain.RowPlace.{RowPlace}
use Rattle.res_table.specs.OpenFiles.{file_forgotten, handle_forgotten, is_numbered, row_at, table_in}
use Rattle.res_table.specs.Rows.{forgetting, forgotten, has_handle, with_handle}
use Rattle.res_update.specs.Changes.{FileRow, FileTable, Files, handles_forgotten}

-- the resource of a row
abbrev resource_of : FileRow → Resource (List ℕ)
resource_of r = r.resource

same_resource : (h : ℕ) (r : FileRow) → resource_of (forgetting h r) ≡ r.resource
same_resource h r = elim (has_handle h r) as (λ b. resource_of (if b then with_handle None r else r) ≡ r.resource) [ true ↦ refl | false ↦ refl ]

in_rows : (h i : ℕ) (rows : List FileRow) → option_map resource_of (slice_get (forgotten h rows) i) ≡ option_map resource_of (slice_get rows i)
in_rows h i [] = refl
in_rows h zero (r ∷ rows) = ap Some (same_resource h r)
in_rows h (suc i) (r ∷ rows) = in_rows h i rows

-- the resource of the row at an index of a file that was found
abbrev found_resource : ℕ → Option (OpenFile (List ℕ)) → Option (Resource (List ℕ))
found_resource i file = option_map resource_of (option_and_then (λ (table : FileTable). slice_get table.rows i) (option_map table_in file))

in_files : (h k i : ℕ) (files : List (OpenFile (List ℕ))) → found_resource i (find (is_numbered k) (map (file_forgotten h) files)) ≡ found_resource i (find (is_numbered k) files)
in_files h k i [] = refl
in_files h k i (f ∷ files) = elim (f.number == k) as (λ b. found_resource i (if b then Some (file_forgotten h f) else find (is_numbered k) (map (file_forgotten h) files)) ≡ found_resource i (if b then Some f else find (is_numbered k) files)) [
  | true ↦ (let table = f.table in in_rows h i table.rows)
  | false ↦ in_files h k i files
]

resource_kept : (hs : List ℕ) (p : RowPlace) (files : Files) → option_map resource_of (row_at p (handles_forgotten hs files)) ≡ option_map resource_of (row_at p files)
resource_kept [] p files = refl
resource_kept (h ∷ hs) p files = resource_kept hs p (handle_forgotten h files) ∙ in_files h p.file p.index files.files

-- each row keeps its resource
pub row_forgotten : (hs : List ℕ) (p : RowPlace) (files : Files) (r : FileRow) → row_at p files ≡ Some r → (now : FileRow) × (row_at p (handles_forgotten hs files) ≡ Some now) × (now.resource ≡ r.resource)
row_forgotten hs p files r is = by_case (row_at p (handles_forgotten hs files)) (resource_kept hs p files ∙ ap (option_map resource_of) is)
  where
    by_case : (o : Option FileRow) → option_map resource_of o ≡ Some (resource_of r) → (now : FileRow) × (o ≡ Some now) × (now.resource ≡ r.resource)
    by_case None same = absurd (cc same)
    by_case (Some now) same = (now, refl, cc same)

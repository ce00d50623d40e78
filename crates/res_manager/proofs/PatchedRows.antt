-- A row that gets other bytes in its file: by an update that takes them as if they were its handle's, and takes off its
-- mark, and by its old attributes, which are given back.
use Rattle.std.proofs.Common.{◌≡◌, ◌∙◌, ℕ, cond, None, List, [], map, set, slice_get, Option, Some, IsSome, Bool, refl, sym, ap, subst}
use Rattle.std.specs.Prelude.{nat_le, ◌&&◌, length}
use Rattle.std.specs.Option.{option_map_or}
use Rattle.mac_base.specs.declared.resource.ResAttrs.{ResAttrs}
use Rattle.mac_base.specs.declared.resource.Resource.{Resource}
use Rattle.mac_base.specs.HandleTable.{HandleTable, FullHandle, Live, bytes_of, live_bytes, new_table, no_flags}
use Rattle.zone_laws.proofs.Tables.{eqb_same, live_at-with_live}
use Rattle.fork_bytes.specs.declared.table.Table.{Table}
use Rattle.fork_bytes.specs.Fork.{max_fork}
use Rattle.fork_bytes.specs.Written.{written}
use Rattle.res_table.specs.declared.chain.RowPlace.{RowPlace}
use Rattle.res_table.specs.Attributes.{unmarked}
use Rattle.res_table.specs.OpenFiles.{row_at, rows_changed, table_of}
use Rattle.res_table.specs.Rows.{changed_at, contents, with_attributes, with_datum}
use Rattle.res_table.specs.Saved.{saved_row}
use Rattle.res_update.specs.Answered.{AnswersFor, known_files}
use Rattle.res_update.specs.Changes.{FileRow, FileTable, Files, row_changed, saved_table, with_changed_rows}
use Rattle.res_update.specs.Fitting.{rows_fit}
use Rattle.res_update.specs.Updates.{fits_fork, updated_row}
use Rattle.res_update.specs.Selected.{updated}
use Rattle.res_update.specs.declared.selection.Selection.TheVariants.{RowAt}
use Rattle.res_update.proofs.Saving.{unmarked_twice}
use Rattle.res_files.proofs.Mapped.{set-mapped}
use Rattle.res_files.proofs.PlacedRows.{row_changed_there, row_changed_twice, same_changed}
use Rattle.res_manager.specs.Patching.{live_alone}
use Rattle.res_manager.proofs.Known.{blank-there, known-changed}
use Rattle.res_update.proofs.Answering.{none, none_honest}

-- the handle that is live alone has these bytes
pub alone : (h : ℕ) (bytes : List ℕ) → bytes_of (live_alone h bytes) h ≡ bytes
alone h bytes =
    let here : Live = FullHandle no_flags bytes in
    let found : Option Live = Some here in
    ap live_bytes (live_at-with_live h here new_table h ∙ ap (λ (b : Bool). cond b found None) (eqb_same h))

-- bytes as they are
abbrev itself : List ℕ → List ℕ
itself bytes = bytes

-- rows of which one is changed, as they are saved
rows_alike : (at : ℕ) (f g : FileRow → FileRow) (rows : List FileRow) (r : FileRow) → slice_get rows at ≡ Some r → saved_row itself (f r) ≡ saved_row itself (g r)
    → map (saved_row itself) (changed_at at f rows) ≡ map (saved_row itself) (changed_at at g rows)
rows_alike at f g rows r is same =
    let P : Option FileRow → Type 0 = λ o. map (saved_row itself) (option_map_or (λ x. set rows at (f x)) o rows) ≡ map (saved_row itself) (option_map_or (λ x. set rows at (g x)) o rows) in
    subst P (sym is) (sym (set-mapped (saved_row itself) rows at (f r)) ∙ ap (set (map (saved_row itself) rows) at) same ∙ set-mapped (saved_row itself) rows at (g r))

-- tables that are saved alike fit alike
pub fits_alike : (a b : FileTable) → saved_table a ≡ saved_table b → fits_fork a ≡ fits_fork b
fits_alike a b same = ap (λ (saved : Table). rows_fit saved.rows && nat_le (length (written saved)) max_fork) same

module _ (t : HandleTable) (h : ℕ) (bytes : List ℕ) (holds : bytes_of t h ≡ bytes) where
  -- the contents of the row with the handle
  contents_are : (r : FileRow) → r.handle ≡ Some h → contents t r ≡ bytes
  contents_are r is = ap (λ (o : Option ℕ). option_map_or (bytes_of t) o []) is ∙ holds

  -- the row is saved alike, whether or not its mark was taken off
  saved_alike : (r : FileRow) → r.handle ≡ Some h → saved_row itself (updated_row t r) ≡ saved_row itself (with_datum bytes r)
  saved_alike r is =
      ap (λ (a : ResAttrs). let saved : Resource (List ℕ) = record { kind = r.resource.kind; id = r.resource.id; name = r.resource.name; attributes = a; datum = contents t r } in saved) (unmarked_twice r.resource.attributes)
      ∙ ap (λ (b : List ℕ). let saved : Resource (List ℕ) = record { kind = r.resource.kind; id = r.resource.id; name = r.resource.name; attributes = unmarked r.resource.attributes; datum = b } in saved) (contents_are r is)

  -- so is the table
  pub table_alike : (at : ℕ) (table : FileTable) (r : FileRow) → slice_get table.rows at ≡ Some r → r.handle ≡ Some h
      → saved_table (updated t (RowAt at) table) ≡ saved_table (with_changed_rows (changed_at at (with_datum bytes)) table)
  table_alike at table r is handle =
      ap (λ (rows : List (Resource (List ℕ))). let saved : Table = record { rows = rows; extra = table.extra; map_attributes = table.map_attributes } in saved)
      (rows_alike at (updated_row t) (with_datum bytes) table.rows r is (saved_alike r handle))

  -- the row once its attributes are given back
  given_back : (a : ResAttrs) (r : FileRow) → r.handle ≡ Some h → a ≡ r.resource.attributes → with_attributes a (updated_row t r) ≡ with_datum bytes r
  given_back a r handle same = ap (λ (x : ResAttrs). with_attributes x (with_datum (contents t r) r)) same ∙ ap (λ (b : List ℕ). with_datum b r) (contents_are r handle)

  module _ (p : RowPlace) (files : Files) (table : FileTable) (is : table_of p.file files ≡ Some table) (r : FileRow) (there : row_at p files ≡ Some r) (handle : r.handle ≡ Some h) where
    -- the files once the update is made
    abbrev pub updated_files : Files
    updated_files = rows_changed p.file (λ _. (updated t (RowAt p.index) table).rows) files

    by_row : (f : FileRow → FileRow) → rows_changed p.file (λ _. changed_at p.index f table.rows) files ≡ row_changed p f files
    by_row f = same_changed p.file (λ _. changed_at p.index f table.rows) (changed_at p.index f) files
        (λ other same. let one : table ≡ other = cc (sym is ∙ same) in ap (λ (x : FileTable). changed_at p.index f x.rows) one)

    -- the row is there still
    pub there_still : (honest : ℕ → Type 0) (after : Files) → AnswersFor honest updated_files after → IsSome (row_at p after)
    there_still honest after answers =
        let here : row_at p updated_files ≡ Some (updated_row t r) = ap (λ (f : Files). row_at p f) (by_row (updated_row t)) ∙ row_changed_there p (updated_row t) files r there in
        blank-there p after updated_files (answers none (none_honest honest)) (subst IsSome (sym here) refl)

    -- with its attributes it has other bytes alone
    pub attributes_back : (honest : ℕ → Type 0) (a : ResAttrs) (after : Files) → a ≡ r.resource.attributes → AnswersFor honest updated_files after
        → AnswersFor honest (rows_changed p.file (λ _. changed_at p.index (with_datum bytes) table.rows) files) (row_changed p (with_attributes a) after)
    attributes_back honest a after same answers known are =
        sym (known-changed known p (with_attributes a) (with_attributes a) (λ x. refl) after)
        ∙ ap (row_changed p (with_attributes a)) (answers known are)
        ∙ known-changed known p (with_attributes a) (with_attributes a) (λ x. refl) updated_files
        ∙ ap (known_files known) (ap (row_changed p (with_attributes a)) (by_row (updated_row t))
        ∙ row_changed_twice p (updated_row t) (with_attributes a) (with_datum bytes) files r there (given_back a r handle same)
        ∙ sym (by_row (with_datum bytes)))

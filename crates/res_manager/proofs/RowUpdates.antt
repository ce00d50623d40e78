-- The update of one row, and where it is.
use Rattle.std.proofs.Common.{◌≡◌, ℕ, Bool, true, false, cond, ◌||◌, List, [], ◌∷◌, find, Option, Some, None, slice_get, option_map, option_and_then, refl}
use Rattle.std.specs.Prelude.{IsTrue, IsSomeAnd}
use Rattle.std.specs.List.{list_any}
use Rattle.res_update.specs.Changes.{Files, FileRow, FileTable}
use Rattle.res_table.specs.declared.chain.OpenFile.{OpenFile}
use Rattle.res_table.specs.declared.chain.RowPlace.{RowPlace}
use Rattle.res_table.specs.OpenFiles.{is_numbered, is_open, row_at, table_in, table_of}

-- a file that has a table is open
pub found_open : (k : ℕ) (files : List (OpenFile (List ℕ))) (table : FileTable) → option_map table_in (find (is_numbered k) files) ≡ Some table → list_any (is_numbered k) files ≡ true
found_open k [] table is = absurd (cc is)
found_open k (f ∷ files) table is = by_case (is_numbered k f) (found_open k files table) is
  where
    by_case : (b : Bool) → (option_map table_in (find (is_numbered k) files) ≡ Some table → list_any (is_numbered k) files ≡ true) → option_map table_in (cond b (Some f) (find (is_numbered k) files)) ≡ Some table → (b || list_any (is_numbered k) files) ≡ true
    by_case true rest here = refl
    by_case false rest later = rest later

-- so is that of a row
pub row_open : (p : RowPlace) (files : Files) (P : FileRow → Type 0) → IsSomeAnd (row_at p files) P → IsTrue (is_open p.file files)
row_open p files P there = by_case (table_of p.file files) refl there
  where
    by_case : (o : Option FileTable) → table_of p.file files ≡ o → IsSomeAnd (option_and_then (λ (table : FileTable). slice_get table.rows p.index) o) P → is_open p.file files ≡ true
    by_case (Some table) is h = found_open p.file files.files table is
    by_case None is h = absurd h

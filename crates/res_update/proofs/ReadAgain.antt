-- What an update writes is read again: the new fork stands for the table that is saved.
use Rattle.std.proofs.Common.{◌≡◌, sym, ◌∙◌, subst, ℕ, ◌+◌, ◌≤◌, List, [], ◌∷◌, length, AllPairs, ◌≢◌}
use Rattle.std.specs.List.{AllByRecursion}
use Rattle.mac_base.specs.HandleTable.{HandleTable}
use Rattle.fork_bytes.specs.declared.layout.TypeCount.{TypeCount}
use Rattle.fork_bytes.specs.declared.table.Table.{Table}
use Rattle.fork_bytes.specs.Fork.{max_fork, max_rows, StandsFor}
use Rattle.fork_bytes.specs.Laws.{IsRow, IsGrouped, IsTable, IsReadAgain}
use Rattle.fork_bytes.specs.Written.{written, NamesFit, Fits}
use Rattle.fork_bytes.specs.declared.place.Place.{Place}
use Rattle.res_table.specs.declared.row.Row.{Row}
use Rattle.res_table.specs.declared.chain.ResourceTable.{ResourceTable}
use Rattle.res_update.specs.Changes.{saved_table}
use Rattle.res_update.specs.declared.selection.Selection.{Selection}
use Rattle.res_update.specs.Drafts.{draft_bytes, draft_table, rows_with}
use Rattle.res_update.specs.Placed.{table_on}
use Rattle.res_update.specs.Selected.{updated}
use Rattle.res_update.proofs.Saving.{final_bytes, final_table, final_is}
use Rattle.res_update.proofs.Shaping.{are_alike, same_types, same_count, same_offset, same_length}

-- rows with other bytes are rows
each_row : (f g : ℕ → Row Place → List ℕ) (at : ℕ) (rows : List (Row Place)) → AllByRecursion IsRow (rows_with f at rows) → AllByRecursion IsRow (rows_with g at rows)
each_row f g at [] each = each
each_row f g at (r ∷ rows) each = (record { kind = each.0.kind; id = each.0.id; name = each.0.name; attributes = each.0.attributes }, each_row f g (at + 1) rows each.1)

-- and their names fit
names_too : (f g : ℕ → Row Place → List ℕ) (at next : ℕ) (rows : List (Row Place)) → NamesFit next (rows_with f at rows) → NamesFit next (rows_with g at rows)
names_too f g at next [] fit = fit
names_too f g at next (r ∷ rows) fit = (fit.0, names_too f g (at + 1) _ rows fit.1)

module _ (t : HandleTable) (s : Selection) (table : ResourceTable Place) (disk : List ℕ) where
  final_fits : Fits (draft_table t s table) → Fits (final_table disk t s table)
  final_fits fits =
      let f = draft_bytes t s in let g = final_bytes disk t s in record {
        few_rows = subst (λ (n : ℕ). n ≤ max_rows) (same_count f 0 table.rows ∙ sym (same_count g 0 table.rows)) fits.few_rows;
        lists = subst (λ (n : ℕ). n ≤ 65535) (same_offset f g 0 table.rows) fits.lists;
        names = names_too f g 0 0 table.rows fits.names;
      }

  final_whole : IsTable (draft_table t s table) → IsTable (final_table disk t s table)
  final_whole whole =
      let f = draft_bytes t s in let g = final_bytes disk t s in record {
        rows = each_row f g 0 table.rows whole.rows;
        grouped = subst (λ (types : List TypeCount). AllPairs (λ (a b : TypeCount). a.kind ≢ b.kind) types) (same_types f g 0 table.rows) whole.grouped;
        extra = whole.extra;
        map_attributes = whole.map_attributes;
      }

  final_small : length (written (draft_table t s table)) ≤ max_fork → length (written (final_table disk t s table)) ≤ max_fork
  final_small small =
      subst (λ (n : ℕ). n ≤ max_fork) (same_length (draft_bytes t s) (final_bytes disk t s) table (are_alike disk t s table.rows 0)) small

  final_grouped : IsGrouped (final_table disk t s table).rows → IsGrouped (draft_table t s table).rows
  final_grouped grouped =
      subst (λ (types : List TypeCount). AllPairs (λ (a b : TypeCount). a.kind ≢ b.kind) types) (sym (same_types (draft_bytes t s) (final_bytes disk t s) 0 table.rows)) grouped

  -- the new fork stands for the table
  pub stands_again : IsReadAgain → (IsGrouped (draft_table t s table).rows → IsTable (draft_table t s table)) → Fits (draft_table t s table) → length (written (draft_table t s table)) ≤ max_fork
      → (fork : List ℕ) → fork ≡ written (saved_table (updated t s (table_on disk table))) → IsGrouped (saved_table (updated t s (table_on disk table))).rows
      → StandsFor fork (saved_table (updated t s (table_on disk table)))
  stands_again read_again whole fits small fork is grouped =
      let same = final_is disk t s table in
      let P : Table → Type 0 = λ x. IsGrouped x.rows in
      let Q : Table → Type 0 = λ x. StandsFor (written x) x in
      let new = saved_table (updated t s (table_on disk table)) in
      subst (λ (bytes : List ℕ). StandsFor bytes new) (sym is)
      (subst Q (sym same) (read_again (final_table disk t s table) (final_whole (whole (final_grouped (subst P same grouped)))) (final_fits fits) (final_small small)))

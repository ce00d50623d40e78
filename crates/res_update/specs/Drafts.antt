-- The draft of an update: the table that it writes, with zeros for the bytes that the new fork keeps of the old one.
use Rattle.std.specs.Prelude.{◌≡◌, ℕ, ◌+◌, ◌≤◌, ◌==◌, Bool, ◌&&◌, nat_le, List, [], ◌∷◌, length, replicate, if◌then◌else◌}
use Rattle.mac_base.specs.HandleTable.{HandleTable}
use Rattle.fork_bytes.specs.declared.table.Table.{Table}
use Rattle.fork_bytes.specs.Fork.{max_fork}
use Rattle.fork_bytes.specs.Rows as fork
use Rattle.fork_bytes.specs.Written.{written}
use Rattle.fork_disk.specs.declared.update.Kept.{Kept}
use Rattle.fork_bytes.specs.declared.place.Place.{Place}
use Rattle.res_table.specs.declared.row.Row.{Row}
use Rattle.res_table.specs.declared.chain.ResourceTable.{ResourceTable}
use Rattle.res_table.specs.Rows.{is_changed, contents}
use Rattle.res_table.specs.Saved.{saved_row}
use Rattle.res_update.specs.Fitting.{rows_fit}
use Rattle.res_update.specs.declared.draft.Part.{Part}
use Rattle.res_update.specs.declared.draft.Part.TheVariants.{Held, Zeros}
use Rattle.res_update.specs.declared.selection.Selection.{Selection}
use Rattle.res_update.specs.declared.selection.Selection.TheVariants.{AllChanged, RowAt}

-- whether the update takes the bytes of the row at an index from its handle
abbrev pub is_selected : {D : Type 0} → Selection → ℕ → Row D → Bool
is_selected AllChanged at r = is_changed r
is_selected (RowAt index) at r = at == index

-- the bytes that come from a handle, or zeros
abbrev pub part_bytes : Part → List ℕ
part_bytes (Held bytes) = bytes.now
part_bytes (Zeros count) = replicate count 0

-- the bytes of a row in the draft, where it is selected and where it isn't
abbrev pub row_bytes : HandleTable → Bool → Row Place → List ℕ
row_bytes t selected r = if selected then contents t r else replicate r.resource.datum.length 0

-- the bytes of the row at an index
abbrev pub draft_bytes : HandleTable → Selection → ℕ → Row Place → List ℕ
draft_bytes t selection at r = row_bytes t (is_selected selection at r) r

-- rows as they are saved, where this gives the bytes of a row by its index, and the first row has this one
abbrev pub rows_with : (ℕ → Row Place → List ℕ) → ℕ → List (Row Place) → List fork.Row
rows_with text at [] = []
rows_with text at (r ∷ rows) = saved_row (λ _. text at r) r ∷ rows_with text (at + 1) rows

-- the table of the draft
abbrev pub draft_table : HandleTable → Selection → ResourceTable Place → Table
draft_table t selection table = record { rows = rows_with (draft_bytes t selection) 0 table.rows; extra = table.extra; map_attributes = table.map_attributes }

-- whether a fork can hold a table
abbrev pub fits_as_fork : Table → Bool
fits_as_fork table = rows_fit table.rows && nat_le (length (written table)) max_fork

-- a row's type has four bytes
abbrev pub HasKind : Row Place → Type 0
HasKind r = length r.resource.kind ≡ 4

-- where the bytes of rows are in a fork, each after four bytes of length, where the data of the first are at this
-- offset
abbrev pub new_places : ℕ → List fork.Row → List Place
new_places at [] = []
new_places at (row ∷ rows) = record { offset = at + 4; length = length row.datum } ∷ new_places (at + 4 + length row.datum) rows

-- what a new fork keeps of the old one: the bytes of the rows that aren't selected, from their old places to the new
-- ones
abbrev pub kept_ranges : Selection → ℕ → List (Row Place) → List Place → List Kept
kept_ranges selection at [] places = []
kept_ranges selection at (r ∷ rows) [] = []
kept_ranges selection at (r ∷ rows) (place ∷ places) =
    let others = kept_ranges selection (at + 1) rows places in
    if is_selected selection at r then others
    else record { from = r.resource.datum.offset; to = place.offset; length = r.resource.datum.length } ∷ others

-- the draft of an update: its bytes, the places of its rows, and what it keeps of the old fork
pub record IsDraft (t : HandleTable) (selection : Selection) (table : ResourceTable Place) (draft : List ℕ) (places : List Place) (kept : List Kept) : Type 0 where
  pub extra : length table.extra ≡ 240
  pub bytes_are : draft ≡ written (draft_table t selection table)
  pub small : length draft ≤ max_fork
  pub places_are : places ≡ new_places 256 (draft_table t selection table).rows
  pub kept_are : kept ≡ kept_ranges selection 0 table.rows places

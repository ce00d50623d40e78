-- The rows of a file that was written anew.
use Rattle.std.specs.Prelude.{ℕ, ◌+◌, Bool, List, [], ◌∷◌, if◌then◌else◌}
use Rattle.fork_bytes.specs.declared.place.Place.{Place}
use Rattle.res_table.specs.declared.row.Row.{Row}
use Rattle.res_table.specs.Attributes.{unmarked}
use Rattle.res_table.specs.Rows.{with_attributes, with_datum}
use Rattle.res_update.specs.declared.selection.Selection.{Selection}
use Rattle.res_update.specs.Drafts.{is_selected}

-- a row at its new place: where it was selected, it is no longer changed
abbrev pub row_placed : Bool → Place → Row Place → Row Place
row_placed selected place r = with_datum place (if selected then with_attributes (unmarked r.resource.attributes) r else r)

-- rows at their new places, where the first row has this index
abbrev pub rows_placed : Selection → ℕ → List (Row Place) → List Place → List (Row Place)
rows_placed selection at [] places = []
rows_placed selection at (r ∷ rows) [] = r ∷ rows
rows_placed selection at (r ∷ rows) (place ∷ places) = row_placed (is_selected selection at r) place r ∷ rows_placed selection (at + 1) rows places

-- How many bytes the names of rows have.
use Rattle.std.proofs.Common.{◌≡◌, refl, sym, ap, ◌∙◌, ℕ, ◌+◌, List, [], ◌∷◌, length}
use Rattle.std.proofs.lemmas.List.Sums.{sum_by-cons}
use Rattle.fork_bytes.specs.Written.{names_text}
use Rattle.fork_bytes.proofs.Steps.{length-names}
use Rattle.fork_bytes.specs.declared.place.Place.{Place}
use Rattle.res_table.specs.declared.row.Row.{Row}
use Rattle.res_table.specs.Rows.{name_size, names_size}
use Rattle.res_table.specs.Saved.{saved_row}
use Rattle.res_update.specs.Drafts.{rows_with}

-- the names have as many bytes as the rows count
pub names_counted : (f : ℕ → Row Place → List ℕ) (at : ℕ) (rows : List (Row Place)) → names_size rows ≡ length (names_text (rows_with f at rows))
names_counted f at [] = refl
names_counted f at (r ∷ rows) =
    sum_by-cons name_size r rows ∙ ap (λ (n : ℕ). name_size r + n) (names_counted f (at + 1) rows)
    ∙ sym (length-names (saved_row (λ (_ : Place). f at r) r) (rows_with f (at + 1) rows))

-- Rows at an index: whether one is lent, and what is made of those from it on.
use Rattle.std.proofs.Common.{◌≡◌, refl, sym, ap, ◌∙◌, ℕ, ◌+◌, List, [], ◌∷◌, ◌++◌, get_or, drop, slice_get, Some, Bool, true, false, ◌&&◌}
use Rattle.std.specs.Prelude.{IsFalse}
use Rattle.std.specs.List.{list_any}
use Rattle.std.specs.Option.{option_map_or}
use Rattle.std.proofs.lemmas.Bool.{eqb-true}
use Rattle.std.proofs.lemmas.List.{drop_more, append_assoc}
use Rattle.std.proofs.lemmas.List.Folds.{list_any_at}
use Rattle.std.proofs.lemmas.Option.{slice_get_within, get_or_from_slice_get}
use Rattle.mac_base.specs.HandleTable.{HandleTable}
use Rattle.fork_bytes.specs.Rows as forks
use Rattle.fork_bytes.specs.declared.place.Place.{Place}
use Rattle.res_table.specs.declared.row.Row.{Row}
use Rattle.res_table.specs.Rows.{is_changed}
use Rattle.res_table.specs.Saved.{saved_row}
use Rattle.res_update.specs.Tests.{is_lent_row}
use Rattle.res_update.specs.declared.selection.Selection.{Selection}
use Rattle.res_update.specs.declared.selection.Selection.TheVariants.{AllChanged, RowAt}
use Rattle.res_update.specs.Drafts.{is_selected, rows_with}
use Rattle.res_update.specs.Selected.{reads_lent}

-- the handle of a selected row isn't lent
pub unlent_at : {D : Type 0} (t : HandleTable) (s : Selection) (rows : List (Row D)) (i : ℕ) (r : Row D) → slice_get rows i ≡ Some r
    → IsFalse (reads_lent t s rows) → is_selected s i r ≡ true → IsFalse (is_lent_row t r)
unlent_at {D} t AllChanged rows i r is unlent selected = by (is_lent_row t r) refl
  where
    test : Row D → Bool
    test = λ (x : Row D). is_changed x && is_lent_row t x

    by : (b : Bool) → is_lent_row t r ≡ b → is_lent_row t r ≡ false
    by false told = told
    by true told =
        let here : test (get_or rows i r) ≡ true = ap test (get_or_from_slice_get rows i r r is) ∙ ap (λ (b : Bool). b && is_lent_row t r) selected ∙ told in
        let some : list_any test rows ≡ true = list_any_at test rows i r (slice_get_within rows i r is) here in
        absurd (cc (some, unlent))
unlent_at {D} t (RowAt k) rows i r is unlent selected =
    let at : i ≡ k = eqb-true i k selected in
    sym (ap (λ o. option_map_or (is_lent_row t) o false) is) ∙ ap (λ (n : ℕ). option_map_or (is_lent_row t) (slice_get rows n) false) at ∙ unlent

-- an element, and what follows it
pub drop_here : {X : Type 0} (xs : List X) (i : ℕ) (x : X) → slice_get xs i ≡ Some x → drop i xs ≡ x ∷ drop (i + 1) xs
drop_here xs i x is =
    drop_more xs i x (slice_get_within xs i x is) ∙ ap (λ (y : _). y ∷ drop (i + 1) xs) (get_or_from_slice_get xs i x x is)

-- one more row is made
pub made_step : (text : ℕ → Row Place → List ℕ) (rows : List (Row Place)) (i : ℕ) (r : Row Place) (front whole : List forks.Row) → slice_get rows i ≡ Some r
    → front ++ rows_with text i (drop i rows) ≡ whole → (front ++ (saved_row (λ (_ : Place). text i r) r ∷ [])) ++ rows_with text (i + 1) (drop (i + 1) rows) ≡ whole
made_step text rows i r front whole is before =
    append_assoc front (saved_row (λ (_ : Place). text i r) r ∷ []) (rows_with text (i + 1) (drop (i + 1) rows))
    ∙ sym (ap (λ (rest : List (Row Place)). front ++ rows_with text i rest) (drop_here rows i r is)) ∙ before

-- Rows at their new places are seen as the update leaves them.
use Rattle.std.proofs.Common.{◌≡◌, refl, sym, ap, ◌∙◌, arith, ℕ, zero, suc, ◌+◌, ◌<◌, List, [], ◌∷◌, map, set, drop, slice_get, Bool, true, false, Option, None, Some}
use Rattle.std.specs.Prelude.{if◌then◌else◌}
use Rattle.std.specs.Option.{option_map_or}
use Rattle.std.proofs.lemmas.Bool.{ne_eqb, eq-eqb}
use Rattle.mac_base.specs.HandleTable.{HandleTable}
use Rattle.fork_bytes.specs.declared.place.Place.{Place}
use Rattle.res_table.specs.declared.row.Row.{Row}
use Rattle.res_table.specs.Rows.{is_changed, changed_at}
use Rattle.res_update.specs.Changes.{FileRow}
use Rattle.res_update.specs.Updates.{updated_row, updated_if_changed}
use Rattle.res_update.specs.declared.selection.Selection.TheVariants.{AllChanged, RowAt}
use Rattle.res_update.specs.Placed.{bytes_on, row_on, rows_on}
use Rattle.res_files.specs.Updating.{row_placed, rows_placed}

abbrev first : List (List ℕ) → List ℕ
first [] = []
first (x ∷ xs) = x

abbrev bytes_of_row : FileRow → List ℕ
bytes_of_row r = r.resource.datum

module _ (t : HandleTable) (old new : List ℕ) where
  -- one row
  row_seen : (b : Bool) (place : Place) (r : Row Place) → bytes_on new place ≡ bytes_of_row (if b then updated_row t (row_on old r) else row_on old r)
      → row_on new (row_placed b place r) ≡ (if b then updated_row t (row_on old r) else row_on old r)
  row_seen true place r is = ap (λ (bytes : List ℕ). let row : FileRow = record (updated_row t (row_on old r)) { resource = record ((updated_row t (row_on old r)).resource) { datum = bytes } } in row) is
  row_seen false place r is = ap (λ (bytes : List ℕ). let row : FileRow = record (row_on old r) { resource = record ((row_on old r).resource) { datum = bytes } } in row) is

  -- all that are changed
  pub all_placed : (at : ℕ) (rows : List (Row Place)) (places : List Place) → map (bytes_on new) places ≡ map bytes_of_row (map (updated_if_changed t) (rows_on old rows))
      → rows_on new (rows_placed AllChanged at rows places) ≡ map (updated_if_changed t) (rows_on old rows)
  all_placed at [] places is = refl
  all_placed at (r ∷ rows) [] is = absurd (cc is)
  all_placed at (r ∷ rows) (place ∷ places) is =
      ap (λ (row : FileRow). row ∷ rows_on new (rows_placed AllChanged (at + 1) rows places)) (row_seen (is_changed r) place r (ap first is))
      ∙ ap (λ (rs : List FileRow). updated_if_changed t (row_on old r) ∷ rs) (all_placed (at + 1) rows places (ap (drop 1) is))

  -- none after the index
  none_placed : (index at : ℕ) (rows : List (Row Place)) (places : List Place) → index < at → map (bytes_on new) places ≡ map bytes_of_row (rows_on old rows)
      → rows_on new (rows_placed (RowAt index) at rows places) ≡ rows_on old rows
  none_placed index at [] places after is = refl
  none_placed index at (r ∷ rows) [] after is = absurd (cc is)
  none_placed index at (r ∷ rows) (place ∷ places) after is =
      ap (λ b. row_on new (row_placed b place r) ∷ rows_on new (rows_placed (RowAt index) (at + 1) rows places)) (ne_eqb at index (λ same. omega (arith, same, after)))
      ∙ ap (λ (row : FileRow). row ∷ rows_on new (rows_placed (RowAt index) (at + 1) rows places)) (row_seen false place r (ap first is))
      ∙ ap (λ (rs : List FileRow). row_on old r ∷ rs) (none_placed index (at + 1) rows places (omega (arith, after)) (ap (drop 1) is))

  changed_after : (n : ℕ) (change : FileRow → FileRow) (r : FileRow) (rows : List FileRow) → changed_at (suc n) change (r ∷ rows) ≡ r ∷ changed_at n change rows
  changed_after n change r rows = by (slice_get rows n)
    where
      by : (found : Option FileRow) → option_map_or (λ x. r ∷ set rows n (change x)) found (r ∷ rows) ≡ r ∷ option_map_or (λ x. set rows n (change x)) found rows
      by None = refl
      by (Some x) = refl

  -- the one at an index
  pub one_placed : (n at : ℕ) (rows : List (Row Place)) (places : List Place) → map (bytes_on new) places ≡ map bytes_of_row (changed_at n (updated_row t) (rows_on old rows))
      → rows_on new (rows_placed (RowAt (at + n)) at rows places) ≡ changed_at n (updated_row t) (rows_on old rows)
  one_placed zero at [] places is = refl
  one_placed (suc n) at [] places is = refl
  one_placed zero at (r ∷ rows) [] is = absurd (cc is)
  one_placed (suc n) at (r ∷ rows) [] is = absurd (cc (is ∙ ap (map bytes_of_row) (changed_after n (updated_row t) (row_on old r) (rows_on old rows))))
  one_placed zero at (r ∷ rows) (place ∷ places) is =
      ap (λ b. row_on new (row_placed b place r) ∷ rows_on new (rows_placed (RowAt (at + zero)) (at + 1) rows places)) (eq-eqb at (at + zero) (omega arith))
      ∙ ap (λ (row : FileRow). row ∷ rows_on new (rows_placed (RowAt (at + zero)) (at + 1) rows places)) (row_seen true place r (ap first is))
      ∙ ap (λ (rs : List FileRow). updated_row t (row_on old r) ∷ rs) (none_placed (at + zero) (at + 1) rows places (omega arith) (ap (drop 1) is))
  one_placed (suc n) at (r ∷ rows) (place ∷ places) is =
      let split = is ∙ ap (map bytes_of_row) (changed_after n (updated_row t) (row_on old r) (rows_on old rows)) in
      let index : at + suc n ≡ (at + 1) + n = omega arith in
      ap (λ b. row_on new (row_placed b place r) ∷ rows_on new (rows_placed (RowAt (at + suc n)) (at + 1) rows places)) (ne_eqb at (at + suc n) (λ same. omega (arith, same)))
      ∙ ap (λ (row : FileRow). row ∷ rows_on new (rows_placed (RowAt (at + suc n)) (at + 1) rows places)) (row_seen false place r (ap first split))
      ∙ ap (λ (i : ℕ). row_on old r ∷ rows_on new (rows_placed (RowAt i) (at + 1) rows places)) index
      ∙ ap (λ (rs : List FileRow). row_on old r ∷ rs) (one_placed n (at + 1) rows places (ap (drop 1) split))
      ∙ sym (changed_after n (updated_row t) (row_on old r) (rows_on old rows))

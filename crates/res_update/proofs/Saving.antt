-- What an update saves: each row with the bytes that it has then.
use Rattle.std.proofs.Common.{◌≡◌, refl, sym, ap, ◌∙◌, arith, ℕ, zero, suc, ◌+◌, ◌<◌, List, [], ◌∷◌, map, set, slice_get, Option, Some, None, Bool, true, false, if◌then◌else◌}
use Rattle.std.specs.Prelude.{◌==◌, bit_and}
use Rattle.std.specs.Int.Bits.{and_self}
use Rattle.std.specs.Option.{option_map_or}
use Rattle.std.proofs.lemmas.Bool.{eq-eqb, ne_eqb}
use Rattle.std.proofs.lemmas.Nat.{and_assoc}
use Rattle.mac_base.specs.HandleTable.{HandleTable}
use Rattle.fork_bytes.specs.Rows as forks
use Rattle.fork_bytes.specs.declared.table.Table.{Table}
use Rattle.fork_bytes.specs.declared.place.Place.{Place}
use Rattle.mac_base.specs.declared.resource.ResAttrs.{ResAttrs}
use Rattle.res_table.specs.declared.row.Row.{Row}
use Rattle.res_table.specs.declared.chain.ResourceTable.{ResourceTable}
use Rattle.res_table.specs.Rows.{is_changed, contents, changed_at}
use Rattle.res_table.specs.Attributes.{unmarked}
use Rattle.res_table.specs.Saved.{saved_row, saved_rows}
use Rattle.res_update.specs.Changes.{FileRow, saved_table}
use Rattle.res_update.specs.Updates.{updated_row, updated_if_changed}
use Rattle.res_update.specs.declared.selection.Selection.{Selection}
use Rattle.res_update.specs.declared.selection.Selection.TheVariants.{AllChanged, RowAt}
use Rattle.res_update.specs.Drafts.{is_selected, rows_with}
use Rattle.res_update.specs.Placed.{row_on, rows_on, bytes_on, table_on}
use Rattle.res_update.specs.Selected.{updated}

-- the bytes of a row once it is updated, where it is selected and where it isn't
abbrev pub new_bytes : List ℕ → HandleTable → Bool → Row Place → List ℕ
new_bytes fork t selected r = if selected then contents t r else bytes_on fork r.resource.datum

-- the bytes of the row at an index
abbrev pub final_bytes : List ℕ → HandleTable → Selection → ℕ → Row Place → List ℕ
final_bytes fork t s at r = new_bytes fork t (is_selected s at r) r

-- bytes as they are
abbrev pub itself : List ℕ → List ℕ
itself bytes = bytes

-- resChanged is taken off once
pub unmarked_twice : (a : ResAttrs) → unmarked (unmarked a) ≡ unmarked a
unmarked_twice a = ap (λ (n : ℕ). record { 0 = n }) (and_assoc 253 a.0 253 ∙ ap (bit_and a.0) (and_self 253))

-- a row as it is saved
saved_is : (fork : List ℕ) (t : HandleTable) (r : Row Place) (b : Bool)
    → saved_row itself (if b then updated_row t (row_on fork r) else row_on fork r) ≡ saved_row (λ (_ : Place). new_bytes fork t b r) r
saved_is fork t r true =
    ap (λ (a : ResAttrs). record { kind = r.resource.kind; id = r.resource.id; name = r.resource.name; attributes = a; datum = contents t r }) (unmarked_twice r.resource.attributes)
saved_is fork t r false = refl

-- rows of which the changed ones are updated
changed_are : (fork : List ℕ) (t : HandleTable) (rows : List (Row Place)) (at : ℕ)
    → saved_rows itself (map (updated_if_changed t) (rows_on fork rows)) ≡ rows_with (final_bytes fork t AllChanged) at rows
changed_are fork t [] at = refl
changed_are fork t (r ∷ rows) at =
    ap (λ (x : forks.Row). x ∷ saved_rows itself (map (updated_if_changed t) (rows_on fork rows))) (saved_is fork t r (is_changed r))
    ∙ ap (λ (rest : List forks.Row). saved_row (λ (_ : Place). new_bytes fork t (is_changed r) r) r ∷ rest) (changed_are fork t rows (at + 1))

-- rows after the one that is updated
others_are : (fork : List ℕ) (t : HandleTable) (k : ℕ) (rows : List (Row Place)) (at : ℕ) → k < at
    → saved_rows itself (rows_on fork rows) ≡ rows_with (final_bytes fork t (RowAt k)) at rows
others_are fork t k [] at past = refl
others_are fork t k (r ∷ rows) at past =
    let other : (at == k) ≡ false = ne_eqb at k (λ same. let e : at ≡ k = same in absurd (omega arith)) in
    sym (ap (λ (b : Bool). saved_row (λ (_ : Place). new_bytes fork t b r) r ∷ saved_rows itself (rows_on fork rows)) other)
    ∙ ap (λ (rest : List forks.Row). saved_row (λ (_ : Place). new_bytes fork t (at == k) r) r ∷ rest) (others_are fork t k rows (at + 1) (omega arith))

-- a change after the first row
after : (change : FileRow → FileRow) (r : FileRow) (rows : List FileRow) (j : ℕ) → changed_at (suc j) change (r ∷ rows) ≡ r ∷ changed_at j change rows
after change r rows j = by (slice_get rows j)
  where
    by : (o : Option FileRow) → option_map_or (λ (x : FileRow). set (r ∷ rows) (suc j) (change x)) o (r ∷ rows) ≡ r ∷ option_map_or (λ (x : FileRow). set rows j (change x)) o rows
    by None = refl
    by (Some x) = refl

-- rows of which one is updated
one_is : (fork : List ℕ) (t : HandleTable) (k j : ℕ) (rows : List (Row Place)) (at : ℕ) → at + j ≡ k
    → saved_rows itself (changed_at j (updated_row t) (rows_on fork rows)) ≡ rows_with (final_bytes fork t (RowAt k)) at rows
one_is fork t k j [] at is = refl
one_is fork t k zero (r ∷ rows) at is =
    let here : (at == k) ≡ true = eq-eqb at k (omega arith) in
    ap (λ (x : forks.Row). x ∷ saved_rows itself (rows_on fork rows)) (saved_is fork t r true)
    ∙ sym (ap (λ (b : Bool). saved_row (λ (_ : Place). new_bytes fork t b r) r ∷ saved_rows itself (rows_on fork rows)) here)
    ∙ ap (λ (rest : List forks.Row). saved_row (λ (_ : Place). new_bytes fork t (at == k) r) r ∷ rest) (others_are fork t k rows (at + 1) (omega arith))
one_is fork t k (suc j) (r ∷ rows) at is =
    let other : (at == k) ≡ false = ne_eqb at k (λ same. let e : at ≡ k = same in absurd (omega arith)) in
    ap (saved_rows itself) (after (updated_row t) (row_on fork r) (rows_on fork rows) j)
    ∙ sym (ap (λ (b : Bool). saved_row (λ (_ : Place). new_bytes fork t b r) r ∷ saved_rows itself (changed_at j (updated_row t) (rows_on fork rows))) other)
    ∙ ap (λ (rest : List forks.Row). saved_row (λ (_ : Place). new_bytes fork t (at == k) r) r ∷ rest) (one_is fork t k j rows (at + 1) (omega arith))

-- the table that is written
abbrev pub final_table : List ℕ → HandleTable → Selection → ResourceTable Place → Table
final_table fork t s table = record { rows = rows_with (final_bytes fork t s) 0 table.rows; extra = table.extra; map_attributes = table.map_attributes }

pub final_is : (fork : List ℕ) (t : HandleTable) (s : Selection) (table : ResourceTable Place) → saved_table (updated t s (table_on fork table)) ≡ final_table fork t s table
final_is fork t AllChanged table =
    ap (λ (rows : List forks.Row). record { rows = rows; extra = table.extra; map_attributes = table.map_attributes }) (changed_are fork t table.rows 0)
final_is fork t (RowAt k) table =
    ap (λ (rows : List forks.Row). record { rows = rows; extra = table.extra; map_attributes = table.map_attributes }) (one_is fork t k k table.rows 0 (omega arith))

-- the bytes of rows are those that are saved of them
pub same_bytes : (rows : List FileRow) → map (λ (r : forks.Row). r.datum) (saved_rows itself rows) ≡ map (λ (r : FileRow). r.resource.datum) rows
same_bytes [] = refl
same_bytes (r ∷ rows) = ap (λ (rest : List (List ℕ)). r.resource.datum ∷ rest) (same_bytes rows)

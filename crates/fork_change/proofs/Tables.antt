-- Tables of which nothing differs are the same.
use Rattle.std.proofs.Common.{◌≡◌, ◌≢◌, ℕ, ◌==◌, ◌↔◌, Bool, true, false, List, [], ◌∷◌, Option, None, Some, map, refl, sym, subst, ap, ◌∙◌, if◌then◌else◌}
use Rattle.std.specs.Prelude.{IfNone, IfSome, IsTrue, slice_get}
use Rattle.std.proofs.lemmas.Bool.{cond-true, eq-eqb, eqb-true, false_from_ne_true}
use Rattle.fork_bytes.specs.Rows.{Row}
use Rattle.fork_bytes.specs.declared.table.Table.{Table}
use Rattle.fork_change.specs.declared.comparing.Difference as found
use Rattle.fork_change.specs.declared.comparing.Differences.{Differences}
use Rattle.fork_change.specs.Differences.{IsEmpty, attributes_diff, diff, rows_at, shown}
use Rattle.fork_change.proofs.Applied.{is_no_difference}

abbrev table_of : List Row → List ℕ → ℕ → Table
table_of rows extra attributes = record { rows = rows; extra = extra; map_attributes = attributes }

-- what is shown of nothing
none_shown : (found : List found.Difference) → map shown found ≡ [] → found ≡ []
none_shown [] is = refl
none_shown (first ∷ rest) is = absurd (cc is)

-- attributes of which there is nothing to report are the same
same_attributes : (old new : ℕ) (told : Option (ℕ × ℕ)) → told ≡ attributes_diff old new → told ≡ None → old ≡ new
same_attributes old new told is none = by_case (old == new) refl (sym none ∙ is)
  where
    both : Option (ℕ × ℕ)
    both = Some (old, new)

    by_case : (b : Bool) → (old == new) ≡ b → None ≡ (if b then None else both) → old ≡ new
    by_case true same is = eqb-true old new same
    by_case false differ is = absurd (cc is)

none_extra : (extra other : List ℕ) (at : Option ℕ) → IfSome at (λ at. slice_get extra at ≢ slice_get other at) → extra ≡ other → at ≡ None
none_extra extra other None differs same = refl
none_extra extra other (Some at) differs same = absurd (differs (ap (λ (bytes : List ℕ). slice_get bytes at) same))

pub none_differ : (first second : Table) (found : Differences) → map shown found.rows.items ≡ diff first.rows second.rows →
    (IsTrue found.is_reordered ↔ ((found.rows.items ≡ []) × (first.rows ≢ second.rows))) → (found.is_reordered ≡ false → found.rows.items ≡ [] → first.rows ≡ second.rows) →
    found.map_attributes ≡ attributes_diff first.map_attributes second.map_attributes →
    IfNone found.extra (first.extra ≡ second.extra) → IfSome found.extra (λ at. slice_get first.extra at ≢ slice_get second.extra at) → (IsEmpty found ↔ (first ≡ second))
none_differ first second found rows order kept attributes none differs = (forward, backward)
  where
    forward : IsEmpty found → first ≡ second
    forward empty =
        let P : Option ℕ → Type 0 = λ at. IfNone at (first.extra ≡ second.extra) in
        let extra = subst P empty.extra none in
        ap (λ (x : List Row). table_of x first.extra first.map_attributes) (kept empty.order empty.rows)
        ∙ ap (λ (x : List ℕ). table_of second.rows x first.map_attributes) extra
        ∙ ap (λ (x : ℕ). table_of second.rows second.extra x) (same_attributes first.map_attributes second.map_attributes found.map_attributes attributes empty.attributes)

    backward : first ≡ second → IsEmpty found
    backward same =
        let same_rows = ap (λ (table : Table). table.rows) same in
        let same_bits = ap (λ (table : Table). table.map_attributes) same in
        record {
          rows = none_shown found.rows.items (rows ∙ (is_no_difference first.rows second.rows).1 (λ what. ap (rows_at what) same_rows));
          order = false_from_ne_true found.is_reordered (λ is. (order.0 is).1 same_rows);
          attributes =
              attributes
              ∙ cond-true (first.map_attributes == second.map_attributes) None (Some (first.map_attributes, second.map_attributes)) (eq-eqb first.map_attributes second.map_attributes same_bits);
          extra = none_extra first.extra second.extra found.extra differs (ap (λ (table : Table). table.extra) same);
        }

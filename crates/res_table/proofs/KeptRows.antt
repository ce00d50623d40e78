-- What is kept of rows of which one changes, where its type, its id and the length of its name stay.
use Rattle.std.proofs.Common.{◌≡◌, ℕ, ◌<◌, List, length, get_or, set, subst, sym, ap, ◌∙◌}
use Rattle.std.specs.Prelude.{All}
use Rattle.res_table.specs.declared.row.Row.{Row}
use Rattle.res_table.specs.declared.keyed.Pair.{Pair}
use Rattle.res_table.specs.Rows.{changed_at, name_size, names_size}
use Rattle.res_table.specs.Indexed.{resource_key, pairs_of, kinds_of, IsKept}
use Rattle.res_table.proofs.RowPairs.{resources_kept, changed_is}
use Rattle.res_table.proofs.RowKinds.{kinds_kept}
use Rattle.res_table.proofs.Resources.{told_kept}
use Rattle.res_table.proofs.Types.{names_kept}

module _ {D : Type 0} (i : ℕ) (r : Row D) (rows now : List (Row D)) (view : rows ≡ now) (within : i < length now) (read : r ≡ get_or rows i r) where
  inside : i < length rows
  inside = subst (λ (rs : List (Row D)). i < length rs) (sym view) within

  -- the list as it is seen then
  pub row_changed : (change : Row D → Row D) → set rows i (change r) ≡ changed_at i change now
  row_changed change = changed_is i change r rows inside read ∙ ap (changed_at i change) view

  -- the types, the pairs by type and id, the bytes of the names, and that each key gives its type and id
  pub rest_kept : (new : Row D) (kinds : List (List ℕ)) (ps : List Pair) (names : ℕ) → new.resource.kind ≡ r.resource.kind → new.resource.id ≡ r.resource.id → name_size new ≡ name_size r → (IsKept r → IsKept new)
      → kinds ≡ kinds_of rows → ps ≡ pairs_of resource_key rows → names ≡ names_size rows → All IsKept rows
      → (kinds ≡ kinds_of (set rows i new)) × (ps ≡ pairs_of resource_key (set rows i new)) × (names ≡ names_size (set rows i new)) × All IsKept (set rows i new)
  rest_kept new kinds ps names kind id name told kinds_is ps_is names_is all = (
    kinds_is ∙ sym (kinds_kept i r new rows read kind),
    resources_kept i r new rows ps read kind id ps_is,
    names_is ∙ sym (names_kept i r new rows inside read name),
    told_kept i r new rows inside read told all,
  )

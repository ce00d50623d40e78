-- What is kept of rows of which one gets another id and another name.
use Rattle.std.proofs.Common.{◌≡◌, ℕ, ◌+◌, ◌-◌, ◌<◌, ◌≤◌, arith, List, length, get_or, set, sym, ap, ◌∙◌}
use Rattle.std.specs.Prelude.{All}
use Rattle.std.proofs.lemmas.List.Sums.{sum_by-set}
use Rattle.res_table.specs.declared.row.Row.{Row}
use Rattle.res_table.specs.Rows.{name_size, names_size}
use Rattle.res_table.specs.Indexed.{kinds_of, IsKept}
use Rattle.res_table.proofs.RowKinds.{kinds_kept}
use Rattle.res_table.proofs.Resources.{told_kept}
use Rattle.res_table.proofs.Types.{names_less}

-- the types, how many bytes the names have, and what is known of each row
pub info_kept : {D : Type 0} (i : ℕ) (r new : Row D) (rows : List (Row D)) (kinds : List (List ℕ)) (names size : ℕ) → i < length rows → r ≡ get_or rows i r → new.resource.kind ≡ r.resource.kind → name_size r ≡ size → IsKept new
    → kinds ≡ kinds_of rows → names ≡ names_size rows → All IsKept rows
    → (kinds ≡ kinds_of (set rows i new)) × (size ≤ names) × (names - size + name_size new ≡ names_size (set rows i new)) × All IsKept (set rows i new)
info_kept i r new rows kinds names size inside read kind size_is told kinds_is names_is all =
    let sums = sum_by-set name_size rows i new r inside in
    let old : name_size r ≡ name_size (get_or rows i r) = ap (λ (x : Row _). name_size x) read in
    let less = names_less i r rows inside read in (
      kinds_is ∙ sym (kinds_kept i r new rows read kind),
      omega (arith, less, size_is, names_is),
      omega (arith, sums, old, less, size_is, names_is),
      told_kept i r new rows inside read (λ before. told) all,
    )

-- Places and ranges that are listed one after the other.
use Rattle.std.proofs.Common.{◌≡◌, sym, ap, ◌∙◌, ℕ, ◌+◌, List, [], ◌∷◌, ◌++◌, drop, slice_get, Some, Bool, true, false, if◌then◌else◌}
use Rattle.std.proofs.lemmas.List.{append_assoc}
use Rattle.fork_disk.specs.declared.update.Kept.{Kept}
use Rattle.fork_bytes.specs.declared.place.Place.{Place}
use Rattle.res_table.specs.declared.row.Row.{Row}
use Rattle.res_update.specs.declared.selection.Selection.{Selection}
use Rattle.res_update.specs.Drafts.{is_selected, kept_ranges}
use Rattle.res_update.proofs.Selecting.{drop_here}

-- the ranges from a row on
ranges_here : (s : Selection) (rows : List (Row Place)) (places : List Place) (i : ℕ) (r : Row Place) (p : Place) → slice_get rows i ≡ Some r → slice_get places i ≡ Some p
    → kept_ranges s i (drop i rows) (drop i places)
    ≡ (if is_selected s i r then kept_ranges s (i + 1) (drop (i + 1) rows) (drop (i + 1) places)
    else record { from = r.resource.datum.offset; to = p.offset; length = r.resource.datum.length } ∷ kept_ranges s (i + 1) (drop (i + 1) rows) (drop (i + 1) places))
ranges_here s rows places i r p row place =
    ap (λ (rest : List (Row Place)). kept_ranges s i rest (drop i places)) (drop_here rows i r row)
    ∙ ap (λ (rest : List Place). kept_ranges s i (r ∷ drop (i + 1) rows) rest) (drop_here places i p place)

-- a row that is selected adds none
pub selected_step : (s : Selection) (rows : List (Row Place)) (places : List Place) (i : ℕ) (r : Row Place) (p : Place) (front whole : List Kept) → slice_get rows i ≡ Some r → slice_get places i ≡ Some p
    → is_selected s i r ≡ true → front ++ kept_ranges s i (drop i rows) (drop i places) ≡ whole → front ++ kept_ranges s (i + 1) (drop (i + 1) rows) (drop (i + 1) places) ≡ whole
selected_step s rows places i r p front whole row place selected before =
    let others = kept_ranges s (i + 1) (drop (i + 1) rows) (drop (i + 1) places) in
    sym (ap (λ (b : Bool). front ++ (if b then others else record { from = r.resource.datum.offset; to = p.offset; length = r.resource.datum.length } ∷ others)) selected)
    ∙ sym (ap (λ (ks : List Kept). front ++ ks) (ranges_here s rows places i r p row place)) ∙ before

-- any other adds one
pub kept_step : (s : Selection) (rows : List (Row Place)) (places : List Place) (i : ℕ) (r : Row Place) (p : Place) (front whole : List Kept) → slice_get rows i ≡ Some r → slice_get places i ≡ Some p
    → is_selected s i r ≡ false → front ++ kept_ranges s i (drop i rows) (drop i places) ≡ whole
    → (front ++ record { from = r.resource.datum.offset; to = p.offset; length = r.resource.datum.length } ∷ []) ++ kept_ranges s (i + 1) (drop (i + 1) rows) (drop (i + 1) places) ≡ whole
kept_step s rows places i r p front whole row place other before =
    let others = kept_ranges s (i + 1) (drop (i + 1) rows) (drop (i + 1) places) in
    let kept : Kept = record { from = r.resource.datum.offset; to = p.offset; length = r.resource.datum.length } in
    append_assoc front (kept ∷ []) others
    ∙ sym (ap (λ (b : Bool). front ++ (if b then others else kept ∷ others)) other)
    ∙ sym (ap (λ (ks : List Kept). front ++ ks) (ranges_here s rows places i r p row place)) ∙ before

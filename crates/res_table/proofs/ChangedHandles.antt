-- The handles of changed rows, one for each row; and that each row's type has four bytes.
use Rattle.std.proofs.Common.{◌≡◌, refl, sym, ap, ◌∙◌, ℕ, zero, suc, List, [], ◌∷◌, length, map, get_or, set, remove, Option, ◌<◌, ◌/◌, arith}
use Rattle.std.specs.Prelude.{All, insert}
use Rattle.std.specs.Int.{w32, to_be_bytes}
use Rattle.std.specs.List.{AllByRecursion}
use Rattle.std.proofs.lemmas.List.{map-set, length-map, get_or-set_same}
use Rattle.std.proofs.Math.Seq.{map-set_same}
use Rattle.std.proofs.lemmas.List.Elements.{All-head, All-tail}
use Rattle.res_table.specs.declared.row.Row.{Row}
use Rattle.res_table.specs.Rows.{changed_handle}
use Rattle.res_table.specs.Indexed.{IsKept}
use Rattle.res_table.specs.Keyed.{key_of_resource}

-- the handles of rows, of which one was changed, put in or taken out
pub handles_set : {D : Type 0} (i : ℕ) (new now : Row D) (rows : List (Row D)) (handles : List (Option ℕ)) (handle : Option ℕ) → i < length rows → now ≡ get_or (set rows i new) i now
    → handles ≡ map changed_handle rows → handle ≡ changed_handle now → set handles i handle ≡ map changed_handle (set rows i new)
handles_set i new now rows handles handle within read all is =
    ap (λ (h : Option ℕ). set handles i h) (is ∙ ap changed_handle (read ∙ get_or-set_same rows i new now within))
    ∙ ap (λ (hs : List (Option ℕ)). set hs i (changed_handle new)) all ∙ sym (map-set changed_handle rows i new)

-- a row that keeps its handle and its attributes
pub handles_kept : {D : Type 0} (i : ℕ) (r new : Row D) (rows : List (Row D)) → r ≡ get_or rows i r → changed_handle new ≡ changed_handle r → map changed_handle (set rows i new) ≡ map changed_handle rows
handles_kept i r new rows is same = map-set_same changed_handle rows i new r (same ∙ ap changed_handle is)

-- there is one for each row
pub as_many_handles : {D : Type 0} (rows : List (Row D)) (handles : List (Option ℕ)) → handles ≡ map changed_handle rows → length handles ≡ length rows
as_many_handles rows handles all = ap (λ (hs : List (Option ℕ)). length hs) all ∙ length-map rows changed_handle

pub index_within : {D : Type 0} (i room : ℕ) (rows now : List (Row D)) (handles : List (Option ℕ)) → room ≡ length handles → handles ≡ map changed_handle rows → rows ≡ now → i < length now → i < room
index_within i room rows now handles count all same within =
    let many = as_many_handles rows handles all in let long = ap (λ (rs : List (Row _)). length rs) same in omega (arith, count, many, long, within)

inserted_are : {D : Type 0} (i : ℕ) (r : Row D) (rows : List (Row D)) → insert (map changed_handle rows) i (changed_handle r) ≡ map changed_handle (insert rows i r)
inserted_are zero r [] = refl
inserted_are (suc i) r [] = refl
inserted_are zero r (q ∷ qs) = refl
inserted_are (suc i) r (q ∷ qs) = ap (λ (hs : List (Option ℕ)). changed_handle q ∷ hs) (inserted_are i r qs)

pub handles_inserted : {D : Type 0} (i : ℕ) (r : Row D) (rows : List (Row D)) (old handles new : List (Option ℕ)) (handle : Option ℕ) → handles ≡ old → old ≡ map changed_handle rows → handle ≡ changed_handle r
    → new ≡ insert handles i handle → new ≡ map changed_handle (insert rows i r)
handles_inserted i r rows old handles new handle same all is put =
    put ∙ ap (λ (h : Option ℕ). insert handles i h) is ∙ ap (λ (hs : List (Option ℕ)). insert hs i (changed_handle r)) (same ∙ all) ∙ inserted_are i r rows

pub handles_removed : {D : Type 0} (i : ℕ) (rows : List (Row D)) → remove (map changed_handle rows) i ≡ map changed_handle (remove rows i)
handles_removed zero [] = refl
handles_removed (suc i) [] = refl
handles_removed zero (r ∷ rows) = refl
handles_removed (suc i) (r ∷ rows) = ap (λ (hs : List (Option ℕ)). changed_handle r ∷ hs) (handles_removed i rows)

-- a type that is known by its key has four bytes
pub kinds_are_four : {D : Type 0} (rows : List (Row D)) → All IsKept rows → AllByRecursion (λ r. length r.resource.kind ≡ 4) rows
kinds_are_four [] told = tt
kinds_are_four (r ∷ rows) told =
    let bytes : length (to_be_bytes w32 (key_of_resource r.resource.kind r.resource.id / 65536)) ≡ 4 = refl in
    (sym (ap (λ (bs : List ℕ). length bs) (All-head IsKept r rows told).0.0) ∙ bytes, kinds_are_four rows (All-tail IsKept r rows told))

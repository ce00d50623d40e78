-- The types of rows, one for each.
use Rattle.std.proofs.Common.{◌≡◌, refl, ap, ◌∙◌, arith, ℕ, zero, suc, ◌+◌, List, [], ◌∷◌, ◌++◌, length, get_or, set, remove, filter, Bool, true, false, not, ◌||◌, ◌&&◌, cond, if◌then◌else◌}
use Rattle.std.specs.List.{list_any}
use Rattle.res_table.specs.declared.row.Row.{Row}
use Rattle.res_table.specs.Rows.{is_of_type, added, indexes_from, count_of_type}
use Rattle.res_table.specs.After.{last_of_type}
use Rattle.res_table.specs.Kinds.{has_kind, count_of, places_of, end_of, with_kind}
use Rattle.res_table.specs.Indexed.{kinds_of}

-- what is asked of the types of rows is asked of the rows
pub count_is : {D : Type 0} (kind : List ℕ) (rows : List (Row D)) → count_of kind (kinds_of rows) ≡ count_of_type kind rows
count_is kind [] = refl
count_is {D} kind (r ∷ rows) = by (is_of_type kind r) (count_is kind rows)
  where
    by : (b : Bool) → count_of kind (kinds_of rows) ≡ count_of_type kind rows
        → (if b then count_of kind (kinds_of rows) + 1 else count_of kind (kinds_of rows)) ≡ length (cond b (r ∷ filter (is_of_type kind) rows) (filter (is_of_type kind) rows))
    by true deeper = omega arith
    by false deeper = deeper

pub places_are : {D : Type 0} (kind : List ℕ) (at : ℕ) (rows : List (Row D)) → places_of at kind (kinds_of rows) ≡ indexes_from at (is_of_type kind) rows
places_are kind at [] = refl
places_are kind at (r ∷ rows) = by (is_of_type kind r) (places_are kind (at + 1) rows)
  where
    by : (b : Bool) → places_of (at + 1) kind (kinds_of rows) ≡ indexes_from (at + 1) (is_of_type kind) rows
        → (if b then at ∷ places_of (at + 1) kind (kinds_of rows) else places_of (at + 1) kind (kinds_of rows))
        ≡ (if b then at ∷ indexes_from (at + 1) (is_of_type kind) rows else indexes_from (at + 1) (is_of_type kind) rows)
    by true deeper = ap (λ (ks : List ℕ). at ∷ ks) deeper
    by false deeper = deeper

pub end_is : {D : Type 0} (kind : List ℕ) (end at : ℕ) (rows : List (Row D)) → end_of kind end at (kinds_of rows) ≡ last_of_type kind end at rows
end_is kind end at [] = refl
end_is kind end at (r ∷ rows) = end_is kind (if is_of_type kind r then at + 1 else end) (at + 1) rows

any_is : {D : Type 0} (kind : List ℕ) (rows : List (Row D)) → has_kind kind (kinds_of rows) ≡ list_any (is_of_type kind) rows
any_is kind [] = refl
any_is kind (r ∷ rows) = ap (λ (b : Bool). is_of_type kind r || b) (any_is kind rows)

-- what is done to rows is done to their types
pub added_are : {D : Type 0} (new : Row D) (rows : List (Row D)) → with_kind new.resource.kind (kinds_of rows) ≡ kinds_of (added new rows)
added_are new [] = refl
added_are new (r ∷ rows) =
    ap (λ (b : Bool). if is_of_type new.resource.kind r && not b then r.resource.kind ∷ new.resource.kind ∷ kinds_of rows else r.resource.kind ∷ with_kind new.resource.kind (kinds_of rows)) (any_is new.resource.kind rows)
    ∙ by (is_of_type new.resource.kind r && not (list_any (is_of_type new.resource.kind) rows)) (added_are new rows)
  where
    by : (b : Bool) → with_kind new.resource.kind (kinds_of rows) ≡ kinds_of (added new rows)
        → (if b then r.resource.kind ∷ new.resource.kind ∷ kinds_of rows else r.resource.kind ∷ with_kind new.resource.kind (kinds_of rows)) ≡ kinds_of (if b then r ∷ new ∷ rows else r ∷ added new rows)
    by true deeper = refl
    by false deeper = ap (λ (ks : List (List ℕ)). r.resource.kind ∷ ks) deeper

pub removed_are : {D : Type 0} (i : ℕ) (rows : List (Row D)) → remove (kinds_of rows) i ≡ kinds_of (remove rows i)
removed_are zero [] = refl
removed_are (suc i) [] = refl
removed_are zero (r ∷ rows) = refl
removed_are (suc i) (r ∷ rows) = ap (λ (ks : List (List ℕ)). r.resource.kind ∷ ks) (removed_are i rows)

pub kinds_kept : {D : Type 0} (i : ℕ) (r new : Row D) (rows : List (Row D)) → r ≡ get_or rows i r → new.resource.kind ≡ r.resource.kind → kinds_of (set rows i new) ≡ kinds_of rows
kinds_kept i r new [] is same = refl
kinds_kept zero r new (q ∷ qs) is same = ap (λ (k : List ℕ). k ∷ kinds_of qs) (same ∙ ap (λ (x : Row _). x.resource.kind) is)
kinds_kept (suc i) r new (q ∷ qs) is same = ap (λ (ks : List (List ℕ)). q.resource.kind ∷ ks) (kinds_kept i r new qs is same)

pub kinds_more : {D : Type 0} (rows : List (Row D)) (r : Row D) → kinds_of (rows ++ r ∷ []) ≡ kinds_of rows ++ r.resource.kind ∷ []
kinds_more [] r = refl
kinds_more (q ∷ qs) r = ap (λ (ks : List (List ℕ)). q.resource.kind ∷ ks) (kinds_more qs r)

pub as_many : {D : Type 0} (rows : List (Row D)) → length (kinds_of rows) ≡ length rows
as_many [] = refl
as_many (r ∷ rows) = ap suc (as_many rows)

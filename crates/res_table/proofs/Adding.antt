-- A new row put in after the last of its type.
use Rattle.std.proofs.Common.{◌≡◌, refl, subst, sym, ap, ◌∙◌, arith, ℕ, suc, ◌+◌, ◌≤◌, List, [], ◌∷◌, length, Bool, true, false, not}
use Rattle.std.specs.Prelude.{if◌then◌else◌, insert, ◌||◌, ◌&&◌}
use Rattle.std.specs.List.{list_any}
use Rattle.res_table.specs.declared.row.Row.{Row}
use Rattle.res_table.specs.Rows.{is_of_type, added}
use Rattle.res_table.specs.After.{last_of_type, end_of_type}

-- how many rows there are up to the last of a type
abbrev pub up_to_last : {D : Type 0} → List ℕ → List (Row D) → ℕ
up_to_last kind [] = 0
up_to_last kind (r ∷ rows) = if list_any (is_of_type kind) rows then suc (up_to_last kind rows) else 1

-- the search ends there, or where it would have ended without such a row
pub last-is : {D : Type 0} (kind : List ℕ) (end at : ℕ) (rows : List (Row D))
    → last_of_type kind end at rows ≡ (if list_any (is_of_type kind) rows then at + up_to_last kind rows else end)
last-is kind end at [] = refl
last-is kind end at (r ∷ rows) = last-is kind (if is_of_type kind r then at + 1 else end) (at + 1) rows ∙ by (is_of_type kind r) (list_any (is_of_type kind) rows) (up_to_last kind rows)
  where
    by : (mine others : Bool) (n : ℕ) → (if others then (at + 1) + n else (if mine then at + 1 else end)) ≡ (if mine || others then at + (if others then suc n else 1) else end)
    by true true n = omega arith
    by true false n = refl
    by false true n = omega arith
    by false false n = refl

-- a row put in there is added
pub insert-added : {D : Type 0} (new : Row D) (rows : List (Row D)) → list_any (is_of_type new.resource.kind) rows ≡ true
    → insert rows (up_to_last new.resource.kind rows) new ≡ added new rows
insert-added new [] some = absurd (cc some)
insert-added new (r ∷ rows) some = by (is_of_type new.resource.kind r) (list_any (is_of_type new.resource.kind) rows) (insert-added new rows) some
  where
    by : (mine others : Bool) → (others ≡ true → insert rows (up_to_last new.resource.kind rows) new ≡ added new rows) → (mine || others) ≡ true
        → insert (r ∷ rows) (if others then suc (up_to_last new.resource.kind rows) else 1) new ≡ (if mine && not others then r ∷ new ∷ rows else r ∷ added new rows)
    by true true deeper t = ap (λ rs. r ∷ rs) (deeper refl)
    by false true deeper t = ap (λ rs. r ∷ rs) (deeper refl)
    by true false deeper t = refl
    by false false deeper t = absurd (cc t)

-- and one put in at the end is, where no row is of its type
pub insert-last : {D : Type 0} (new : Row D) (rows : List (Row D)) → list_any (is_of_type new.resource.kind) rows ≡ false
    → insert rows (length rows) new ≡ added new rows
insert-last new [] none = refl
insert-last new (r ∷ rows) none = by (is_of_type new.resource.kind r) (list_any (is_of_type new.resource.kind) rows) (insert-last new rows) none
  where
    by : (mine others : Bool) → (others ≡ false → insert rows (length rows) new ≡ added new rows) → (mine || others) ≡ false
        → insert (r ∷ rows) (suc (length rows)) new ≡ (if mine && not others then r ∷ new ∷ rows else r ∷ added new rows)
    by true others deeper t = absurd (cc t)
    by false true deeper t = absurd (cc t)
    by false false deeper t = ap (λ rs. r ∷ rs) (deeper refl)

-- a row put in at the end of its type is added
pub insert-at-end : {D : Type 0} (new : Row D) (rows : List (Row D)) → insert rows (end_of_type new.resource.kind rows) new ≡ added new rows
insert-at-end new rows = ap (λ at. insert rows at new) (last-is new.resource.kind (length rows) 0 rows) ∙ by (list_any (is_of_type new.resource.kind) rows) refl
  where
    by : (some : Bool) → list_any (is_of_type new.resource.kind) rows ≡ some → insert rows (if some then 0 + up_to_last new.resource.kind rows else length rows) new ≡ added new rows
    by true is = ap (λ at. insert rows at new) (let e : 0 + up_to_last new.resource.kind rows ≡ up_to_last new.resource.kind rows = omega arith in e) ∙ insert-added new rows is
    by false is = insert-last new rows is

-- it is an index of the rows, or the end
pub up_to_last-within : {D : Type 0} (kind : List ℕ) (rows : List (Row D)) → up_to_last kind rows ≤ length rows
up_to_last-within kind [] = omega arith
up_to_last-within kind (r ∷ rows) = by (list_any (is_of_type kind) rows) (up_to_last-within kind rows)
  where
    by : (others : Bool) → up_to_last kind rows ≤ length rows → (if others then suc (up_to_last kind rows) else 1) ≤ suc (length rows)
    by true deeper = omega arith
    by false deeper = omega arith

pub end-within : {D : Type 0} (kind : List ℕ) (rows : List (Row D)) → end_of_type kind rows ≤ length rows
end-within kind rows = subst (λ n. n ≤ length rows) (sym (last-is kind (length rows) 0 rows)) (by (list_any (is_of_type kind) rows) (up_to_last-within kind rows))
  where
    by : (some : Bool) → up_to_last kind rows ≤ length rows → (if some then 0 + up_to_last kind rows else length rows) ≤ length rows
    by true within = omega arith
    by false within = omega arith

-- How many types rows have, by the runs that stand for them; and how many bytes their names take.
use Rattle.std.proofs.Common.{◌≡◌, refl, sym, ap, ◌∙◌, arith, ℕ, suc, ◌+◌, ◌<◌, List, [], ◌∷◌, length, get_or, set, remove, slice_get, Bool, true, false, not, None, Some, bytes_eq, if◌then◌else◌}
use Rattle.std.specs.Option.{option_map_or}
use Rattle.std.proofs.lemmas.List.Sums.{sum_by-set, sum_by-remove}
use Rattle.fork_bytes.specs.declared.layout.TypeCount.{TypeCount}
use Rattle.fork_bytes.specs.Written.{counted_before}
use Rattle.res_table.specs.declared.row.Row.{Row}
use Rattle.res_table.specs.Rows.{name_size, names_size}
use Rattle.res_table.specs.Kinds.{changes}
use Rattle.res_table.specs.Indexed.{kinds_of}
use Rattle.res_table.specs.Saved.{row_types}

-- one type more before others, where the first is another or there is none
pub one_before : (kind : List ℕ) (n : ℕ) (types : List TypeCount)
    → length (counted_before kind n types) ≡ (if option_map_or (λ (first : TypeCount). bytes_eq kind first.kind) (slice_get types 0) false then length types else suc (length types))
one_before kind n [] = refl
one_before kind n (first ∷ others) = pick (bytes_eq kind first.kind)
  where
    pick : (b : Bool) → length (if b then record { kind = kind; count = n + first.count } ∷ others else record { kind = kind; count = n } ∷ first ∷ others)
        ≡ (if b then suc (length others) else suc (suc (length others)))
    pick true = refl
    pick false = refl

-- the first of the types that are counted so
pub first_kind : (kind next : List ℕ) (n : ℕ) (types : List TypeCount) → option_map_or (λ (first : TypeCount). bytes_eq kind first.kind) (slice_get (counted_before next n types) 0) false ≡ bytes_eq kind next
first_kind kind next n [] = refl
first_kind kind next n (first ∷ others) = pick (bytes_eq next first.kind)
  where
    pick : (b : Bool) → option_map_or (λ (first : TypeCount). bytes_eq kind first.kind) (slice_get (if b then record { kind = next; count = n + first.count } ∷ others else record { kind = next; count = n } ∷ first ∷ others) 0) false
        ≡ bytes_eq kind next
    pick true = refl
    pick false = refl

-- the types of rows after one of a type
types_after : {D : Type 0} (kind : List ℕ) (n : ℕ) (rows : List (Row D)) → length (counted_before kind n (row_types rows)) ≡ suc (changes (Some kind) (kinds_of rows))
types_after kind n [] = refl
types_after {D} kind n (r ∷ rows) =
    one_before kind n (row_types (r ∷ rows))
    ∙ ap (λ (b : Bool). if b then length (row_types (r ∷ rows)) else suc (length (row_types (r ∷ rows)))) (first_kind kind r.resource.kind 1 (row_types rows))
    ∙ ap (λ (m : ℕ). if bytes_eq kind r.resource.kind then m else suc m) (types_after r.resource.kind 1 rows)
    ∙ pick (bytes_eq kind r.resource.kind)
  where
    pick : (b : Bool) → (if b then suc (changes (Some r.resource.kind) (kinds_of rows)) else suc (suc (changes (Some r.resource.kind) (kinds_of rows))))
        ≡ suc (if not b then suc (changes (Some r.resource.kind) (kinds_of rows)) else changes (Some r.resource.kind) (kinds_of rows))
    pick true = refl
    pick false = refl

-- the types of rows are those that differ from the one before
pub types_are : {D : Type 0} (rows : List (Row D)) → changes None (kinds_of rows) ≡ length (row_types rows)
types_are [] = refl
types_are (r ∷ rows) = sym (types_after r.resource.kind 1 rows)

-- the names of rows take as much where one has changed that keeps its name
pub names_kept : {D : Type 0} (i : ℕ) (r new : Row D) (rows : List (Row D)) → i < length rows → r ≡ get_or rows i r → name_size new ≡ name_size r → names_size (set rows i new) ≡ names_size rows
names_kept i r new rows within is same =
    let all = sum_by-set name_size rows i new r within in
    let old : name_size r ≡ name_size (get_or rows i r) = ap (λ (x : Row _). name_size x) is in
    omega (arith, all, old, same)

-- and less by its name where one is taken out
pub names_less : {D : Type 0} (i : ℕ) (r : Row D) (rows : List (Row D)) → i < length rows → r ≡ get_or rows i r → names_size (remove rows i) + name_size r ≡ names_size rows
names_less i r rows within is = ap (λ (x : Row _). names_size (remove rows i) + name_size x) is ∙ sum_by-remove name_size rows i r within

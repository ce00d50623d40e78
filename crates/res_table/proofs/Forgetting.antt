-- A handle is forgotten row by row.
use Rattle.std.proofs.Common.{◌≡◌, refl, sym, ap, ◌∙◌, arith, ℕ, zero, suc, ◌+◌, ◌<◌, ◌≤◌, List, [], ◌∷◌, length, get_or, Bool, true, false, Option, Some, None, if◌then◌else◌, set, slice_get, position, cond, not}
use Rattle.std.specs.Option.{option_map_or}
use Rattle.std.specs.List.{position_or_len}
use Rattle.std.proofs.lemmas.List.Quantifiers.{position-Some}
use Rattle.std.proofs.lemmas.Bool.Decides.{nat_tests}
use Rattle.res_table.specs.declared.row.Row.{Row}
use Rattle.res_table.specs.Rows.{has_handle, with_handle, changed_at, forgetting, forgotten}

-- a change after the first row
pub changed_after : {D : Type 0} (change : Row D → Row D) (r : Row D) (rows : List (Row D)) (i : ℕ) → changed_at (suc i) change (r ∷ rows) ≡ r ∷ changed_at i change rows
changed_after change r rows i = by (slice_get rows i)
  where
    by : (found : Option _) → option_map_or (λ x. set (r ∷ rows) (suc i) (change x)) found (r ∷ rows) ≡ r ∷ option_map_or (λ x. set rows i (change x)) found rows
    by None = refl
    by (Some x) = refl

-- where no row has the handle, none forgets it
pub none_forgets : {D : Type 0} (h : ℕ) (rows : List (Row D)) → length rows ≤ position_or_len (has_handle h) rows → forgotten h rows ≡ rows
none_forgets h [] none = refl
none_forgets h (r ∷ rows) none = by (has_handle h r) none (none_forgets h rows)
  where
    by : (has : Bool) → suc (length rows) ≤ cond (not has) (1 + position_or_len (has_handle h) rows) 0 → (length rows ≤ position_or_len (has_handle h) rows → forgotten h rows ≡ rows)
        → (if has then with_handle None r else r) ∷ forgotten h rows ≡ r ∷ rows
    by true past deeper = absurd (omega arith)
    by false past deeper = ap (λ rs. r ∷ rs) (deeper (omega arith))

-- no position is found only past the end
pub past_end : {X : Type 0} (test : X → Bool) (xs : List X) → position test xs ≡ None → length xs ≤ position_or_len test xs
past_end test xs none = grind (arith, nat_tests)

-- a row that has the handle forgets it first
pub forgets_at : {D : Type 0} (h : ℕ) (rows : List (Row D)) (i : ℕ) (d : Row D) → i < length rows → has_handle h (get_or rows i d) ≡ true
    → forgotten h (changed_at i (with_handle None) rows) ≡ forgotten h rows
forgets_at h [] i d within has = absurd (omega arith)
forgets_at h (r ∷ rows) zero d within has = ap (λ (b : Bool). (if b then with_handle None r else r) ∷ forgotten h rows) (sym has)
forgets_at h (r ∷ rows) (suc i) d within has =
    ap (forgotten h) (changed_after (with_handle None) r rows i) ∙ ap (λ rs. forgetting h r ∷ rs) (forgets_at h rows i d (omega arith) has)

-- how many rows have a handle
abbrev pub holders : {D : Type 0} → ℕ → List (Row D) → ℕ
holders h [] = 0
holders h (r ∷ rows) = if has_handle h r then holders h rows + 1 else holders h rows

-- one row less has it then
pub fewer_have : {D : Type 0} (h : ℕ) (rows : List (Row D)) (i : ℕ) (d : Row D) → i < length rows → has_handle h (get_or rows i d) ≡ true
    → holders h (changed_at i (with_handle None) rows) < holders h rows
fewer_have h [] i d within has = absurd (omega arith)
fewer_have h (r ∷ rows) zero d within has = by (has_handle h r) has
  where
    by : (b : Bool) → b ≡ true → holders h rows < (if b then holders h rows + 1 else holders h rows)
    by true is = omega arith
    by false is = absurd (cc is)
fewer_have h (r ∷ rows) (suc i) d within has = rw (changed_after (with_handle None) r rows i) (by (has_handle h r) (fewer_have h rows i d (omega arith) has))
  where
    by : (b : Bool) → holders h (changed_at i (with_handle None) rows) < holders h rows
        → (if b then holders h (changed_at i (with_handle None) rows) + 1 else holders h (changed_at i (with_handle None) rows)) < (if b then holders h rows + 1 else holders h rows)
    by true less = omega arith
    by false less = less

-- where the handle is found
pub forget_found : {D : Type 0} (h : ℕ) (rows : List (Row D)) (i : ℕ) → position (has_handle h) rows ≡ Some i
    → (forgotten h (changed_at i (with_handle None) rows) ≡ forgotten h rows) × (holders h (changed_at i (with_handle None) rows) < holders h rows)
forget_found h [] i is = absurd (cc is)
forget_found h (r ∷ rows) i is =
    let found = position-Some (has_handle h) (r ∷ rows) i r is in
    (forgets_at h (r ∷ rows) i r found.0 found.1, fewer_have h (r ∷ rows) i r found.0 found.1)

-- Rows as they are saved: what is read of them at an index, and what looks at no datum.
use Rattle.std.proofs.Common.{◌≡◌, refl, sym, ap, ◌∙◌, arith, ℕ, zero, suc, ◌+◌, ◌*◌, ◌<◌, ◌≤◌, List, [], ◌∷◌, length, map, get_or, drop, IfSome, IsTrue, subst, Bool, true, false, bytes_eq, slice_get, Option, None, Some, ◌-◌, ◌≢◌, if◌then◌else◌}
use Rattle.std.proofs.lemmas.List.{drop_more, length-drop}
use Rattle.std.proofs.lemmas.List.Sums.{sum_by-cons}
use Rattle.fork_bytes.specs.Fork.{max_rows}
use Rattle.fork_bytes.specs.Rows as fork
use Rattle.fork_bytes.proofs.Counted.{run_more, run_apart, run_last, said_of_found, said_at}
use Rattle.res_table.specs.Rows.{is_of_type, ith, name_size, names_size}
use Rattle.fork_bytes.specs.Written.{types_of, counted_before, name_text, NamesFit}
use Rattle.fork_bytes.specs.declared.layout.TypeCount.{TypeCount}
use Rattle.res_table.specs.declared.row.Row.{Row}
use Rattle.res_table.specs.Saved.{saved_row, saved_rows, bare, kind_of, RowsFit}

-- from what never is, anything follows
pub never : {P : Type 0} → IsTrue false → P
never t = absurd (cc t)

-- as many
pub length-saved : {D : Type 0} (text : D → List ℕ) (rows : List (Row D)) → length (saved_rows text rows) ≡ length rows
length-saved text [] = refl
length-saved text (r ∷ rows) = ap suc (length-saved text rows)

-- the one at an index
pub saved_at : {D : Type 0} (text : D → List ℕ) (rows : List (Row D)) (i : ℕ) (r : Row D) → i < length rows → r ≡ get_or rows i r → saved_row text r ≡ get_or (saved_rows text rows) i (saved_row text r)
saved_at text [] i r within is = absurd (omega arith)
saved_at text (x ∷ rows) zero r within is = ap (saved_row text) is
saved_at text (x ∷ rows) (suc i) r within is = saved_at text rows i r (omega arith) is

-- types look at no datum
pub same_types : {D : Type 0} (text other : D → List ℕ) (rows : List (Row D)) → types_of (saved_rows text rows) ≡ types_of (saved_rows other rows)
same_types text other [] = refl
same_types text other (r ∷ rows) = ap (λ (types : List TypeCount). counted_before r.resource.kind 1 types) (same_types text other rows)

-- nor do names
pub same_names : {D : Type 0} (text other : D → List ℕ) (rows : List (Row D)) (at : ℕ) → NamesFit at (saved_rows text rows) → NamesFit at (saved_rows other rows)
same_names text other [] at fit = tt
same_names text other (r ∷ rows) at fit = (fit.0, same_names text other rows (at + length (name_text r.resource.name)) fit.1)

-- the first row of a run
pub run_first : {D : Type 0} (rows : List (Row D)) (i : ℕ) (r : Row D) (kind : List ℕ) → i < length rows → r ≡ get_or rows i r → kind ≡ r.resource.kind
    → types_of (drop i (bare rows)) ≡ counted_before kind 1 (types_of (drop (i + 1) (bare rows)))
run_first {D} rows i r kind within is mine =
    let inside : i < length (bare rows) = subst (λ (n : ℕ). i < n) (sym (length-saved (λ (_ : D). []) rows)) within in
    ap (λ (rest : List fork.Row). types_of rest) (drop_more (bare rows) i (saved_row (λ _. []) r) inside)
    ∙ ap (λ (k : List ℕ). counted_before k 1 (types_of (drop (i + 1) (bare rows)))) (sym (ap (λ (x : fork.Row). x.kind) (saved_at (λ _. []) rows i r within is)) ∙ sym mine)

-- a further row of it
pub run_on : {D : Type 0} (rows : List (Row D)) (n i : ℕ) (r : Row D) (kind : List ℕ) → i < length rows → r ≡ get_or rows i r → is_of_type kind r ≡ true
    → counted_before kind n (types_of (drop i (bare rows))) ≡ counted_before kind (n + 1) (types_of (drop (i + 1) (bare rows)))
run_on {D} rows n i r kind within is alike =
    let inside : i < length (bare rows) = subst (λ (n : ℕ). i < n) (sym (length-saved (λ (_ : D). []) rows)) within in
    run_more (bare rows) n i (saved_row (λ _. []) r) kind inside (sym (ap (λ (x : fork.Row). bytes_eq x.kind kind) (saved_at (λ _. []) rows i r within is)) ∙ alike)

-- a row of another type ends it
pub run_other : {D : Type 0} (rows : List (Row D)) (n i : ℕ) (r : Row D) (kind : List ℕ) → i < length rows → r ≡ get_or rows i r → is_of_type kind r ≡ false
    → counted_before kind n (types_of (drop i (bare rows))) ≡ record { kind = kind; count = n } ∷ types_of (drop i (bare rows))
run_other {D} rows n i r kind within is apart =
    let inside : i < length (bare rows) = subst (λ (n : ℕ). i < n) (sym (length-saved (λ (_ : D). []) rows)) within in
    run_apart (bare rows) n i (saved_row (λ _. []) r) kind inside (sym (ap (λ (x : fork.Row). bytes_eq x.kind kind) (saved_at (λ _. []) rows i r within is)) ∙ apart)

-- so does the end
pub run_over : {D : Type 0} (rows : List (Row D)) (n i : ℕ) (kind : List ℕ) → length rows ≤ i
    → counted_before kind n (types_of (drop i (bare rows))) ≡ record { kind = kind; count = n } ∷ types_of (drop i (bare rows))
run_over {D} rows n i kind past = run_last (bare rows) n i kind (subst (λ (n : ℕ). n ≤ i) (sym (length-saved (λ (_ : D). []) rows)) past)

-- what is said of a run, by the row at its start
pub run_is : {D : Type 0} (rows : List (Row D)) (i j : ℕ) (r : Row D) (kind : List ℕ) → i < length rows → r ≡ get_or rows i r → kind ≡ r.resource.kind
    → types_of (drop i (bare rows)) ≡ record { kind = kind; count = j - i } ∷ types_of (drop j (bare rows))
    → IfSome (slice_get (bare rows) i) (λ row. types_of (drop i (bare rows)) ≡ record { kind = row.kind; count = j - i } ∷ types_of (drop j (bare rows)))
run_is {D} rows i j r kind within is mine run =
    let inside : i < length (bare rows) = subst (λ (n : ℕ). i < n) (sym (length-saved (λ (_ : D). []) rows)) within in
    said_of_found (λ (row : fork.Row). types_of (drop i (bare rows)) ≡ record { kind = row.kind; count = j - i } ∷ types_of (drop j (bare rows))) (bare rows) i (saved_row (λ _. []) r) inside
    (run ∙ ap (λ (k : List ℕ). record { kind = k; count = j - i } ∷ types_of (drop j (bare rows))) (mine ∙ ap (λ (x : fork.Row). x.kind) (saved_at (λ _. []) rows i r within is)))

-- the table fits, from its parts
pub rows_fit : {D : Type 0} (rows : List (Row D)) → length rows ≤ max_rows → 30 + 8 * length (types_of (bare rows)) + 12 * length rows ≤ 65535 → NamesFit 0 (bare rows) → RowsFit rows
rows_fit {D} rows few low names text extra map_attributes =
    let long = length-saved text rows in
    let types = ap (λ (types : List TypeCount). length types) (same_types text (λ (_ : D). []) rows) in
    record { few_rows = omega arith; lists = omega arith; names = same_names (λ _. []) text rows 0 names }

-- and its parts from the table
pub few_fit : {D : Type 0} (rows : List (Row D)) → RowsFit rows → length rows ≤ max_rows
few_fit {D} rows fit = let long = length-saved (λ (_ : D). []) rows in let few = (fit (λ _. []) [] 0).few_rows in omega arith

pub low_fit : {D : Type 0} (rows : List (Row D)) → RowsFit rows → 30 + 8 * length (types_of (bare rows)) + 12 * length rows ≤ 65535
low_fit {D} rows fit = let long = length-saved (λ (_ : D). []) rows in let low = (fit (λ _. []) [] 0).lists in omega arith

pub names_fit : {D : Type 0} (rows : List (Row D)) → RowsFit rows → NamesFit 0 (bare rows)
names_fit rows fit = (fit (λ _. []) [] 0).names

-- names that take no more bytes than the largest offset fit
names_fit_from : {D : Type 0} (at : ℕ) (rows : List (Row D)) → at + names_size rows ≤ 65534 → NamesFit at (bare rows)
names_fit_from at [] low = tt
names_fit_from at (r ∷ rows) low = (here r.resource.name, names_fit_from (at + length (name_text r.resource.name)) rows (omega (arith, low, all)))
  where
    all : names_size (r ∷ rows) ≡ length (name_text r.resource.name) + names_size rows
    all = sum_by-cons name_size r rows

    here : (name : Option (List ℕ)) → IfSome name (λ _. at ≤ 65534)
    here None = tt
    here (Some name) = omega (arith, low)

pub names_fit_few : {D : Type 0} (rows : List (Row D)) → names_size rows ≤ 65534 → NamesFit 0 (bare rows)
names_fit_few rows low = names_fit_from 0 rows (omega arith)

-- one thing less to pass over
pub ith_next : {X : Type 0} (i : ℕ) (x : X) (xs : List X) → i ≢ 1 → ith (i - 1) xs ≡ ith i (x ∷ xs)
ith_next zero x xs other = refl
ith_next (suc zero) x xs other = absurd (other refl)
ith_next (suc (suc i)) x xs other = let e : suc (suc i) - 1 ≡ suc i = omega arith in ap (λ (n : ℕ). ith n xs) e

-- the first type of rows is that of the first
first_kind : (kind : List ℕ) (n : ℕ) (types : List TypeCount) → ith 1 (map kind_of (counted_before kind n types)) ≡ Some kind
first_kind kind n [] = refl
first_kind kind n (first ∷ others) = by (bytes_eq kind first.kind)
  where
    by : (b : Bool) → ith 1 (map kind_of (if b then record { kind = kind; count = n + first.count } ∷ others else record { kind = kind; count = n } ∷ first ∷ others)) ≡ Some kind
    by true = refl
    by false = refl

pub type_here : {D : Type 0} (rows : List (Row D)) (i : ℕ) (r : Row D) → i < length rows → r ≡ get_or rows i r → ith 1 (map kind_of (types_of (drop i (bare rows)))) ≡ Some r.resource.kind
type_here rows i r within is =
    ap (λ (types : List TypeCount). ith 1 (map kind_of types)) (run_first rows i r r.resource.kind within is refl) ∙ first_kind r.resource.kind 1 (types_of (drop (i + 1) (bare rows)))

-- after a run there is one type less to pass over
pub type_after : {D : Type 0} (rows : List (Row D)) (i j left : ℕ) → i < length rows → left ≢ 1
    → IfSome (slice_get (bare rows) i) (λ row. types_of (drop i (bare rows)) ≡ record { kind = row.kind; count = j - i } ∷ types_of (drop j (bare rows)))
    → ith (left - 1) (map kind_of (types_of (drop j (bare rows)))) ≡ ith left (map kind_of (types_of (drop i (bare rows))))
type_after {D} rows i j left within other run = by_case (drop i (bare rows)) refl
  where
    inside : i < length (bare rows)
    inside = subst (λ (n : ℕ). i < n) (sym (length-saved (λ (_ : D). []) rows)) within

    by_case : (rest : List fork.Row) → drop i (bare rows) ≡ rest → ith (left - 1) (map kind_of (types_of (drop j (bare rows)))) ≡ ith left (map kind_of (types_of (drop i (bare rows))))
    by_case [] is = let none = ap (λ (xs : List fork.Row). length xs) is in let long = length-drop i (bare rows) in let in' = inside in absurd (omega arith)
    by_case (row ∷ rest) is =
        let at = said_at (λ (r : fork.Row). types_of (drop i (bare rows)) ≡ record { kind = r.kind; count = j - i } ∷ types_of (drop j (bare rows))) (bare rows) i row inside run in
        ith_next left _ (map kind_of (types_of (drop j (bare rows)))) other ∙ sym (ap (λ (types : List TypeCount). ith left (map kind_of types)) at)

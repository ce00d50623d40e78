-- Rows that are the same, and tables of which nothing differs.
use Rattle.std.proofs.Common.{◌≡◌, ℕ, ℤ, ◌==◌, true, List, [], ◌∷◌, ◌++◌, length, Option, None, Some, refl, sym, subst, ap, ◌∙◌, bytes_eq}
use Rattle.std.specs.Prelude.{◌&&◌, slice_get}
use Rattle.std.specs.List.{filter}
use Rattle.std.specs.Ordering.{int_eq}
use Rattle.std.proofs.lemmas.Bool.{and_from, and_parts, cond-true, eq-eqb, eqb-true, false≢true}
use Rattle.std.proofs.lemmas.Bool.Decides.{Decides-int_eq}
use Rattle.std.proofs.lemmas.List.{append_assoc}
use Rattle.std.proofs.lemmas.List.Elements.{filter-append}
use Rattle.std.proofs.lemmas.Slice.Eq.{bytes_eq-Decides}
use Rattle.fork_bytes.specs.Rows.{Row}
use Rattle.fork_change.specs.declared.row.ResourceId.{ResourceId}
use Rattle.fork_change.specs.Rows.{id_of, is_at}
use Rattle.fork_change.specs.Differences.{Entry, added_in, against, changed_in, count_at, is_same, nth_at, only_new, rows_at, same_name}
use Rattle.fork_change.proofs.Told.{at_own}

-- the same parts are the same row
abbrev row_with : List ℕ → ℤ → Option (List ℕ) → ℕ → List ℕ → Row
row_with kind id name bits datum = record { kind = kind; id = id; name = name; attributes = record { 0 = bits }; datum = datum }

name_is : (name other : Option (List ℕ)) → same_name name other ≡ true → name ≡ other
name_is None None same = refl
name_is None (Some other) same = absurd (false≢true same)
name_is (Some name) None same = absurd (false≢true same)
name_is (Some name) (Some other) same = ap (λ (bytes : List ℕ). Some bytes) ((bytes_eq-Decides name other).0 same)

name_self : (name : Option (List ℕ)) → same_name name name ≡ true
name_self None = refl
name_self (Some name) = (bytes_eq-Decides name name).1 refl

-- what a row's type and id are, at which it is
pub id_is : (what : ResourceId) (row : Row) → is_at what row ≡ true → id_of row ≡ what
id_is what row at =
    let parts = and_parts (bytes_eq row.kind what.kind) (int_eq row.id what.id) at in
    let with : List ℕ → ℤ → ResourceId = λ kind id. record { kind = kind; id = id } in
    ap (λ (kind : List ℕ). with kind row.id) ((bytes_eq-Decides row.kind what.kind).0 parts.0) ∙ ap (with what.kind) ((Decides-int_eq row.id what.id).0 parts.1)

-- rows of one type and id that are the same in all else
pub row_is : (row other : Row) → is_at (id_of row) other ≡ true → is_same row other ≡ true → other ≡ row
row_is row other at same =
    let ids = and_parts (bytes_eq other.kind row.kind) (int_eq other.id row.id) at in
    let parts = and_parts (same_name row.name other.name) (row.attributes.0 == other.attributes.0 && bytes_eq row.datum other.datum) same in
    let rest = and_parts (row.attributes.0 == other.attributes.0) (bytes_eq row.datum other.datum) parts.1 in
    let kind = (bytes_eq-Decides other.kind row.kind).0 ids.0 in let id = (Decides-int_eq other.id row.id).0 ids.1 in
    let name = sym (name_is row.name other.name parts.0) in let bits = sym (eqb-true row.attributes.0 other.attributes.0 rest.0) in
    let datum = sym ((bytes_eq-Decides row.datum other.datum).0 rest.1) in
    ap (λ (x : List ℕ). row_with x other.id other.name other.attributes.0 other.datum) kind
    ∙ ap (λ (x : ℤ). row_with row.kind x other.name other.attributes.0 other.datum) id
    ∙ ap (λ (x : Option (List ℕ)). row_with row.kind row.id x other.attributes.0 other.datum) name
    ∙ ap (λ (x : ℕ). row_with row.kind row.id row.name x other.datum) bits
    ∙ ap (λ (x : List ℕ). row_with row.kind row.id row.name row.attributes.0 x) datum

pub same_self : (row : Row) → is_same row row ≡ true
same_self row =
    and_from (same_name row.name row.name) (row.attributes.0 == row.attributes.0 && bytes_eq row.datum row.datum) (name_self row.name)
    (and_from (row.attributes.0 == row.attributes.0) (bytes_eq row.datum row.datum) (eq-eqb row.attributes.0 row.attributes.0 refl) ((bytes_eq-Decides row.datum row.datum).1 refl))

-- rows are the same where their types, ids and all else are
pub row_from : (row other : Row) → is_at (id_of row) other ≡ true → is_same row other ≡ true → row ≡ other
row_from row other at same = sym (row_is row other at same)

pub at_from : (row other : Row) → row ≡ other → is_at (id_of row) other ≡ true
at_from row other same = let P : Row → Type 0 = λ r. is_at (id_of row) r ≡ true in subst P same (at_own row)

pub same_from : (row other : Row) → row ≡ other → is_same row other ≡ true
same_from row other same = let P : Row → Type 0 = λ r. is_same row r ≡ true in subst P same (same_self row)

-- the one after those before it
pub seam : {X : Type 0} (before : List X) (x : X) (rest : List X) → slice_get (before ++ x ∷ rest) (length before) ≡ Some x
seam [] x rest = refl
seam (first ∷ before) x rest = seam before x rest

-- a row is the n-th of its type and id after n of them
nth_own : (before : List Row) (row : Row) (rows : List Row) → nth_at (id_of row) (count_at (id_of row) before) (before ++ row ∷ rows) ≡ Some row
nth_own before row rows =
    let test = is_at (id_of row) in let n = count_at (id_of row) before in
    ap (λ (found : List Row). slice_get found n) (filter-append test before (row ∷ rows) ∙ ap (λ (found : List Row). filter test before ++ found) (cond-true (test row) (row ∷ filter test rows) (filter test rows) (at_own row)))
    ∙ seam (filter test before) row (filter test rows)

-- where each type and id has the same rows, nothing differs
pub none_changed : (first second before rows : List Row) → ((what : ResourceId) → rows_at what first ≡ rows_at what second) → first ≡ before ++ rows → changed_in second before rows ≡ []
none_changed first second before [] same is = refl
none_changed first second before (row ∷ rows) same is =
    let n = count_at (id_of row) before in
    let P : List Row → Type 0 = λ all. nth_at (id_of row) n all ≡ Some row in
    let here = ap (λ (found : List Row). slice_get found n) (sym (same (id_of row))) ∙ subst P (sym is) (nth_own before row rows) in
    ap (λ (found : Option Row). against n row found ++ changed_in second (before ++ row ∷ []) rows) here
    ∙ ap (λ (entries : List Entry). entries ++ changed_in second (before ++ row ∷ []) rows) (cond-true (is_same row row) [] (record { nth = n; old = Some row; new = Some row } ∷ []) (same_self row))
    ∙ none_changed first second (before ++ row ∷ []) rows same (is ∙ sym (append_assoc before (row ∷ []) rows))

pub none_added : (first second before rows : List Row) → ((what : ResourceId) → rows_at what first ≡ rows_at what second) → second ≡ before ++ rows → added_in first before rows ≡ []
none_added first second before [] same is = refl
none_added first second before (row ∷ rows) same is =
    let n = count_at (id_of row) before in
    let P : List Row → Type 0 = λ all. nth_at (id_of row) n all ≡ Some row in
    let here = ap (λ (found : List Row). slice_get found n) (same (id_of row)) ∙ subst P (sym is) (nth_own before row rows) in
    ap (λ (found : Option Row). only_new n row found ++ added_in first (before ++ row ∷ []) rows) here
    ∙ none_added first second (before ++ row ∷ []) rows same (is ∙ sym (append_assoc before (row ∷ []) rows))

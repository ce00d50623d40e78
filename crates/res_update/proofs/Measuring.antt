-- Whether a fork holds rows, by how many bytes they have.
use Rattle.std.proofs.Common.{◌≡◌, refl, sym, ap, ◌∙◌, arith, ℕ, zero, suc, ◌+◌, ◌*◌, ◌<◌, ◌≤◌, List, [], ◌∷◌, ◌++◌, length, drop, slice_get, Option, None, Some, IfSome, Bool, true, false, ◌&&◌, if◌then◌else◌, bytes_eq}
use Rattle.std.specs.Prelude.{nat_le}
use Rattle.std.specs.List.{AllByRecursion}
use Rattle.std.specs.Option.{option_map_or}
use Rattle.std.proofs.lemmas.Bool.{leb-true, le-leb}
use Rattle.std.proofs.lemmas.List.{length-append}
use Rattle.fork_bytes.specs.declared.layout.TypeCount.{TypeCount}
use Rattle.fork_bytes.specs.declared.table.Table.{Table}
use Rattle.fork_bytes.specs.Rows as forks
use Rattle.fork_bytes.specs.Fork.{max_fork, max_rows}
use Rattle.fork_bytes.specs.Written.{types_of, counted_before, types_text, names_offset, data_text, name_text, names_text, references_text, header_for, map_header_text, front_text, map_text, written, NamesFit}
use Rattle.fork_bytes.proofs.Lengths.{AreFour, length-written}
use Rattle.fork_bytes.proofs.Steps.{length-data}
use Rattle.fork_bytes.specs.declared.place.Place.{Place}
use Rattle.res_table.specs.declared.row.Row.{Row}
use Rattle.res_table.specs.Saved.{saved_row, bare, RowsFit}
use Rattle.res_table.proofs.Bare as bare
use Rattle.res_update.specs.Fitting.{rows_fit, names_fit}
use Rattle.res_update.specs.Drafts.{rows_with, fits_as_fork, HasKind}
use Rattle.res_update.proofs.Selecting.{drop_here}
use Rattle.res_update.proofs.Shaping.{same_types, same_count, same_offset, same_fit}

-- the bytes of a row and those after it
pub data_here : (f : ℕ → Row Place → List ℕ) (rows : List (Row Place)) (i : ℕ) (r : Row Place) → slice_get rows i ≡ Some r
    → length (data_text (rows_with f i (drop i rows))) ≡ 4 + length (f i r) + length (data_text (rows_with f (i + 1) (drop (i + 1) rows)))
data_here f rows i r is =
    ap (λ (rest : List (Row Place)). length (data_text (rows_with f i rest))) (drop_here rows i r is)
    ∙ length-data (saved_row (λ (_ : Place). f i r) r) (rows_with f (i + 1) (drop (i + 1) rows))

-- where nothing is read, the rows have ended
past_none : {X : Type 0} (xs : List X) (i : ℕ) → slice_get xs i ≡ None → length xs ≤ i
past_none [] i is = omega arith
past_none (x ∷ xs) zero is = absurd (cc is)
past_none (x ∷ xs) (suc i) is = let past = past_none xs i is in omega (arith, past)

-- the same where the row at the index, whichever it is, has so many bytes
pub data_told : (f : ℕ → Row Place → List ℕ) (rows : List (Row Place)) (i n : ℕ) → i < length rows → IfSome (slice_get rows i) (λ r. n ≡ length (f i r))
    → length (data_text (rows_with f i (drop i rows))) ≡ 4 + n + length (data_text (rows_with f (i + 1) (drop (i + 1) rows)))
data_told f rows i n within told = by (slice_get rows i) refl told
  where
    by : (found : Option (Row Place)) → slice_get rows i ≡ found → IfSome found (λ r. n ≡ length (f i r))
        → length (data_text (rows_with f i (drop i rows))) ≡ 4 + n + length (data_text (rows_with f (i + 1) (drop (i + 1) rows)))
    by None is told = absurd (let past = past_none rows i is in omega (arith, past, within))
    by (Some r) is told = data_here f rows i r is ∙ ap (λ (m : ℕ). 4 + m + length (data_text (rows_with f (i + 1) (drop (i + 1) rows)))) (sym told)

-- rows without bytes
abbrev none : ℕ → Row Place → List ℕ
none at r = []

bare_is : (at : ℕ) (rows : List (Row Place)) → rows_with none at rows ≡ bare rows
bare_is at [] = refl
bare_is at (r ∷ rows) = ap (λ (rest : List forks.Row). saved_row (λ (_ : Place). []) r ∷ rest) (bare_is (at + 1) rows)

-- names fit where the test says so
first : (a : Bool) → (a && true) ≡ true → a ≡ true
first true told = refl
first false told = told

never : (a : Bool) → (a && false) ≡ true → ⊥
never true told = cc told
never false told = cc told

names_told : (at : ℕ) (rows : List forks.Row) → names_fit at rows ≡ true → NamesFit at rows
names_told at [] told = tt
names_told at (r ∷ rows) told = by r.name (names_fit (at + length (name_text r.name)) rows) refl (names_told (at + length (name_text r.name)) rows) told
  where
    by : (name : Option (List ℕ)) (b : Bool) → names_fit (at + length (name_text r.name)) rows ≡ b
        → (names_fit (at + length (name_text r.name)) rows ≡ true → NamesFit (at + length (name_text r.name)) rows)
        → (option_map_or (λ (n : List ℕ). nat_le at 65534) name true && b) ≡ true → IfSome name (λ _. at ≤ 65534) × NamesFit (at + length (name_text r.name)) rows
    by None true is others told = (tt, others is)
    by None false is others told = absurd (cc told)
    by (Some name) true is others told = (leb-true at 65534 (first (nat_le at 65534) told), others is)
    by (Some name) false is others told = absurd (never (nat_le at 65534) told)

names_tell : (at : ℕ) (rows : List forks.Row) → NamesFit at rows → names_fit at rows ≡ true
names_tell at [] fit = refl
names_tell at (r ∷ rows) fit = by r.name fit.0 ∙ names_tell (at + length (name_text r.name)) rows fit.1
  where
    others : Bool
    others = names_fit (at + length (name_text r.name)) rows

    by : (name : Option (List ℕ)) → IfSome name (λ _. at ≤ 65534) → (option_map_or (λ (n : List ℕ). nat_le at 65534) name true && others) ≡ others
    by None low = refl
    by (Some name) low = ap (λ (b : Bool). b && others) (le-leb at 65534 low)

-- rows fit where the test of their table says so
fit_bare : (rows : List (Row Place)) → RowsFit rows → rows_fit (bare rows) ≡ true
fit_bare rows fit =
    let fits = fit (λ (_ : Place). []) [] 0 in
    ap (λ (b : Bool). b && (nat_le (names_offset (bare rows)) 65535 && names_fit 0 (bare rows))) (le-leb (length (bare rows)) max_rows fits.few_rows)
    ∙ ap (λ (b : Bool). b && names_fit 0 (bare rows)) (le-leb (names_offset (bare rows)) 65535 fits.lists)
    ∙ names_tell 0 (bare rows) fits.names

both : (a b c : Bool) → (a && (b && c)) ≡ true → (a ≡ true) × ((b ≡ true) × (c ≡ true))
both true true true told = (refl, (refl, refl))
both true true false told = absurd (cc told)
both true false c told = absurd (cc told)
both false b c told = absurd (cc told)

bare_fits : (rows : List (Row Place)) → rows_fit (bare rows) ≡ true → RowsFit rows
bare_fits rows told =
    let parts = both (nat_le (length (bare rows)) max_rows) (nat_le (names_offset (bare rows)) 65535) (names_fit 0 (bare rows)) told in
    let long = bare.length-saved (λ (_ : Place). []) rows in
    let few = leb-true (length (bare rows)) max_rows parts.0 in let low = leb-true (names_offset (bare rows)) 65535 parts.1.0 in
    bare.rows_fit rows (omega arith) (omega arith) (names_told 0 (bare rows) parts.1.1)

-- rows with any bytes fit as those without
same_rows_fit : (f : ℕ → Row Place → List ℕ) (rows : List (Row Place)) → rows_fit (rows_with f 0 rows) ≡ rows_fit (bare rows)
same_rows_fit f rows =
    ap (λ (n : ℕ). nat_le n max_rows && (nat_le (names_offset (rows_with f 0 rows)) 65535 && names_fit 0 (rows_with f 0 rows))) (same_count f 0 rows ∙ sym (same_count none 0 rows))
    ∙ ap (λ (n : ℕ). nat_le (length (rows_with none 0 rows)) max_rows && (nat_le n 65535 && names_fit 0 (rows_with f 0 rows))) (same_offset f none 0 rows)
    ∙ ap (λ (b : Bool). nat_le (length (rows_with none 0 rows)) max_rows && (nat_le (names_offset (rows_with none 0 rows)) 65535 && b)) (same_fit f none 0 0 rows)
    ∙ ap rows_fit (bare_is 0 rows)

pub rows_do_fit : (f : ℕ → Row Place → List ℕ) (rows : List (Row Place)) → RowsFit rows → rows_fit (rows_with f 0 rows) ≡ true
rows_do_fit f rows fit = same_rows_fit f rows ∙ fit_bare rows fit

pub rows_fit_not : (f : ℕ → Row Place → List ℕ) (rows : List (Row Place)) → ¬ RowsFit rows → rows_fit (rows_with f 0 rows) ≡ false
rows_fit_not f rows unfit = by (rows_fit (rows_with f 0 rows)) refl
  where
    by : (b : Bool) → rows_fit (rows_with f 0 rows) ≡ b → rows_fit (rows_with f 0 rows) ≡ false
    by false told = told
    by true told = absurd (unfit (bare_fits rows (sym (same_rows_fit f rows) ∙ told)))

-- the types of rows are as many as without their bytes
pub types_are : (f : ℕ → Row Place → List ℕ) (rows : List (Row Place)) → length (types_of (rows_with f 0 rows)) ≡ length (types_of (bare rows))
types_are f rows = ap (λ (types : List TypeCount). length types) (same_types f none 0 rows) ∙ ap (λ (rs : List forks.Row). length (types_of rs)) (bare_is 0 rows)

-- types of four bytes
four_counted : (kind : List ℕ) (types : List TypeCount) → length kind ≡ 4 → AreFour types → AreFour (counted_before kind 1 types)
four_counted kind [] four others = (four, tt)
four_counted kind (first ∷ types) four others = by (bytes_eq kind first.kind)
  where
    by : (b : Bool) → AreFour (if b then record { kind = kind; count = 1 + first.count } ∷ types else record { kind = kind; count = 1 } ∷ first ∷ types)
    by true = (four, others.1)
    by false = (four, others)

are_four : (f : ℕ → Row Place → List ℕ) (at : ℕ) (rows : List (Row Place)) → AllByRecursion HasKind rows → AreFour (types_of (rows_with f at rows))
are_four f at [] kinds = tt
are_four f at (r ∷ rows) kinds = four_counted r.resource.kind (types_of (rows_with f (at + 1) rows)) kinds.0 (are_four f (at + 1) rows kinds.1)

-- the table of rows with these bytes
abbrev pub table_of : (ℕ → Row Place → List ℕ) → List (Row Place) → List ℕ → ℕ → Table
table_of f rows extra marks = record { rows = rows_with f 0 rows; extra = extra; map_attributes = marks }

-- how many bytes its fork has
length-fork : (f : ℕ → Row Place → List ℕ) (rows : List (Row Place)) (extra : List ℕ) (marks : ℕ) → AllByRecursion HasKind rows
    → length (written (table_of f rows extra marks)) ≡ 16 + length extra + (30 + 8 * length (types_of (bare rows)) + 12 * length rows)
    + (length (data_text (rows_with f 0 rows)) + length (names_text (rows_with f 0 rows)))
length-fork f rows extra marks kinds =
    let whole = length-written (table_of f rows extra marks) (are_four f 0 rows kinds) in
    let types = types_are f rows in let count = same_count f 0 rows in omega arith

-- the data and the names are not all of it
pub length-over : (table : Table) → length (data_text table.rows) + length (names_text table.rows) ≤ length (written table)
length-over table =
    let rows = table.rows in
    let whole = length-append (front_text table) (data_text rows ++ map_text table) in
    let after = length-append (data_text rows) (map_text table) in
    let start = map_header_text (header_for rows) table.map_attributes (names_offset rows) in
    let map = length-append start (types_text rows ++ (references_text 0 0 rows ++ names_text rows)) in
    let types = length-append (types_text rows) (references_text 0 0 rows ++ names_text rows) in
    let lists = length-append (references_text 0 0 rows) (names_text rows) in omega arith

-- no fork holds rows that don't fit one
pub no_rows : (f : ℕ → Row Place → List ℕ) (rows : List (Row Place)) (extra : List ℕ) (marks : ℕ) → ¬ RowsFit rows → fits_as_fork (table_of f rows extra marks) ≡ false
no_rows f rows extra marks unfit = ap (λ (b : Bool). b && nat_le (length (written (table_of f rows extra marks))) max_fork) (rows_fit_not f rows unfit)

-- a fork holds rows that fit one by how many bytes it has
pub by_length : (f : ℕ → Row Place → List ℕ) (rows : List (Row Place)) (extra : List ℕ) (marks n : ℕ) → RowsFit rows → AllByRecursion HasKind rows
    → n ≡ 16 + length extra + (30 + 8 * length (types_of (bare rows)) + 12 * length rows) + (length (data_text (rows_with f 0 rows)) + length (names_text (rows_with f 0 rows)))
    → nat_le n max_fork ≡ fits_as_fork (table_of f rows extra marks)
by_length f rows extra marks n fit kinds is =
    ap (λ (m : ℕ). nat_le m max_fork) (is ∙ sym (length-fork f rows extra marks kinds))
    ∙ sym (ap (λ (b : Bool). b && nat_le (length (written (table_of f rows extra marks))) max_fork) (rows_do_fit f rows fit))

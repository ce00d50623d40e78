-- One row more: where it is, how many types there are then, and whether all names fit.
use Rattle.std.proofs.Common.{◌≡◌, refl, sym, ap, ◌∙◌, arith, ℕ, zero, suc, ◌+◌, ◌-◌, ◌*◌, ◌<◌, ◌≤◌, List, [], ◌∷◌, ◌++◌, length, take, drop, slice_get, filter, Bool, true, false, not, cond, bytes_eq, Option, None, Some}
use Rattle.std.specs.Prelude.{if◌then◌else◌, ◌||◌, ◌&&◌, nat_le}
use Rattle.std.specs.List.{list_any}
use Rattle.std.specs.Option.{option_map_or, is_some}
use Rattle.std.proofs.lemmas.Bool.{le-leb, leb-true}
use Rattle.std.proofs.lemmas.Slice.Eq.{bytes_eq-Decides}
use Rattle.std.proofs.lemmas.Option.{same_Some}
use Rattle.std.proofs.lemmas.List.Sums.{sum_by-cons, sum_by-insert}
use Rattle.std.proofs.lemmas.List.{length-map, length-drop, take_all, append-nil}
use Rattle.fork_bytes.specs.Fork.{max_rows}
use Rattle.fork_bytes.specs.Written.{counted_before, name_text, names_offset}
use Rattle.fork_bytes.specs.declared.place.Place.{Place}
use Rattle.mac_base.specs.declared.resource.Resource.{Resource}
use Rattle.res_table.specs.declared.row.Row.{Row}
use Rattle.res_table.specs.Rows.{is_of_type, added, name_size, names_size, ith, indexes_from, index_of_ith, count_of_type}
use Rattle.res_table.specs.After.{end_of_type}
use Rattle.res_table.specs.Saved.{bare, saved_row, row_types}
use Rattle.res_table.proofs.Adding.{up_to_last, last-is, insert-at-end}
use Rattle.res_table.proofs.Types.{first_kind, one_before}
use Rattle.res_update.specs.Fitting.{rows_fit, names_fit}
use Rattle.res_files.proofs.Mapped.{mapped_row, mapped_rows, bare-mapped, added-mapped}
use Rattle.res_files.proofs.Stands.{long_added}

-- no row of a type is counted where there is none
pub none_counted : {D : Type 0} (kind : List ℕ) (rows : List (Row D)) → list_any (is_of_type kind) rows ≡ false → count_of_type kind rows ≡ 0
none_counted kind [] none = refl
none_counted {D} kind (r ∷ rows) none = by (is_of_type kind r) none (none_counted kind rows)
  where
    by : (b : Bool) → (b || list_any (is_of_type kind) rows) ≡ false → (list_any (is_of_type kind) rows ≡ false → count_of_type kind rows ≡ 0)
        → length (cond b (r ∷ filter (is_of_type kind) rows) (filter (is_of_type kind) rows)) ≡ 0
    by true is deeper = absurd (cc is)
    by false is deeper = deeper is

-- some are where there are some
pub some_counted : {D : Type 0} (kind : List ℕ) (rows : List (Row D)) → list_any (is_of_type kind) rows ≡ true → 1 ≤ count_of_type kind rows
some_counted kind [] some = absurd (cc some)
some_counted {D} kind (r ∷ rows) some = by (is_of_type kind r) some (some_counted kind rows)
  where
    by : (b : Bool) → (b || list_any (is_of_type kind) rows) ≡ true → (list_any (is_of_type kind) rows ≡ true → 1 ≤ count_of_type kind rows)
        → 1 ≤ length (cond b (r ∷ filter (is_of_type kind) rows) (filter (is_of_type kind) rows))
    by true is deeper = omega arith
    by false is deeper = deeper is

-- the last of a type is that of its count
last_found : {D : Type 0} (kind : List ℕ) (at : ℕ) (rows : List (Row D)) → list_any (is_of_type kind) rows ≡ true
    → (k : ℕ) × (ith (count_of_type kind rows) (indexes_from at (is_of_type kind) rows) ≡ Some k) × (k + 1 ≡ at + up_to_last kind rows)
last_found kind at [] some = absurd (cc some)
last_found {D} kind at (r ∷ rows) some = by (is_of_type kind r) (list_any (is_of_type kind) rows) refl some (last_found kind (at + 1) rows)
  where
    after : (n : ℕ) (k : ℕ) (xs : List ℕ) → ith n xs ≡ Some k → slice_get (at ∷ xs) n ≡ Some k
    after zero k xs is = absurd (cc is)
    after (suc n) k xs is = is

    by : (mine others : Bool) → list_any (is_of_type kind) rows ≡ others → (mine || others) ≡ true
        → (list_any (is_of_type kind) rows ≡ true → (k : ℕ) × (ith (count_of_type kind rows) (indexes_from (at + 1) (is_of_type kind) rows) ≡ Some k) × (k + 1 ≡ (at + 1) + up_to_last kind rows))
        → (k : ℕ) × (ith (length (cond mine (r ∷ filter (is_of_type kind) rows) (filter (is_of_type kind) rows)))
        (if mine then at ∷ indexes_from (at + 1) (is_of_type kind) rows else indexes_from (at + 1) (is_of_type kind) rows) ≡ Some k)
        × (k + 1 ≡ at + (if others then suc (up_to_last kind rows) else 1))
    by true true more is later =
        let deeper = later more in let same = deeper.2 in
        (deeper.0, after (count_of_type kind rows) deeper.0 (indexes_from (at + 1) (is_of_type kind) rows) deeper.1, omega (arith, same))
    by false true more is later = let deeper = later more in let same = deeper.2 in (deeper.0, deeper.1, omega (arith, same))
    by true false more is later = (at, ap (slice_get (at ∷ indexes_from (at + 1) (is_of_type kind) rows)) (none_counted kind rows more), refl)
    by false false more is later = absurd (cc is)

-- after it a new row belongs
pub end_after : {D : Type 0} (kind : List ℕ) (rows : List (Row D)) (last : ℕ) → index_of_ith kind (count_of_type kind rows) rows ≡ Some last → last + 1 ≡ end_of_type kind rows
end_after {D} kind rows last is = by (list_any (is_of_type kind) rows) refl ∙ sym (last-is kind (length rows) 0 rows)
  where
    by : (some : Bool) → list_any (is_of_type kind) rows ≡ some → last + 1 ≡ (if some then 0 + up_to_last kind rows else length rows)
    by true more =
        let found = last_found kind 0 rows more in let same = found.2 in
        let alike : Some last ≡ Some found.0 = sym is ∙ found.1 in
        ap (λ (o : Option ℕ). option_map_or (λ k. k + 1) o 0) alike ∙ same
    by false none = let other = ap (λ (n : ℕ). ith n (indexes_from 0 (is_of_type kind) rows)) (none_counted kind rows none) in absurd (cc (sym is ∙ other))

-- last, where there is none
pub end_last : {D : Type 0} (kind : List ℕ) (rows : List (Row D)) → index_of_ith kind (count_of_type kind rows) rows ≡ None → length rows ≡ end_of_type kind rows
end_last {D} kind rows is = by (list_any (is_of_type kind) rows) refl ∙ sym (last-is kind (length rows) 0 rows)
  where
    by : (some : Bool) → list_any (is_of_type kind) rows ≡ some → length rows ≡ (if some then 0 + up_to_last kind rows else length rows)
    by true more = let found = last_found kind 0 rows more in absurd (cc (sym is ∙ found.1))
    by false none = refl

-- whether rows go on with a type
abbrev goes_on : {D : Type 0} → List ℕ → List (Row D) → Bool
goes_on kind [] = false
goes_on kind (r ∷ rows) = bytes_eq kind r.resource.kind

-- how many runs of one type rows have
abbrev runs : {D : Type 0} → List (Row D) → ℕ
runs [] = 0
runs (r ∷ rows) = if goes_on r.resource.kind rows then runs rows else suc (runs rows)

-- that many types are counted
types-runs : {D : Type 0} (rows : List (Row D)) → length (row_types rows) ≡ runs rows
types-runs [] = refl
types-runs {D} (r ∷ rows) = by rows (types-runs rows)
  where
    by : (rest : List (Row D)) → length (row_types rest) ≡ runs rest → length (counted_before r.resource.kind 1 (row_types rest)) ≡ (if goes_on r.resource.kind rest then runs rest else suc (runs rest))
    by [] deeper = refl
    by (x ∷ rest) deeper =
        one_before r.resource.kind 1 (row_types (x ∷ rest))
        ∙ ap (λ b. if b then length (row_types (x ∷ rest)) else suc (length (row_types (x ∷ rest)))) (first_kind r.resource.kind x.resource.kind 1 (row_types rest))
        ∙ ap (λ (n : ℕ). if bytes_eq r.resource.kind x.resource.kind then n else suc n) deeper

-- a new row goes on with the same type as the rows, where there are any
goes_on-added : {D : Type 0} (kind : List ℕ) (new r : Row D) (rows : List (Row D)) → goes_on kind (added new (r ∷ rows)) ≡ bytes_eq kind r.resource.kind
goes_on-added {D} kind new r rows = by (is_of_type new.resource.kind r && not (list_any (is_of_type new.resource.kind) rows))
  where
    by : (b : Bool) → goes_on kind (if b then r ∷ new ∷ rows else r ∷ added new rows) ≡ bytes_eq kind r.resource.kind
    by true = refl
    by false = refl

-- the rows have as many runs with one more of a type that they have, and else one more
runs-added : {D : Type 0} (new : Row D) (rows : List (Row D)) → runs (added new rows) ≡ (if list_any (is_of_type new.resource.kind) rows then runs rows else suc (runs rows))
runs-added new [] = refl
runs-added {D} new (r ∷ rows) = by (is_of_type new.resource.kind r) (list_any (is_of_type new.resource.kind) rows) refl refl (runs-added new rows)
  where
    still : (kind : List ℕ) (rest : List (Row D)) → list_any (is_of_type new.resource.kind) rest ≡ true → goes_on kind (added new rest) ≡ goes_on kind rest
    still kind [] some = absurd (cc some)
    still kind (x ∷ rest) some = goes_on-added kind new x rest

    ended : (kind : List ℕ) (rest : List (Row D)) → bytes_eq kind new.resource.kind ≡ false → goes_on kind (added new rest) ≡ goes_on kind rest
    ended kind [] other = other
    ended kind (x ∷ rest) other = goes_on-added kind new x rest

    apart : (rest : List (Row D)) → list_any (is_of_type new.resource.kind) rest ≡ false → goes_on new.resource.kind rest ≡ false
    apart [] none = refl
    apart (x ∷ rest) none = pick (bytes_eq new.resource.kind x.resource.kind) refl
      where
        first : (b : Bool) → (b || list_any (is_of_type new.resource.kind) rest) ≡ false → b ≡ false
        first true is = absurd (cc is)
        first false is = refl

        pick : (b : Bool) → bytes_eq new.resource.kind x.resource.kind ≡ b → b ≡ false
        pick false is = refl
        pick true is =
            let back = (bytes_eq-Decides x.resource.kind new.resource.kind).1 (sym ((bytes_eq-Decides new.resource.kind x.resource.kind).0 is)) in
            let other = first (is_of_type new.resource.kind x) none in
            absurd (cc (back, other))

    by : (mine others : Bool) → is_of_type new.resource.kind r ≡ mine → list_any (is_of_type new.resource.kind) rows ≡ others → runs (added new rows) ≡ (if others then runs rows else suc (runs rows))
        → runs (if mine && not others then r ∷ new ∷ rows else r ∷ added new rows) ≡ (if mine || others then (if goes_on r.resource.kind rows then runs rows else suc (runs rows)) else suc (if goes_on r.resource.kind rows then runs rows else suc (runs rows)))
    by true true same some deeper =
        ap (λ b. if b then runs (added new rows) else suc (runs (added new rows))) (still r.resource.kind rows some) ∙ ap (λ (n : ℕ). if goes_on r.resource.kind rows then n else suc n) deeper
    by false true same some deeper =
        ap (λ b. if b then runs (added new rows) else suc (runs (added new rows))) (still r.resource.kind rows some) ∙ ap (λ (n : ℕ). if goes_on r.resource.kind rows then n else suc n) deeper
    by true false same none deeper =
        let alike = (bytes_eq-Decides r.resource.kind new.resource.kind).0 same in
        let end = apart rows none in
        ap (λ b. if b then runs (new ∷ rows) else suc (runs (new ∷ rows))) same ∙ ap (λ b. if b then runs rows else suc (runs rows)) end
        ∙ sym (ap (λ (kind : List ℕ). if goes_on kind rows then runs rows else suc (runs rows)) alike ∙ ap (λ b. if b then runs rows else suc (runs rows)) end)
    by false false same none deeper =
        ap (λ b. if b then runs (added new rows) else suc (runs (added new rows))) (ended r.resource.kind rows same) ∙ ap (λ (n : ℕ). if goes_on r.resource.kind rows then n else suc n) deeper
        ∙ pick (goes_on r.resource.kind rows)
      where
        pick : (b : Bool) → (if b then suc (runs rows) else suc (suc (runs rows))) ≡ suc (if b then runs rows else suc (runs rows))
        pick true = refl
        pick false = refl

-- how many types there are with one row more
types_counted : {D : Type 0} (new : Row D) (rows : List (Row D)) (some : Bool) → list_any (is_of_type new.resource.kind) rows ≡ some
    → length (row_types (added new rows)) ≡ (if some then length (row_types rows) else suc (length (row_types rows)))
types_counted new rows some is =
    types-runs (added new rows) ∙ runs-added new rows ∙ ap (λ b. if b then runs rows else suc (runs rows)) is ∙ ap (λ (n : ℕ). if some then n else suc n) (sym (types-runs rows))

pub one_type_more : {D : Type 0} (kind : List ℕ) (new : Row D) (rows : List (Row D)) → new.resource.kind ≡ kind → count_of_type kind rows ≡ 0 → length (row_types rows) + 1 ≡ length (row_types (added new rows))
one_type_more {D} kind new rows mine none = by (list_any (is_of_type new.resource.kind) rows) refl
  where
    by : (some : Bool) → list_any (is_of_type new.resource.kind) rows ≡ some → length (row_types rows) + 1 ≡ length (row_types (added new rows))
    by true is =
        let more = some_counted new.resource.kind rows is in
        let zero_too : count_of_type new.resource.kind rows ≡ 0 = ap (λ (k : List ℕ). count_of_type k rows) mine ∙ none in absurd (omega (arith, more, zero_too))
    by false is = let counted = types_counted new rows false is in omega (arith, counted)

pub same_types : {D : Type 0} (kind : List ℕ) (new : Row D) (rows : List (Row D)) → new.resource.kind ≡ kind → (count_of_type kind rows ≡ 0 → ⊥) → length (row_types rows) ≡ length (row_types (added new rows))
same_types {D} kind new rows mine some = by (list_any (is_of_type new.resource.kind) rows) refl
  where
    by : (b : Bool) → list_any (is_of_type new.resource.kind) rows ≡ b → length (row_types rows) ≡ length (row_types (added new rows))
    by true is = sym (types_counted new rows true is)
    by false is = absurd (some (sym (ap (λ (k : List ℕ). count_of_type k rows) mine) ∙ none_counted new.resource.kind rows is))

-- the first of the rows between two indexes
pub next_row : (rows : List (Row Place)) (at to : ℕ) (r : Row Place) (rest : List (Resource (List ℕ))) → slice_get rows at ≡ Some r → at < to
    → bare (take (to - at) (drop at rows)) ++ rest ≡ saved_row (λ _. []) r ∷ (bare (take (to - (at + 1)) (drop (at + 1) rows)) ++ rest)
next_row rows at to r rest is before =
    ap (λ (n : ℕ). bare (take n (drop at rows)) ++ rest) (let e : to - at ≡ suc (to - (at + 1)) = omega (arith, before) in e)
    ∙ ap (λ (xs : List (Row Place)). bare (take (suc (to - (at + 1))) xs) ++ rest) (here rows at is)
    ∙ ap (λ (n : ℕ). saved_row (λ _. []) r ∷ (bare (take (to - (at + 1)) (drop n rows)) ++ rest)) (let e : suc at ≡ at + 1 = omega arith in e)
  where
    here : (rows : List (Row Place)) (at : ℕ) → slice_get rows at ≡ Some r → drop at rows ≡ r ∷ drop (suc at) rows
    here [] at is = absurd (cc is)
    here (x ∷ xs) zero is = ap (λ y. y ∷ xs) (same_Some x r is)
    here (x ∷ xs) (suc at) is = here xs at is

-- the names of all rows from an index on fit
pub names_told : (rows : List (Row Place)) (at count next : ℕ) (found : Option ℕ) → count ≡ length rows
    → ((rest : List (Resource (List ℕ))) → names_fit next (bare (take (count - at) (drop at rows)) ++ rest) ≡ option_map_or (λ end. names_fit end rest) found false)
    → is_some found ≡ names_fit next (bare (drop at rows))
names_told rows at count next found all told =
    let long = length-drop at rows in
    by found ∙ sym (told []) ∙ ap (names_fit next) (append-nil (bare (take (count - at) (drop at rows))) ∙ ap (λ (xs : List (Row Place)). bare xs) (take_all (count - at) (drop at rows) (omega (arith, long, all))))
  where
    by : (found : Option ℕ) → is_some found ≡ option_map_or (λ end. names_fit end []) found false
    by None = refl
    by (Some end) = refl

-- a row alone fits
pub alone_fits : (new : Row Place) → true ≡ rows_fit (bare (added new []))
alone_fits new = by new.resource.name
  where
    by : (name : Option (List ℕ)) → true ≡ (option_map_or (λ _. nat_le 0 65534) name true && true)
    by None = refl
    by (Some name) = refl

-- a row more, among the rows as they are saved
pub bare_added : (new : Row Place) (rows : List (Row Place)) → bare (added new rows) ≡ bare (take (end_of_type new.resource.kind rows) rows) ++ saved_row (λ _. []) new ∷ bare (drop (end_of_type new.resource.kind rows) rows)
bare_added new rows = ap (λ (all : List (Row Place)). bare all) (sym (insert-at-end new rows)) ∙ by (end_of_type new.resource.kind rows) rows
  where
    by : (at : ℕ) (xs : List (Row Place)) → bare (take at xs ++ new ∷ drop at xs) ≡ bare (take at xs) ++ saved_row (λ _. []) new ∷ bare (drop at xs)
    by zero xs = refl
    by (suc at) [] = refl
    by (suc at) (x ∷ xs) = ap (λ (all : List (Resource (List ℕ))). saved_row (λ _. []) x ∷ all) (by at xs)

-- the parts of the test of rows with one more
long_bare : (new : Row Place) (rows : List (Row Place)) → length (bare (added new rows)) ≡ suc (length rows)
long_bare new rows = length-map (added new rows) (saved_row (λ (_ : Place). [])) ∙ long_added new rows

pub fit_parts : (new : Row Place) (rows : List (Row Place)) → length rows < max_rows → 42 + 8 * length (row_types (added new rows)) + 12 * length rows ≤ 65535
    → names_fit 0 (bare (added new rows)) ≡ rows_fit (bare (added new rows))
fit_parts new rows few low =
    let long = long_bare new rows in
    let few_now : length (bare (added new rows)) ≤ max_rows = omega (arith, long, few) in
    let low_now : names_offset (bare (added new rows)) ≤ 65535 = omega (arith, long, low) in
    sym (ap (λ b. b && (nat_le (names_offset (bare (added new rows))) 65535 && names_fit 0 (bare (added new rows)))) (le-leb (length (bare (added new rows))) max_rows few_now)
    ∙ ap (λ b. b && names_fit 0 (bare (added new rows))) (le-leb (names_offset (bare (added new rows))) 65535 low_now))

-- names that take few bytes fit
few_names : (at : ℕ) (rows : List (Row Place)) → at + names_size rows ≤ 65535 → names_fit at (bare rows) ≡ true
few_names at [] few = refl
few_names at (r ∷ rows) few =
    let size = sum_by-cons name_size r rows in
    by r.resource.name (omega (arith, size, few)) (few_names (at + name_size r) rows (omega (arith, size, few)))
  where
    by : (name : Option (List ℕ)) → at + length (name_text name) ≤ 65535 → names_fit (at + length (name_text name)) (bare rows) ≡ true
        → (option_map_or (λ _. nat_le at 65534) name true && names_fit (at + length (name_text name)) (bare rows)) ≡ true
    by None low others = others
    by (Some name) low others = ap (λ b. b && names_fit (at + suc (length name)) (bare rows)) (le-leb at 65534 (omega (arith, low))) ∙ others

-- and so do they with one more, wherever that is
pub few_with : (new : Row Place) (rows : List (Row Place)) (name : Option (List ℕ)) → new.resource.name ≡ name → names_size rows + length (name_text name) ≤ 65535
    → names_fit 0 (bare (added new rows)) ≡ true
few_with new rows name named few =
    let all : names_size (added new rows) ≡ names_size rows + name_size new =
    ap (λ (rs : List (Row Place)). names_size rs) (sym (insert-at-end new rows)) ∙ sum_by-insert name_size rows (end_of_type new.resource.kind rows) new in
    let one : name_size new ≡ length (name_text name) = ap (λ (n : Option (List ℕ)). length (name_text n)) named in
    few_names 0 (added new rows) (omega (arith, all, one, few))

not_le : (a b : ℕ) → b < a → nat_le a b ≡ false
not_le a b less = by (nat_le a b) refl
  where
    by : (c : Bool) → nat_le a b ≡ c → c ≡ false
    by false is = refl
    by true is = absurd (omega (arith, less, leb-true a b is))

pub too_many : (new : Row Place) (rows : List (Row Place)) → max_rows ≤ length rows → false ≡ rows_fit (bare (added new rows))
too_many new rows many =
    let long = long_bare new rows in
    sym (ap (λ b. b && (nat_le (names_offset (bare (added new rows))) 65535 && names_fit 0 (bare (added new rows)))) (not_le (length (bare (added new rows))) max_rows (omega (arith, long, many))))

pub too_long : (new : Row Place) (rows : List (Row Place)) → 65535 < 42 + 8 * length (row_types (added new rows)) + 12 * length rows → false ≡ rows_fit (bare (added new rows))
too_long new rows high =
    let long = long_bare new rows in
    sym (ap (λ b. nat_le (length (bare (added new rows))) max_rows && (b && names_fit 0 (bare (added new rows)))) (not_le (names_offset (bare (added new rows))) 65535 (omega (arith, long, high))) ∙ by (nat_le (length (bare (added new rows))) max_rows))
  where
    by : (b : Bool) → (b && false) ≡ false
    by true = refl
    by false = refl

-- no bytes in the place of a datum
abbrev bare_of : (X : Type 0) → X → List ℕ
bare_of X x = []

-- it is the same of rows with other data
pub same_room : {D E : Type 0} (g : E → D) (d : E) (new : Row D) (rows : List (Row E))
    → bare (added new (mapped_rows g rows)) ≡ bare (added (record { resource = record { kind = new.resource.kind; id = new.resource.id; name = new.resource.name; attributes = new.resource.attributes; datum = d }; handle = new.handle }) rows)
same_room {D} {E} g d new rows =
    let other : Row E = record { resource = record { kind = new.resource.kind; id = new.resource.id; name = new.resource.name; attributes = new.resource.attributes; datum = d }; handle = new.handle } in
    sym (bare-mapped (bare_of D) (added new (mapped_rows g rows)))
    ∙ ap (λ (all : List (Row (List ℕ))). bare all) (sym (added-mapped (bare_of D) new (mapped_rows g rows)))
    ∙ ap (λ (all : List (Row (List ℕ))). bare (added (mapped_row (bare_of D) new) all)) (twice rows)
    ∙ ap (λ (all : List (Row (List ℕ))). bare all) (added-mapped (bare_of E) other rows)
    ∙ bare-mapped (bare_of E) (added other rows)
  where
    twice : (xs : List (Row E)) → mapped_rows (bare_of D) (mapped_rows g xs) ≡ mapped_rows (bare_of E) xs
    twice [] = refl
    twice (x ∷ xs) = ap (λ (all : List (Row (List ℕ))). mapped_row (bare_of E) x ∷ all) (twice xs)

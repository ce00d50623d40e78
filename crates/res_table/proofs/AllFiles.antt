-- All open files: how many resources and types they have, and where the i-th one is.
use Rattle.std.proofs.Common.{◌≡◌, refl, sym, ap, ◌∙◌, arith, ℕ, zero, suc, ◌+◌, ◌-◌, ◌<◌, ◌≤◌, pos, List, [], ◌∷◌, ◌++◌, length, get_or, take, drop, filter, slice_get, Bool, true, false, not, cond, ◌||◌, ◌≢◌, Option, Some, None, append_assoc, if◌then◌else◌}
use Rattle.std.specs.Prelude.{nat_le, is_some}
use Rattle.std.specs.List.{list_any}
use Rattle.std.specs.Option.{option_map, option_map_or, option_and_then}
use Rattle.std.proofs.lemmas.Bool.{leb-true, leb-false, le-leb, lt-leb}
use Rattle.std.proofs.lemmas.List.{append-nil, at_drop_more, take_more, length-append, length-map}
use Rattle.std.proofs.lemmas.List.Elements.{filter-append}
use Rattle.std.proofs.lemmas.List.Folds.{list_any-append}
use Rattle.res_table.specs.declared.row.Row.{Row}
use Rattle.res_table.specs.declared.chain.OpenFile.{OpenFile}
use Rattle.res_table.specs.declared.chain.RowPlace.{RowPlace}
use Rattle.res_table.specs.Rows.{is_of_type, is_resource, count_of_type, index_of_ith, indexes_from, ith, unique_id, largest_id, AreTaken, IsFree}
use Rattle.res_table.specs.Saved.{row_types}
use Rattle.res_table.specs.Indexed.{kinds_of}
use Rattle.res_table.specs.AllFiles.{all_rows, ith_place, has_type, types_in, new_types, all_types, free_in_all}
use Rattle.res_table.proofs.FreeIds.{unique_is, none_unique}
use Rattle.res_table.proofs.RowKinds.{as_many}
use Rattle.res_table.proofs.RunTypes.{few_changes}
use Rattle.res_table.proofs.Types.{types_are}

-- how many of a type rows have together
pub counts_add : {D : Type 0} (kind : List ℕ) (xs ys : List (Row D)) → count_of_type kind (xs ++ ys) ≡ count_of_type kind xs + count_of_type kind ys
counts_add kind xs ys = ap (λ (rs : List (Row _)). length rs) (filter-append (is_of_type kind) xs ys) ∙ length-append (filter (is_of_type kind) xs) (filter (is_of_type kind) ys)

-- not more pass than there are
pub filter_few : {X : Type 0} (test : X → Bool) (xs : List X) → length (filter test xs) ≤ length xs
filter_few test [] = omega arith
filter_few test (x ∷ xs) = by (test x) (filter_few test xs)
  where
    by : (b : Bool) → length (filter test xs) ≤ length xs → length (cond b (x ∷ filter test xs) (filter test xs)) ≤ suc (length xs)
    by true deeper = omega arith
    by false deeper = omega arith

-- the first of the files that are left, before the later ones
pub counts_here : {D : Type 0} (kind : List ℕ) (files : List (OpenFile D)) (i : ℕ) (d : OpenFile D) → i < length files
    → count_of_type kind (all_rows (drop i files)) ≡ count_of_type kind (all_rows (drop (i + 1) files)) + count_of_type kind (get_or files i d).table.rows
counts_here kind files i d within =
    at_drop_more (λ fs. count_of_type kind (all_rows fs)) files i d within ∙ counts_add kind (all_rows (drop (i + 1) files)) (get_or files i d).table.rows

-- the last of some files, after the others
counts_last : {D : Type 0} (kind : List ℕ) (files : List (OpenFile D)) (f : OpenFile D) → count_of_type kind (all_rows (files ++ f ∷ [])) ≡ count_of_type kind (all_rows files) + count_of_type kind f.table.rows
counts_last kind [] f = omega arith
counts_last kind (g ∷ files) f =
    let here = counts_add kind (all_rows (files ++ f ∷ [])) g.table.rows in let there = counts_add kind (all_rows files) g.table.rows in
    let deeper = counts_last kind files f in omega arith

any_last : {D : Type 0} (test : Row D → Bool) (files : List (OpenFile D)) (f : OpenFile D) → list_any test (all_rows (files ++ f ∷ [])) ≡ (list_any test f.table.rows || list_any test (all_rows files))
any_last test [] f = or_none (list_any test f.table.rows)
  where
    or_none : (b : Bool) → b ≡ (b || false)
    or_none true = refl
    or_none false = refl
any_last test (g ∷ files) f =
    list_any-append test (all_rows (files ++ f ∷ [])) g.table.rows ∙ ap (λ (b : Bool). b || list_any test g.table.rows) (any_last test files f)
    ∙ or_or (list_any test f.table.rows) (list_any test (all_rows files)) (list_any test g.table.rows)
    ∙ ap (λ (b : Bool). list_any test f.table.rows || b) (sym (list_any-append test (all_rows files) g.table.rows))
  where
    or_or : (a b c : Bool) → ((a || b) || c) ≡ (a || (b || c))
    or_or true b c = refl
    or_or false b c = refl

-- one more file, of which no row passes
pub none_more : {D : Type 0} (test : Row D → Bool) (files : List (OpenFile D)) (i : ℕ) (f : OpenFile D) → i < length files → f ≡ get_or files i f → list_any test f.table.rows ≡ false
    → list_any test (all_rows (take i files)) ≡ false → list_any test (all_rows (take (i + 1) files)) ≡ false
none_more test files i f within is here before =
    ap (λ (fs : List (OpenFile _)). list_any test (all_rows fs)) (take_more files i f within) ∙ ap (λ (g : OpenFile _). list_any test (all_rows (take i files ++ g ∷ []))) (sym is)
    ∙ any_last test (take i files) f ∙ ap (λ (b : Bool). b || list_any test (all_rows (take i files))) here ∙ before

-- a row of one file is one of all
pub any_of_all : {D : Type 0} (test : Row D → Bool) (files : List (OpenFile D)) (i : ℕ) (d : OpenFile D) → i < length files → list_any test (get_or files i d).table.rows ≡ true → list_any test (all_rows files) ≡ true
any_of_all test [] i d within any = absurd (omega arith)
any_of_all test (g ∷ files) zero d within any = list_any-append test (all_rows files) g.table.rows ∙ ap (λ (b : Bool). list_any test (all_rows files) || b) any ∙ or_true (list_any test (all_rows files))
  where
    or_true : (b : Bool) → (b || true) ≡ true
    or_true true = refl
    or_true false = refl
any_of_all test (g ∷ files) (suc i) d within any = list_any-append test (all_rows files) g.table.rows ∙ ap (λ (b : Bool). b || list_any test g.table.rows) (any_of_all test files i d (omega arith) any)

-- no row is after the last of a type
as_many_indexes : {D : Type 0} (kind : List ℕ) (at : ℕ) (rows : List (Row D)) → length (indexes_from at (is_of_type kind) rows) ≡ count_of_type kind rows
as_many_indexes kind at [] = refl
as_many_indexes kind at (r ∷ rows) = by (is_of_type kind r) (as_many_indexes kind (at + 1) rows)
  where
    by : (b : Bool) → length (indexes_from (at + 1) (is_of_type kind) rows) ≡ count_of_type kind rows
        → length (if b then at ∷ indexes_from (at + 1) (is_of_type kind) rows else indexes_from (at + 1) (is_of_type kind) rows) ≡ length (cond b (r ∷ filter (is_of_type kind) rows) (filter (is_of_type kind) rows))
    by true deeper = ap suc deeper
    by false deeper = deeper

pub past_last : {X : Type 0} (i : ℕ) (xs : List X) → length xs < i → ith i xs ≡ None
past_last zero xs past = refl
past_last (suc i) [] past = refl
past_last (suc zero) (x ∷ xs) past = absurd (omega arith)
past_last (suc (suc i)) (x ∷ xs) past = past_last (suc i) xs (omega arith)

none_after_last : {D : Type 0} (kind : List ℕ) (i : ℕ) (rows : List (Row D)) → count_of_type kind rows < i → index_of_ith kind i rows ≡ None
none_after_last kind i rows past = let many = as_many_indexes kind 0 rows in past_last i (indexes_from 0 (is_of_type kind) rows) (omega arith)

-- where the i-th is in a file, if it has so many
abbrev pub place_here : {D : Type 0} → List ℕ → ℕ → OpenFile D → Option RowPlace
place_here kind i f = option_map (λ at. record { file = f.number; index = at }) (index_of_ith kind i f.table.rows)

-- one file later than the others is looked at first
pub ith_later : {D : Type 0} (kind : List ℕ) (i : ℕ) (files : List (OpenFile D)) (f : OpenFile D)
    → ith_place kind i (files ++ f ∷ []) ≡ (if nat_le i (count_of_type kind f.table.rows) then place_here kind i f else ith_place kind (i - count_of_type kind f.table.rows) files)
ith_later {D} kind i [] f = by i (nat_le i (count_of_type kind f.table.rows)) refl
  where
    some : (i : ℕ) → (if nat_le (suc i) 0 then None else place_here kind (suc i - 0) f) ≡ place_here kind (suc i - 0) f
    some i = ap (λ (b : Bool). if b then None else place_here kind (suc i - 0) f) (lt-leb (suc i) 0 (omega arith))

    by : (i : ℕ) (b : Bool) → nat_le i (count_of_type kind f.table.rows) ≡ b → (if nat_le i 0 then None else place_here kind (i - 0) f) ≡ (if b then place_here kind i f else None)
    by zero true is = refl
    by zero false is = refl
    by (suc i) true is = let same : suc i - 0 ≡ suc i = omega arith in some i ∙ ap (λ (n : ℕ). place_here kind n f) same
    by (suc i) false is =
        let same : suc i - 0 ≡ suc i = omega arith in
        some i ∙ ap (λ (n : ℕ). place_here kind n f) same ∙ ap (option_map (λ at. let place : RowPlace = record { file = f.number; index = at } in place)) (none_after_last kind (suc i) f.table.rows (leb-false (suc i) _ is))
ith_later {D} kind i (g ∷ files) f =
    ap (λ (n : ℕ). if nat_le i n then ith_place kind i (files ++ f ∷ []) else place_here kind (i - n) g) many
    ∙ ap (λ (p : Option RowPlace). if nat_le i (m + n) then p else place_here kind (i - (m + n)) g) (ith_later kind i files f)
    ∙ by (nat_le i n) refl
  where
    m : ℕ
    m = count_of_type kind (all_rows files)

    n : ℕ
    n = count_of_type kind f.table.rows

    many : count_of_type kind (all_rows (files ++ f ∷ [])) ≡ m + n
    many = counts_last kind files f

    minus : i - (m + n) ≡ i - n - m
    minus = omega arith

    tests : (b : Bool) → nat_le (i - n) m ≡ b → n < i → nat_le i (m + n) ≡ b
    tests true is more = let below = leb-true (i - n) m is in le-leb i (m + n) (omega arith)
    tests false is more = let above = leb-false (i - n) m is in lt-leb i (m + n) (omega arith)

    by : (b : Bool) → nat_le i n ≡ b → (if nat_le i (m + n) then (if b then place_here kind i f else ith_place kind (i - n) files) else place_here kind (i - (m + n)) g)
        ≡ (if b then place_here kind i f else (if nat_le (i - n) m then ith_place kind (i - n) files else place_here kind (i - n - m) g))
    by true is = let few = leb-true i n is in ap (λ (b : Bool). if b then place_here kind i f else place_here kind (i - (m + n)) g) (le-leb i (m + n) (omega arith))
    by false is =
        ap (λ (b : Bool). if b then ith_place kind (i - n) files else place_here kind (i - (m + n)) g) (tests (nat_le (i - n) m) refl (leb-false i n is))
        ∙ ap (λ (k : ℕ). if nat_le (i - n) m then ith_place kind (i - n) files else place_here kind k g) minus

last_first : {D : Type 0} (kind : List ℕ) (i : ℕ) (files : List (OpenFile D)) (end : ℕ) (f : OpenFile D) → 0 < end → end ≤ length files → f ≡ get_or files (end - 1) f
    → ith_place kind i (take end files) ≡ (if nat_le i (count_of_type kind f.table.rows) then place_here kind i f else ith_place kind (i - count_of_type kind f.table.rows) (take (end - 1) files))
last_first kind i files end f some within is =
    let e : end ≡ end - 1 + 1 = omega arith in
    ap (λ (n : ℕ). ith_place kind i (take n files)) e ∙ ap (ith_place kind i) (take_more files (end - 1) f (omega arith))
    ∙ ap (λ (g : OpenFile _). ith_place kind i (take (end - 1) files ++ g ∷ [])) (sym is)
    ∙ ith_later kind i (take (end - 1) files) f

-- the latest of the files that are left has so many
pub found_last : {D : Type 0} (kind : List ℕ) (i : ℕ) (files : List (OpenFile D)) (end : ℕ) (f : OpenFile D) (found : Option ℕ) → 0 < end → end ≤ length files → f ≡ get_or files (end - 1) f
    → i ≤ count_of_type kind f.table.rows → index_of_ith kind i f.table.rows ≡ found → ith_place kind i (take end files) ≡ option_map (λ at. record { file = f.number; index = at }) found
found_last kind i files end f found some within is few there =
    last_first kind i files end f some within is
    ∙ ap (λ (b : Bool). if b then place_here kind i f else ith_place kind (i - count_of_type kind f.table.rows) (take (end - 1) files)) (le-leb i (count_of_type kind f.table.rows) few)
    ∙ ap (option_map (λ at. let place : RowPlace = record { file = f.number; index = at } in place)) there

-- or it has fewer
pub found_before : {D : Type 0} (kind : List ℕ) (i n : ℕ) (files : List (OpenFile D)) (end : ℕ) (f : OpenFile D) → 0 < end → end ≤ length files → f ≡ get_or files (end - 1) f
    → n ≡ count_of_type kind f.table.rows → n < i → ith_place kind (i - n) (take (end - 1) files) ≡ ith_place kind i (take end files)
found_before kind i n files end f some within is count more =
    sym (last_first kind i files end f some within is
    ∙ ap (λ (m : ℕ). if nat_le i m then place_here kind i f else ith_place kind (i - m) (take (end - 1) files)) (sym count)
    ∙ ap (λ (b : Bool). if b then place_here kind i f else ith_place kind (i - n) (take (end - 1) files)) (lt-leb i n more))

-- there are no more types than rows
types_few : {D : Type 0} (rows : List (Row D)) → length (types_in rows) ≤ length rows
types_few rows = let told = types_are rows in let few = few_changes None (kinds_of rows) in let many = as_many rows in let same = length-map (row_types rows) (λ t. t.kind) in omega arith

-- one more of some things is looked at, and counts if it passes
pub looked_at : {X : Type 0} (test : X → Bool) (xs : List X) (i : ℕ) (found : Option X) → i < length xs → found ≡ option_and_then (λ x. if test x then Some x else None) (ith (i + 1) xs)
    → filter test (drop i xs) ≡ option_map_or (λ x. x ∷ filter test (drop (i + 1) xs)) found (filter test (drop (i + 1) xs))
looked_at {X} test xs i found within is =
    let next : i + 1 ≡ suc i = omega arith in
    let there = is ∙ ap (λ (n : ℕ). option_and_then (λ x. if test x then Some x else None) (ith n xs)) next in
    step xs i within ∙ ap (λ (one : Option X). option_map_or (λ x. x ∷ filter test (drop (suc i) xs)) one (filter test (drop (suc i) xs))) (sym there)
    ∙ ap (λ (n : ℕ). option_map_or (λ x. x ∷ filter test (drop n xs)) found (filter test (drop n xs))) (sym next)
  where
    step : (xs : List X) (i : ℕ) → i < length xs
        → filter test (drop i xs) ≡ option_map_or (λ x. x ∷ filter test (drop (suc i) xs)) (option_and_then (λ x. if test x then Some x else None) (slice_get xs i)) (filter test (drop (suc i) xs))
    step [] i within = absurd (omega (arith, within))
    step (x ∷ xs) zero within = by (test x)
      where
        by : (b : Bool) → cond b (x ∷ filter test xs) (filter test xs) ≡ option_map_or (λ x. x ∷ filter test xs) (if b then Some x else None) (filter test xs)
        by true = refl
        by false = refl
    step (x ∷ xs) (suc i) within = step xs i (omega (arith, within))

-- so many have passed then
pub passed : {X : Type 0} (test : X → Bool) (xs : List X) (i count now total : ℕ) (found : Option X) (b : Bool) → i < length xs → found ≡ option_and_then (λ x. if test x then Some x else None) (ith (i + 1) xs)
    → is_some found ≡ b → now ≡ (if b then count + 1 else count) → count + length (filter test (drop i xs)) ≡ total → now + length (filter test (drop (i + 1) xs)) ≡ total
passed {X} test xs i count now total found b within is some now_is before = by found b some now_is (ap (λ (ys : List X). length ys) (looked_at test xs i found within is))
  where
    by : (found : Option X) (b : Bool) → is_some found ≡ b → now ≡ (if b then count + 1 else count)
        → length (filter test (drop i xs)) ≡ length (option_map_or (λ x. x ∷ filter test (drop (i + 1) xs)) found (filter test (drop (i + 1) xs))) → now + length (filter test (drop (i + 1) xs)) ≡ total
    by None true some now_is looked = absurd (cc some)
    by None false some now_is looked = omega (arith, now_is, looked, before)
    by (Some x) true some now_is looked = omega (arith, now_is, looked, before)
    by (Some x) false some now_is looked = absurd (cc some)

-- and so many to go
pub left_to_go : {X : Type 0} (x : X) (xs : List X) (i : ℕ) → i ≢ 1 → ith (i - 1) xs ≡ ith i (x ∷ xs)
left_to_go x xs zero other = refl
left_to_go x xs (suc zero) other = absurd (other refl)
left_to_go x xs (suc (suc i)) other = let e : suc (suc i) - 1 ≡ suc i = omega arith in ap (λ (n : ℕ). ith n xs) e

-- the types of the files that are left
pub types_here : {D : Type 0} (files : List (OpenFile D)) (i : ℕ) (d : OpenFile D) → i < length files → all_types (drop i files) ≡ all_types (drop (i + 1) files) ++ new_types (get_or files i d).table.rows (drop (i + 1) files)
types_here files i d within = at_drop_more all_types files i d within

pub all_types_few : {D : Type 0} (files : List (OpenFile D)) → length (all_types files) ≤ length (all_rows files)
all_types_few [] = omega arith
all_types_few (f ∷ fs) =
    let mine = filter_few (λ kind. not (has_type kind fs)) (types_in f.table.rows) in let types = types_few f.table.rows in let deeper = all_types_few fs in
    let long = length-append (all_types fs) (new_types f.table.rows fs) in let rows = length-append (all_rows fs) f.table.rows in omega arith

-- those of earlier files come after them
pub types_before : {D : Type 0} (files : List (OpenFile D)) (i : ℕ) → (earlier : List (List ℕ)) × (all_types files ≡ all_types (drop i files) ++ earlier)
types_before files zero = ([], sym (append-nil (all_types files)))
types_before [] (suc i) = ([], refl)
types_before (f ∷ fs) (suc i) =
    let deeper = types_before fs i in
    (deeper.0 ++ new_types f.table.rows fs, ap (λ (ts : List (List ℕ)). ts ++ new_types f.table.rows fs) deeper.1 ∙ append_assoc (all_types (drop i fs)) deeper.0 (new_types f.table.rows fs))

-- the i-th of some things before others and after others
pub ith_between : {X : Type 0} (i j : ℕ) (front xs back : List X) → j + length front ≡ i → (j ≡ 0 → i ≡ 0) → j ≤ length xs → ith j xs ≡ ith i ((front ++ xs) ++ back)
ith_between zero zero front xs back sum none few = refl
ith_between (suc i) zero front xs back sum none few = let some = none refl in absurd (omega arith)
ith_between {X} i (suc j) front xs back sum none few = let e : i ≡ suc (length front + j) = omega arith in in_front front ∙ ap (λ (n : ℕ). ith n ((front ++ xs) ++ back)) (sym e)
  where
    within : (xs : List X) (j : ℕ) → suc j ≤ length xs → slice_get xs j ≡ slice_get (xs ++ back) j
    within [] j few = absurd (omega (arith, few))
    within (x ∷ xs) zero few = refl
    within (x ∷ xs) (suc j) few = within xs j (omega (arith, few))

    in_front : (front : List X) → slice_get xs j ≡ slice_get ((front ++ xs) ++ back) (length front + j)
    in_front [] = within xs j few ∙ (let e : j ≡ 0 + j = omega arith in ap (slice_get (xs ++ back)) e)
    in_front (x ∷ front) = in_front front ∙ (let e : suc (length front + j) ≡ suc (length front) + j = omega arith in ap (slice_get (((x ∷ front) ++ xs) ++ back)) e)

-- ids are taken further on
pub taken_through : {D : Type 0} (kind : List ℕ) (first id to : ℕ) (rows : List (Row D)) → AreTaken kind first id rows → AreTaken kind id to rows → AreTaken kind first to rows
taken_through kind first id to rows before after k least less = by (nat_le id k) refl
  where
    by : (b : Bool) → nat_le id k ≡ b → list_any (is_resource kind (pos k)) rows ≡ true
    by true is = after k (leb-true id k is) less
    by false is = before k least (leb-false id k is)

-- those that one file takes
pub taken_on : {D : Type 0} (kind : List ℕ) (first id to : ℕ) (files : List (OpenFile D)) (i : ℕ) (f : OpenFile D) → i < length files → f ≡ get_or files i f
    → AreTaken kind first id (all_rows files) → AreTaken kind id to f.table.rows → AreTaken kind first to (all_rows files)
taken_on kind first id to files i f within is before here =
    taken_through kind first id to (all_rows files) before (λ k least less. any_of_all (is_resource kind (pos k)) files i f within (ap (λ (g : OpenFile _). list_any (is_resource kind (pos k)) g.table.rows) (sym is) ∙ here k least less))

-- one that is free in one more file
pub free_on : {D : Type 0} (kind : List ℕ) (id next : ℕ) (files : List (OpenFile D)) (i : ℕ) (f : OpenFile D) → i < length files → f ≡ get_or files i f
    → next ≡ id → IsFree kind next f.table.rows → IsFree kind id (all_rows (take i files)) → IsFree kind id (all_rows (take (i + 1) files))
free_on kind id next files i f within is same here before =
    none_more (is_resource kind (pos id)) files i f within is (ap (λ (n : ℕ). list_any (is_resource kind (pos n)) f.table.rows) (sym same) ∙ here) before

-- the least one that is free, if there is one
pub one_free : {D : Type 0} (kind : List ℕ) (id : ℕ) (files : List (OpenFile D)) → 128 ≤ id → id ≤ largest_id → AreTaken kind 128 id (all_rows files) → IsFree kind id (all_rows files) → free_in_all kind files ≡ Some id
one_free kind id files least small taken free =
    ap (λ (n : ℕ). if nat_le n largest_id then Some n else None) (unique_is kind id (all_rows files) least taken free)
    ∙ ap (λ (b : Bool). if b then Some id else None) (le-leb id largest_id small)

pub none_free : {D : Type 0} (kind : List ℕ) (files : List (OpenFile D)) → AreTaken kind 128 (largest_id + 1) (all_rows files) → free_in_all kind files ≡ None
none_free kind files taken =
    let past = none_unique kind (all_rows files) taken in
    ap (λ (b : Bool). if b then Some (unique_id kind (all_rows files)) else None) (lt-leb (unique_id kind (all_rows files)) largest_id past.0)

-- the type is found in the latest of the files that are left
pub type_found : {D : Type 0} (files : List (OpenFile D)) (i left end : ℕ) (d : OpenFile D) → 0 < end → end ≤ length files → left + length (all_types (drop end files)) ≡ i → (left ≡ 0 → i ≡ 0)
    → left ≤ length (new_types (get_or files (end - 1) d).table.rows (drop end files)) → ith left (new_types (get_or files (end - 1) d).table.rows (drop end files)) ≡ ith i (all_types files)
type_found files i left end d some within seen none few =
    let e : end - 1 + 1 ≡ end = omega arith in let before = types_before files (end - 1) in let f = get_or files (end - 1) d in
    let here = types_here files (end - 1) d (omega arith) ∙ ap (λ (n : ℕ). all_types (drop n files) ++ new_types f.table.rows (drop n files)) e in
    ith_between i left (all_types (drop end files)) (new_types f.table.rows (drop end files)) before.0 seen none few
    ∙ ap (λ (ts : List (List ℕ)). ith i (ts ++ before.0)) (sym here) ∙ ap (ith i) (sym before.1)

-- or there are fewer
pub no_type_left : {X : Type 0} (i left : ℕ) (xs : List X) → left + length xs ≡ i → (left ≡ 0 → i ≡ 0) → ith i xs ≡ None
no_type_left zero left xs seen none = refl
no_type_left (suc i) zero xs seen none = let same = none refl in absurd (cc same)
no_type_left (suc i) (suc left) xs seen none = past_last (suc i) xs (omega arith)

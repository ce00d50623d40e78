-- Differences that are applied give each type and id the rows that it has in the second table.
use Rattle.std.proofs.Common.{◌≡◌, ℕ, zero, suc, ◌+◌, ◌-◌, ◌≤◌, Bool, true, false, List, [], ◌∷◌, ◌++◌, length, take, Option, None, Some, refl, sym, subst, ap, ◌∙◌, arith, bytes_eq, if◌then◌else◌}
use Rattle.std.specs.Prelude.{◌&&◌, not, slice_get}
use Rattle.std.specs.List.{filter}
use Rattle.std.specs.Ordering.{int_eq}
use Rattle.std.proofs.Math.Seq.{take-append_seam, take-nil}
use Rattle.std.proofs.lemmas.Bool.{and_left, and_parts, both_ways, cond-false, cond-true, false_from_ne_true, not-true, or_parts}
use Rattle.std.proofs.lemmas.List.{append-nil, append_assoc, length-append, take_all}
use Rattle.std.proofs.lemmas.List.Elements.{filter-append}
use Rattle.std.proofs.lemmas.Option.{slice_get_past, slice_get_within}
use Rattle.fork_bytes.specs.Rows.{Row}
use Rattle.fork_change.specs.declared.row.ResourceId.{ResourceId}
use Rattle.fork_change.specs.Rows.{added, has_kind, id_of, is_at}
use Rattle.fork_change.specs.Differences.{Entry, added_in, against, applied, changed_by, changed_in, count_at, cut, diff, is_same, nth_at, nth_to, only_new, rows_at}
use Rattle.fork_change.specs.Laws.{IsApplied, IsNoDifference}
use Rattle.fork_change.proofs.Told.{at_own, others_added}
use Rattle.fork_change.proofs.Same.{id_is, none_added, none_changed, row_is, seam}

-- a list with an element isn't empty
none_both : {X : Type 0} (done : List X) (x : X) (rest : List X) → [] ≡ done ++ x ∷ rest → ⊥
none_both [] x rest is = cc is
none_both (d ∷ done) x rest is = cc is

-- one more row that passes or not
more : (test : Row → Bool) (row : Row) (rows others : List Row) → filter test rows ≡ filter test others → filter test (row ∷ rows) ≡ filter test (row ∷ others)
more test row rows others same = ap (λ (all : List Row). if test row then row ∷ all else all) same

-- the n-th row that passes is another one
nth_set : (test : Row → Bool) (n : ℕ) (new old : Row) (rows done rest : List Row) → test new ≡ true → length done ≡ n → filter test rows ≡ done ++ old ∷ rest →
    filter test (nth_to test n new rows) ≡ done ++ new ∷ rest
nth_set test n new old [] done rest own count is = absurd (none_both done old rest is)
nth_set test zero new old (row ∷ rows) done rest own count is = by_case (test row) refl done count is (nth_set test zero new old rows done rest own count)
  where
    by_case : (b : Bool) → test row ≡ b → (done : List Row) → length done ≡ 0 → (if b then row ∷ filter test rows else filter test rows) ≡ done ++ old ∷ rest →
        (filter test rows ≡ done ++ old ∷ rest → filter test (nth_to test zero new rows) ≡ done ++ new ∷ rest) →
        filter test (if b then new ∷ rows else row ∷ nth_to test zero new rows) ≡ done ++ new ∷ rest
    by_case true at [] count is others =
        let same : filter test rows ≡ rest = cc is in
        cond-true (test new) (new ∷ filter test rows) (filter test rows) own ∙ ap (λ (all : List Row). new ∷ all) same
    by_case true at (d ∷ done) count is others = absurd (omega arith)
    by_case false at done count is others = cond-false (test row) (row ∷ filter test (nth_to test zero new rows)) (filter test (nth_to test zero new rows)) at ∙ others is
nth_set test (suc n) new old (row ∷ rows) done rest own count is =
    by_case (test row) refl done count is (λ done. nth_set test n new old rows done rest own) (nth_set test (suc n) new old rows done rest own count)
  where
    by_case : (b : Bool) → test row ≡ b → (done : List Row) → length done ≡ suc n → (if b then row ∷ filter test rows else filter test rows) ≡ done ++ old ∷ rest →
        ((done : List Row) → length done ≡ n → filter test rows ≡ done ++ old ∷ rest → filter test (nth_to test n new rows) ≡ done ++ new ∷ rest) →
        (filter test rows ≡ done ++ old ∷ rest → filter test (nth_to test (suc n) new rows) ≡ done ++ new ∷ rest) →
        filter test (if b then row ∷ nth_to test n new rows else row ∷ nth_to test (suc n) new rows) ≡ done ++ new ∷ rest
    by_case true at [] count is past others = absurd (omega arith)
    by_case true at (d ∷ done) count is past others =
        let first : row ≡ d = cc is in let same : filter test rows ≡ done ++ old ∷ rest = cc is in
        cond-true (test row) (row ∷ filter test (nth_to test n new rows)) (filter test (nth_to test n new rows)) at
        ∙ ap (λ (all : List Row). row ∷ all) (past done (omega arith) same)
        ∙ ap (λ (r : Row). r ∷ (done ++ new ∷ rest)) first
    by_case false at done count is past others =
        cond-false (test row) (row ∷ filter test (nth_to test (suc n) new rows)) (filter test (nth_to test (suc n) new rows)) at ∙ others is

-- n rows that pass stay
cut_take : (test : Row → Bool) (n : ℕ) (rows : List Row) → filter test (cut test n rows) ≡ take n (filter test rows)
cut_take test n [] = sym (take-nil n)
cut_take test zero (row ∷ rows) = by_case (test row) refl (cut_take test zero rows)
  where
    by_case : (b : Bool) → test row ≡ b → filter test (cut test zero rows) ≡ [] → filter test (if b then cut test zero rows else row ∷ cut test zero rows) ≡ []
    by_case true at rest = rest
    by_case false at rest = cond-false (test row) (row ∷ filter test (cut test zero rows)) (filter test (cut test zero rows)) at ∙ rest
cut_take test (suc n) (row ∷ rows) = by_case (test row) refl (cut_take test n rows) (cut_take test (suc n) rows)
  where
    by_case : (b : Bool) → test row ≡ b → filter test (cut test n rows) ≡ take n (filter test rows) → filter test (cut test (suc n) rows) ≡ take (suc n) (filter test rows) →
        filter test (if b then row ∷ cut test n rows else row ∷ cut test (suc n) rows) ≡ take (suc n) (if b then row ∷ filter test rows else filter test rows)
    by_case true at rest others =
        cond-true (test row) (row ∷ filter test (cut test n rows)) (filter test (cut test n rows)) at ∙ ap (λ (all : List Row). row ∷ all) rest
    by_case false at rest others = cond-false (test row) (row ∷ filter test (cut test (suc n) rows)) (filter test (cut test (suc n) rows)) at ∙ others

-- rows that pass another test stay
nth_other : (other test : Row → Bool) → ((row : Row) → test row ≡ true → other row ≡ false) → (n : ℕ) (new : Row) (rows : List Row) → other new ≡ false →
    filter other (nth_to test n new rows) ≡ filter other rows
nth_other other test apart n new [] fails = refl
nth_other other test apart zero new (row ∷ rows) fails = by_case (test row) refl (nth_other other test apart zero new rows fails)
  where
    by_case : (b : Bool) → test row ≡ b → filter other (nth_to test zero new rows) ≡ filter other rows →
        filter other (if b then new ∷ rows else row ∷ nth_to test zero new rows) ≡ filter other (row ∷ rows)
    by_case true at rest =
        cond-false (other new) (new ∷ filter other rows) (filter other rows) fails ∙ sym (cond-false (other row) (row ∷ filter other rows) (filter other rows) (apart row at))
    by_case false at rest = more other row (nth_to test zero new rows) rows rest
nth_other other test apart (suc n) new (row ∷ rows) fails = by_case (test row) (nth_other other test apart n new rows fails) (nth_other other test apart (suc n) new rows fails)
  where
    by_case : (b : Bool) → filter other (nth_to test n new rows) ≡ filter other rows → filter other (nth_to test (suc n) new rows) ≡ filter other rows →
        filter other (if b then row ∷ nth_to test n new rows else row ∷ nth_to test (suc n) new rows) ≡ filter other (row ∷ rows)
    by_case true past rest = more other row (nth_to test n new rows) rows past
    by_case false past rest = more other row (nth_to test (suc n) new rows) rows rest

cut_other : (other test : Row → Bool) → ((row : Row) → test row ≡ true → other row ≡ false) → (n : ℕ) (rows : List Row) → filter other (cut test n rows) ≡ filter other rows
cut_other other test apart n [] = refl
cut_other other test apart zero (row ∷ rows) = by_case (test row) refl (cut_other other test apart zero rows)
  where
    by_case : (b : Bool) → test row ≡ b → filter other (cut test zero rows) ≡ filter other rows →
        filter other (if b then cut test zero rows else row ∷ cut test zero rows) ≡ filter other (row ∷ rows)
    by_case true at rest = rest ∙ sym (cond-false (other row) (row ∷ filter other rows) (filter other rows) (apart row at))
    by_case false at rest = more other row (cut test zero rows) rows rest
cut_other other test apart (suc n) (row ∷ rows) = by_case (test row) (cut_other other test apart n rows) (cut_other other test apart (suc n) rows)
  where
    by_case : (b : Bool) → filter other (cut test n rows) ≡ filter other rows → filter other (cut test (suc n) rows) ≡ filter other rows →
        filter other (if b then row ∷ cut test n rows else row ∷ cut test (suc n) rows) ≡ filter other (row ∷ rows)
    by_case true past rest = more other row (cut test n rows) rows past
    by_case false past rest = more other row (cut test (suc n) rows) rows rest

-- a row that is added is the last of its type and id
none_of_kind : (what : ResourceId) (rows : List Row) → has_kind what.kind rows ≡ false → filter (is_at what) rows ≡ []
none_of_kind what [] none = refl
none_of_kind what (row ∷ rows) none =
    let parts = or_parts (bytes_eq row.kind what.kind) (has_kind what.kind rows) none in
    cond-false (is_at what row) (row ∷ filter (is_at what) rows) (filter (is_at what) rows) (and_left (bytes_eq row.kind what.kind) (int_eq row.id what.id) parts.0)
    ∙ none_of_kind what rows parts.1

-- what is found of a row and of others, with one more
joined : (b : Bool) (row new : Row) (found : List Row) → (if b then row ∷ (found ++ new ∷ []) else found ++ new ∷ []) ≡ (if b then row ∷ found else found) ++ new ∷ []
joined true row new found = refl
joined false row new found = refl

added_own : (new : Row) (rows : List Row) → rows_at (id_of new) (added new rows) ≡ rows_at (id_of new) rows ++ new ∷ []
added_own new [] = cond-true (is_at (id_of new) new) (new ∷ []) [] (at_own new)
added_own new (row ∷ rows) = by_case (bytes_eq row.kind new.kind && not (has_kind new.kind rows)) refl (added_own new rows)
  where
    test : Row → Bool
    test = is_at (id_of new)

    by_case : (b : Bool) → (bytes_eq row.kind new.kind && not (has_kind new.kind rows)) ≡ b →
        filter (is_at (id_of new)) (added new rows) ≡ filter (is_at (id_of new)) rows ++ new ∷ [] →
        filter (is_at (id_of new)) (if b then row ∷ new ∷ rows else row ∷ added new rows) ≡ filter (is_at (id_of new)) (row ∷ rows) ++ new ∷ []
    by_case true is rest =
        let last = and_parts (bytes_eq row.kind new.kind) (not (has_kind new.kind rows)) is in
        let none = none_of_kind (id_of new) rows (not-true (has_kind new.kind rows) last.1) in
        let found : filter (is_at (id_of new)) (new ∷ rows) ≡ filter (is_at (id_of new)) rows ++ new ∷ [] =
        cond-true (is_at (id_of new) new) (new ∷ filter (is_at (id_of new)) rows) (filter (is_at (id_of new)) rows) (at_own new)
        ∙ ap (λ (all : List Row). new ∷ all) none ∙ ap (λ (all : List Row). all ++ new ∷ []) (sym none) in
        ap (λ (all : List Row). if is_at (id_of new) row then row ∷ all else all) found ∙ joined (is_at (id_of new) row) row new (filter (is_at (id_of new)) rows)
    by_case false is rest =
        ap (λ (all : List Row). if is_at (id_of new) row then row ∷ all else all) rest ∙ joined (is_at (id_of new) row) row new (filter (is_at (id_of new)) rows)

-- a row of other type and id is at no place of these
apart_from : (what : ResourceId) (row : Row) → is_at what row ≡ false → (other : Row) → is_at (id_of row) other ≡ true → is_at what other ≡ false
apart_from what row apart other at =
    false_from_ne_true (is_at what other) (λ also.
    let P : ResourceId → Type 0 = λ w. is_at w row ≡ true in
    both_ways (is_at what row) apart (subst P (sym (id_is (id_of row) other at) ∙ id_is what other also) (at_own row)))

-- there is no n-th past the end
none_within : (rows : List Row) (n : ℕ) → slice_get rows n ≡ None → length rows ≤ n
none_within [] n is = omega arith
none_within (row ∷ rows) zero is = absurd (cc is)
none_within (row ∷ rows) (suc n) is = let rest = none_within rows n is in omega (arith, rest)

-- what is found passes
nth_passes : (test : Row → Bool) (rows : List Row) (n : ℕ) (row : Row) → slice_get (filter test rows) n ≡ Some row → test row ≡ true
nth_passes test [] n row is = absurd (cc is)
nth_passes test (first ∷ rows) n row is = by_case (test first) refl n is (λ n. nth_passes test rows n row)
  where
    by_case : (b : Bool) → test first ≡ b → (n : ℕ) → slice_get (if b then first ∷ filter test rows else filter test rows) n ≡ Some row →
        ((n : ℕ) → slice_get (filter test rows) n ≡ Some row → test row ≡ true) → test row ≡ true
    by_case true at zero is others = let same : first ≡ row = cc is in ap test (sym same) ∙ at
    by_case true at (suc n) is others = others n is
    by_case false at n is others = others n is

-- differences one after the other
applied_both : (entries others : List Entry) (rows : List Row) → applied (entries ++ others) rows ≡ applied others (applied entries rows)
applied_both [] others rows = refl
applied_both (entry ∷ entries) others rows = applied_both entries others (changed_by entry.nth entry.old entry.new rows)

-- what differs of a row changes no other type and id
against_other : (what : ResourceId) (row : Row) (n : ℕ) (second all : List Row) (found : Option Row) → is_at what row ≡ false → nth_at (id_of row) n second ≡ found →
    rows_at what (applied (against n row found) all) ≡ rows_at what all
against_other what row n second all None apart is = cut_other (is_at what) (is_at (id_of row)) (apart_from what row apart) n all
against_other what row n second all (Some other) apart is = by_case (is_same row other)
  where
    away : is_at what other ≡ false
    away = apart_from what row apart other (nth_passes (is_at (id_of row)) second n other is)

    by_case : (b : Bool) → rows_at what (applied (if b then [] else record { nth = n; old = Some row; new = Some other } ∷ []) all) ≡ rows_at what all
    by_case true = refl
    by_case false = nth_other (is_at what) (is_at (id_of row)) (apart_from what row apart) n other all away

-- the differences of a row among others
abbrev own_changes : List Row → List Row → Row → List Entry
own_changes second before row = against (count_at (id_of row) before) row (nth_at (id_of row) (count_at (id_of row) before) second)

abbrev own_added : List Row → List Row → Row → List Entry
own_added first before row = only_new (count_at (id_of row) before) row (nth_at (id_of row) (count_at (id_of row) before) first)

-- one more row of a type and id before others, or one of another
one_more : (what : ResourceId) (before : List Row) (row : Row) → is_at what row ≡ true → rows_at what (before ++ row ∷ []) ≡ rows_at what before ++ row ∷ []
one_more what before row at = filter-append (is_at what) before (row ∷ []) ∙ ap (λ (all : List Row). rows_at what before ++ all) (cond-true (is_at what row) (row ∷ []) [] at)

no_more : (what : ResourceId) (before : List Row) (row : Row) → is_at what row ≡ false → rows_at what (before ++ row ∷ []) ≡ rows_at what before
no_more what before row apart =
    filter-append (is_at what) before (row ∷ [])
    ∙ ap (λ (all : List Row). rows_at what before ++ all) (cond-false (is_at what row) (row ∷ []) [] apart)
    ∙ append-nil (rows_at what before)

-- after as many rows of a type and id as the second table has, those that are left go
past_own : (second before all : List Row) (row : Row) → rows_at (id_of row) all ≡ rows_at (id_of row) second →
    length (rows_at (id_of row) second) ≤ count_at (id_of row) before → rows_at (id_of row) (applied (own_changes second before row) all) ≡ rows_at (id_of row) second
past_own second before all row is past =
    let n = count_at (id_of row) before in let found = rows_at (id_of row) second in
    ap (λ (other : Option Row). rows_at (id_of row) (applied (against n row other) all)) (slice_get_past found n past)
    ∙ cut_take (is_at (id_of row)) n all ∙ ap (take n) is ∙ take_all n found past

past_at : (what : ResourceId) (second before all : List Row) (row : Row) → id_of row ≡ what → rows_at what all ≡ rows_at what second →
    length (rows_at what second) ≤ count_at what before → rows_at what (applied (own_changes second before row) all) ≡ rows_at what second
past_at what second before all row own =
    let P : ResourceId → Type 0 = λ w. rows_at w all ≡ rows_at w second → length (rows_at w second) ≤ count_at w before →
    rows_at w (applied (own_changes second before row) all) ≡ rows_at w second in
    subst P own (past_own second before all row)

changes_past : (second before rows all : List Row) (what : ResourceId) → rows_at what all ≡ rows_at what second → length (rows_at what second) ≤ count_at what before →
    rows_at what (applied (changed_in second before rows) all) ≡ rows_at what second
changes_past second before [] all what is past = is
changes_past second before (row ∷ rows) all what is past =
    ap (rows_at what) (applied_both (own_changes second before row) (changed_in second (before ++ row ∷ []) rows) all)
    ∙ by_case (is_at what row) refl (changes_past second (before ++ row ∷ []) rows (applied (own_changes second before row) all) what)
  where
    by_case : (b : Bool) → is_at what row ≡ b →
        (rows_at what (applied (own_changes second before row) all) ≡ rows_at what second → length (rows_at what second) ≤ count_at what (before ++ row ∷ []) →
        rows_at what (applied (changed_in second (before ++ row ∷ []) rows) (applied (own_changes second before row) all)) ≡ rows_at what second) →
        rows_at what (applied (changed_in second (before ++ row ∷ []) rows) (applied (own_changes second before row) all)) ≡ rows_at what second
    by_case true at rest =
        let count = ap length (one_more what before row at) ∙ length-append (rows_at what before) (row ∷ []) in
        rest (past_at what second before all row (id_is what row at) is past) (omega (arith, count))
    by_case false apart rest =
        let P : List Row → Type 0 = λ found. length (rows_at what second) ≤ length found in
        rest (against_other what row (count_at (id_of row) before) second all (nth_at (id_of row) (count_at (id_of row) before) second) apart refl ∙ is)
        (subst P (sym (no_more what before row apart)) past)

-- a row becomes that of the second table, or goes
gone_own : (second before all done rest : List Row) (row : Row) → rows_at (id_of row) second ≡ done ++ [] → length done ≡ count_at (id_of row) before →
    rows_at (id_of row) all ≡ done ++ row ∷ rest → rows_at (id_of row) (applied (own_changes second before row) all) ≡ done
gone_own second before all done rest row parts count is =
    let n = count_at (id_of row) before in let found = rows_at (id_of row) second in
    let many = ap length parts ∙ length-append done [] in
    let past : length found ≤ n = omega (arith, many, count) in
    ap (λ (other : Option Row). rows_at (id_of row) (applied (against n row other) all)) (slice_get_past found n past)
    ∙ cut_take (is_at (id_of row)) n all ∙ ap (take n) is ∙ ap (λ (k : ℕ). take k (done ++ row ∷ rest)) (sym count) ∙ take-append_seam done (row ∷ rest)

gone_at : (what : ResourceId) (second before all done rest : List Row) (row : Row) → id_of row ≡ what → rows_at what second ≡ done ++ [] → length done ≡ count_at what before →
    rows_at what all ≡ done ++ row ∷ rest → rows_at what (applied (own_changes second before row) all) ≡ done
gone_at what second before all done rest row own =
    let P : ResourceId → Type 0 = λ w. rows_at w second ≡ done ++ [] → length done ≡ count_at w before → rows_at w all ≡ done ++ row ∷ rest →
    rows_at w (applied (own_changes second before row) all) ≡ done in
    subst P own (gone_own second before all done rest row)

next_own : (second before all done left rest : List Row) (row other : Row) → rows_at (id_of row) second ≡ done ++ other ∷ left → length done ≡ count_at (id_of row) before →
    rows_at (id_of row) all ≡ done ++ row ∷ rest → rows_at (id_of row) (applied (own_changes second before row) all) ≡ (done ++ other ∷ []) ++ rest
next_own second before all done left rest row other parts count is =
    ap (λ (entry : Option Row). rows_at (id_of row) (applied (against (count_at (id_of row) before) row entry) all)) found
    ∙ by_case (is_same row other) refl
    ∙ sym (append_assoc done (other ∷ []) rest)
  where
    found : nth_at (id_of row) (count_at (id_of row) before) second ≡ Some other
    found =
        ap (λ (rows : List Row). slice_get rows (count_at (id_of row) before)) parts
        ∙ ap (slice_get (done ++ other ∷ left)) (sym count) ∙ seam done other left

    at : is_at (id_of row) other ≡ true
    at = nth_passes (is_at (id_of row)) second (count_at (id_of row) before) other found

    by_case : (b : Bool) → is_same row other ≡ b →
        rows_at (id_of row) (applied (if b then [] else record { nth = count_at (id_of row) before; old = Some row; new = Some other } ∷ []) all) ≡ done ++ other ∷ rest
    by_case true same = is ∙ ap (λ (r : Row). done ++ r ∷ rest) (sym (row_is row other at same))
    by_case false same = nth_set (is_at (id_of row)) (count_at (id_of row) before) other row all done rest at count is

next_at : (what : ResourceId) (second before all done left rest : List Row) (row other : Row) → id_of row ≡ what → rows_at what second ≡ done ++ other ∷ left →
    length done ≡ count_at what before → rows_at what all ≡ done ++ row ∷ rest → rows_at what (applied (own_changes second before row) all) ≡ (done ++ other ∷ []) ++ rest
next_at what second before all done left rest row other own =
    let P : ResourceId → Type 0 = λ w. rows_at w second ≡ done ++ other ∷ left → length done ≡ count_at w before → rows_at w all ≡ done ++ row ∷ rest →
    rows_at w (applied (own_changes second before row) all) ≡ (done ++ other ∷ []) ++ rest in
    subst P own (next_own second before all done left rest row other)

-- the rows of a type and id become those of the second table, as far as both go
changes_made : (second before rows all : List Row) (what : ResourceId) (done left : List Row) → rows_at what second ≡ done ++ left → length done ≡ count_at what before →
    rows_at what all ≡ done ++ rows_at what rows → rows_at what (applied (changed_in second before rows) all) ≡ done ++ take (length (rows_at what rows)) left
changes_made second before [] all what done left parts count is = is
changes_made second before (row ∷ rows) all what done left parts count is =
    ap (rows_at what) (applied_both (own_changes second before row) (changed_in second (before ++ row ∷ []) rows) all)
    ∙ by_case (is_at what row) refl left parts is
    (changes_made second (before ++ row ∷ []) rows (applied (own_changes second before row) all) what)
    (changes_past second (before ++ row ∷ []) rows (applied (own_changes second before row) all) what)
  where
    by_case : (b : Bool) → is_at what row ≡ b → (left : List Row) → rows_at what second ≡ done ++ left → rows_at what all ≡ done ++ (if b then row ∷ rows_at what rows else rows_at what rows) →
        ((done left : List Row) → rows_at what second ≡ done ++ left → length done ≡ count_at what (before ++ row ∷ []) →
        rows_at what (applied (own_changes second before row) all) ≡ done ++ rows_at what rows →
        rows_at what (applied (changed_in second (before ++ row ∷ []) rows) (applied (own_changes second before row) all)) ≡ done ++ take (length (rows_at what rows)) left) →
        (rows_at what (applied (own_changes second before row) all) ≡ rows_at what second → length (rows_at what second) ≤ count_at what (before ++ row ∷ []) →
        rows_at what (applied (changed_in second (before ++ row ∷ []) rows) (applied (own_changes second before row) all)) ≡ rows_at what second) →
        rows_at what (applied (changed_in second (before ++ row ∷ []) rows) (applied (own_changes second before row) all))
        ≡ done ++ take (length (if b then row ∷ rows_at what rows else rows_at what rows)) left
    by_case true at [] parts is others past =
        let more = ap length (one_more what before row at) ∙ length-append (rows_at what before) (row ∷ []) in
        let many = ap length parts ∙ length-append done [] in
        past (gone_at what second before all done (rows_at what rows) row (id_is what row at) parts count is ∙ sym (append-nil done) ∙ sym parts) (omega (arith, more, many, count))
        ∙ parts ∙ ap (λ (rest : List Row). done ++ rest) (sym (take-nil (length (row ∷ rows_at what rows))))
    by_case true at (other ∷ left) parts is others past =
        let more = ap length (one_more what before row at) ∙ length-append (rows_at what before) (row ∷ []) in
        let longer = length-append done (other ∷ []) in
        others (done ++ other ∷ []) left (parts ∙ sym (append_assoc done (other ∷ []) left)) (omega (arith, more, longer, count))
        (next_at what second before all done left (rows_at what rows) row other (id_is what row at) parts count is)
        ∙ append_assoc done (other ∷ []) (take (length (rows_at what rows)) left)
    by_case false apart left parts is others past =
        let P : List Row → Type 0 = λ found. length done ≡ length found in
        others done left parts (subst P (sym (no_more what before row apart)) count)
        (against_other what row (count_at (id_of row) before) second all (nth_at (id_of row) (count_at (id_of row) before) second) apart refl ∙ is)

-- a row that is added changes no other type and id
only_other : (what : ResourceId) (row : Row) (n : ℕ) (all : List Row) (found : Option Row) → is_at what row ≡ false → rows_at what (applied (only_new n row found) all) ≡ rows_at what all
only_other what row n all None apart = others_added (is_at what) row all apart
only_other what row n all (Some other) apart = refl

-- the rows that the first table hasn't come after those that it has
added_own_at : (what : ResourceId) (first before all : List Row) (row : Row) (rest : List Row) → id_of row ≡ what →
    rows_at what all ≡ rows_at what before ++ take (length (rows_at what first) - count_at what before) (row ∷ rest) →
    rows_at what (applied (own_added first before row) all) ≡ (rows_at what before ++ row ∷ []) ++ take (length (rows_at what first) - (count_at what before + 1)) rest
added_own_at what first before all row rest own = subst P own by_own
  where
    P : ResourceId → Type 0
    P = λ w. rows_at w all ≡ rows_at w before ++ take (length (rows_at w first) - count_at w before) (row ∷ rest) →
        rows_at w (applied (own_added first before row) all) ≡ (rows_at w before ++ row ∷ []) ++ take (length (rows_at w first) - (count_at w before + 1)) rest

    by_own : rows_at (id_of row) all ≡ rows_at (id_of row) before ++ take (length (rows_at (id_of row) first) - count_at (id_of row) before) (row ∷ rest) →
        rows_at (id_of row) (applied (own_added first before row) all)
        ≡ (rows_at (id_of row) before ++ row ∷ []) ++ take (length (rows_at (id_of row) first) - (count_at (id_of row) before + 1)) rest
    by_own is = by_case (nth_at (id_of row) (count_at (id_of row) before) first) refl
      where
        by_case : (found : Option Row) → nth_at (id_of row) (count_at (id_of row) before) first ≡ found →
            rows_at (id_of row) (applied (only_new (count_at (id_of row) before) row found) all)
            ≡ (rows_at (id_of row) before ++ row ∷ []) ++ take (length (rows_at (id_of row) first) - (count_at (id_of row) before + 1)) rest
        by_case None none =
            let n = count_at (id_of row) before in let most = length (rows_at (id_of row) first) in
            let past = none_within (rows_at (id_of row) first) n none in
            let no : most - n ≡ 0 = omega (arith, past) in let nor : most - (n + 1) ≡ 0 = omega (arith, past) in
            added_own row all ∙ ap (λ (found : List Row). found ++ row ∷ []) (is ∙ ap (λ (k : ℕ). rows_at (id_of row) before ++ take k (row ∷ rest)) no ∙ append-nil (rows_at (id_of row) before))
            ∙ sym (append-nil (rows_at (id_of row) before ++ row ∷ []))
            ∙ ap (λ (k : ℕ). (rows_at (id_of row) before ++ row ∷ []) ++ take k rest) (sym nor)
        by_case (Some other) there =
            let n = count_at (id_of row) before in let most = length (rows_at (id_of row) first) in
            let within = slice_get_within (rows_at (id_of row) first) n other there in
            let some : most - n ≡ suc (most - (n + 1)) = omega (arith, within) in
            is ∙ ap (λ (k : ℕ). rows_at (id_of row) before ++ take k (row ∷ rest)) some ∙ sym (append_assoc (rows_at (id_of row) before) (row ∷ []) (take (most - (n + 1)) rest))

added_made : (first before rows all : List Row) (what : ResourceId) →
    rows_at what all ≡ rows_at what before ++ take (length (rows_at what first) - count_at what before) (rows_at what rows) →
    rows_at what (applied (added_in first before rows) all) ≡ rows_at what before ++ rows_at what rows
added_made first before [] all what is =
    is ∙ ap (λ (rest : List Row). rows_at what before ++ rest) (take-nil (length (rows_at what first) - count_at what before))
added_made first before (row ∷ rows) all what is =
    ap (rows_at what) (applied_both (own_added first before row) (added_in first (before ++ row ∷ []) rows) all)
    ∙ by_case (is_at what row) refl is (added_made first (before ++ row ∷ []) rows (applied (own_added first before row) all) what)
  where
    by_case : (b : Bool) → is_at what row ≡ b →
        rows_at what all ≡ rows_at what before ++ take (length (rows_at what first) - count_at what before) (if b then row ∷ rows_at what rows else rows_at what rows) →
        (rows_at what (applied (own_added first before row) all)
        ≡ rows_at what (before ++ row ∷ []) ++ take (length (rows_at what first) - count_at what (before ++ row ∷ [])) (rows_at what rows) →
        rows_at what (applied (added_in first (before ++ row ∷ []) rows) (applied (own_added first before row) all)) ≡ rows_at what (before ++ row ∷ []) ++ rows_at what rows) →
        rows_at what (applied (added_in first (before ++ row ∷ []) rows) (applied (own_added first before row) all))
        ≡ rows_at what before ++ (if b then row ∷ rows_at what rows else rows_at what rows)
    by_case true at is others =
        let one = one_more what before row at in
        let count : count_at what before + 1 ≡ count_at what (before ++ row ∷ []) = sym (ap length one ∙ length-append (rows_at what before) (row ∷ [])) in
        others (added_own_at what first before all row (rows_at what rows) (id_is what row at) is
        ∙ ap (λ (found : List Row). found ++ take (length (rows_at what first) - (count_at what before + 1)) (rows_at what rows)) (sym one)
        ∙ ap (λ (k : ℕ). rows_at what (before ++ row ∷ []) ++ take (length (rows_at what first) - k) (rows_at what rows)) count)
        ∙ ap (λ (found : List Row). found ++ rows_at what rows) one ∙ append_assoc (rows_at what before) (row ∷ []) (rows_at what rows)
    by_case false apart is others =
        let P : List Row → Type 0 = λ found. rows_at what (applied (own_added first before row) all) ≡ found ++ take (length (rows_at what first) - length found) (rows_at what rows) in
        let same = no_more what before row apart in
        others (subst P (sym same) (only_other what row (count_at (id_of row) before) all (nth_at (id_of row) (count_at (id_of row) before) first) apart ∙ is))
        ∙ ap (λ (found : List Row). found ++ rows_at what rows) same

pub is_applied : IsApplied
is_applied first second what =
    ap (rows_at what) (applied_both (changed_in second [] first) (added_in first [] second) first)
    ∙ added_made first [] second (applied (changed_in second [] first) first) what
    (changes_made second [] first first what [] (rows_at what second) refl refl refl ∙ ap (λ (k : ℕ). take k (rows_at what second)) none_less)
  where
    none_less : length (rows_at what first) ≡ length (rows_at what first) - 0
    none_less = omega arith

-- where no row differs, each type and id has the same rows
pub is_no_difference : IsNoDifference
is_no_difference first second = (forward, backward)
  where
    forward : diff first second ≡ [] → (what : ResourceId) → rows_at what first ≡ rows_at what second
    forward none what = ap (λ (entries : List Entry). rows_at what (applied entries first)) (sym none) ∙ is_applied first second what

    backward : ((what : ResourceId) → rows_at what first ≡ rows_at what second) → diff first second ≡ []
    backward same =
        ap (λ (entries : List Entry). entries ++ added_in first [] second) (none_changed first second [] first same refl) ∙ none_added first second [] second same refl

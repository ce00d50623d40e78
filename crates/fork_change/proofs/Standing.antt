-- Where rows are among others, and what becomes of them there.
use Rattle.std.proofs.Common.{◌≡◌, ℕ, zero, suc, ◌<◌, ◌≤◌, Bool, true, false, List, [], ◌∷◌, ◌++◌, length, get_or, drop, Some, None, refl, sym, ap, subst, ◌∙◌, ◌-◌, arith, bytes_eq, if◌then◌else◌}
use Rattle.std.specs.Prelude.{set, not, nat_lt, cond, ◌||◌}
use Rattle.std.specs.List.{find, insert, list_any, position, position_or_len, remove}
use Rattle.std.proofs.lemmas.Bool.{and_from, and_left, and_right, cond-false, cond-true, ltb-false, not_from_false, not_from_true, or_parts}
use Rattle.std.proofs.lemmas.List.Recursion.{or_at, or_from_places}
use Rattle.std.proofs.lemmas.List.Quantifiers.{position-Some}
use Rattle.std.proofs.lemmas.List.Sums.{fails_before_first}
use Rattle.fork_bytes.specs.Rows.{Row}
use Rattle.fork_change.specs.Rows.{added, first_to, has_kind}

-- the first that passes a test is replaced, or removed
first_set : (test : Row → Bool) (rows : List Row) (i : ℕ) (new d : Row) → i < length rows → test (get_or rows i d) ≡ true →
    ((k : ℕ) → k < i → test (get_or rows k d) ≡ false) → first_to test (new ∷ []) rows ≡ set rows i new
first_set test [] i new d within passes before = absurd (omega arith)
first_set test (row ∷ rows) zero new d within passes before = cond-true (test row) (new ∷ rows) (row ∷ first_to test (new ∷ []) rows) passes
first_set test (row ∷ rows) (suc i) new d within passes before =
    cond-false (test row) (new ∷ rows) (row ∷ first_to test (new ∷ []) rows) (before 0 (omega arith))
    ∙ ap (λ (rest : List Row). row ∷ rest) (first_set test rows i new d (omega arith) passes (λ k low. before (suc k) (omega arith)))

first_removed : (test : Row → Bool) (rows : List Row) (i : ℕ) (d : Row) → i < length rows → test (get_or rows i d) ≡ true →
    ((k : ℕ) → k < i → test (get_or rows k d) ≡ false) → first_to test [] rows ≡ remove rows i
first_removed test [] i d within passes before = absurd (omega arith)
first_removed test (row ∷ rows) zero d within passes before = cond-true (test row) rows (row ∷ first_to test [] rows) passes
first_removed test (row ∷ rows) (suc i) d within passes before =
    cond-false (test row) rows (row ∷ first_to test [] rows) (before 0 (omega arith))
    ∙ ap (λ (rest : List Row). row ∷ rest) (first_removed test rows i d (omega arith) passes (λ k low. before (suc k) (omega arith)))

-- one passes where there is a place, and none where there is none
pub there_at : (test : Row → Bool) (rows : List Row) (i : ℕ) (d : Row) → i < length rows → test (get_or rows i d) ≡ true → list_any test rows ≡ true
there_at test rows i d within passes = or_at (list_any test) test refl (λ x xs. refl) rows i d within passes

none_past : (test : Row → Bool) (rows : List Row) → position test rows ≡ None → length rows ≤ position_or_len test rows
none_past test rows is = by_case (nat_lt (position_or_len test rows) (length rows)) refl is
  where
    by_case : (b : Bool) → nat_lt (position_or_len test rows) (length rows) ≡ b → cond b (Some (position_or_len test rows)) None ≡ None →
        length rows ≤ position_or_len test rows
    by_case true low is = absurd (cc is)
    by_case false high is = ltb-false (position_or_len test rows) (length rows) high

pub none_there : (test : Row → Bool) (rows : List Row) → position test rows ≡ None → list_any test rows ≡ false
none_there test [] is = refl
none_there test (row ∷ rows) is =
    let past = none_past test (row ∷ rows) is in
    or_from_places (list_any test) test refl (λ x xs. refl) (row ∷ rows) row (λ i within. fails_before_first test (row ∷ rows) i row (omega arith))

-- one more row after the last of its type
added_at : (new : Row) (rows : List Row) (i : ℕ) (d : Row) → i < length rows → bytes_eq (get_or rows i d).kind new.kind ≡ true →
    has_kind new.kind (drop (suc i) rows) ≡ false → insert rows (suc i) new ≡ added new rows
added_at new [] i d within passes none = absurd (omega arith)
added_at new (row ∷ rows) zero d within passes none =
    sym (cond-true _ (row ∷ new ∷ rows) (row ∷ added new rows) (and_from (bytes_eq row.kind new.kind) (not (has_kind new.kind rows)) passes (not_from_false (has_kind new.kind rows) none)))
added_at new (row ∷ rows) (suc i) d within passes none =
    let there : has_kind new.kind rows ≡ true = there_at (λ r. bytes_eq r.kind new.kind) rows i d (omega arith) passes in
    ap (λ (rest : List Row). row ∷ rest) (added_at new rows i d (omega arith) passes none)
    ∙ sym (cond-false _ (row ∷ new ∷ rows) (row ∷ added new rows) (and_right (bytes_eq row.kind new.kind) (not (has_kind new.kind rows)) (not_from_true (has_kind new.kind rows) there)))

-- or at the end
added_end : (new : Row) (rows : List Row) → has_kind new.kind rows ≡ false → insert rows (length rows) new ≡ added new rows
added_end new [] none = refl
added_end new (row ∷ rows) none =
    let parts = or_parts (bytes_eq row.kind new.kind) (has_kind new.kind rows) none in
    ap (λ (rest : List Row). row ∷ rest) (added_end new rows parts.1)
    ∙ sym (cond-false _ (row ∷ new ∷ rows) (row ∷ added new rows) (and_left (bytes_eq row.kind new.kind) (not (has_kind new.kind rows)) parts.0))

-- where none passes nothing changes
pub none_first : (test : Row → Bool) (these rows : List Row) → list_any test rows ≡ false → first_to test these rows ≡ rows
none_first test these [] none = refl
none_first test these (row ∷ rows) none =
    let parts = or_parts (test row) (list_any test rows) none in
    cond-false (test row) (these ++ rows) (row ∷ first_to test these rows) parts.0 ∙ ap (λ (rest : List Row). row ∷ rest) (none_first test these rows parts.1)

-- the same by the place that is found
pub set_at : (test : Row → Bool) (rows : List Row) (i : ℕ) (new d : Row) → position test rows ≡ Some i → set rows i new ≡ first_to test (new ∷ []) rows
set_at test rows i new d is = let first = position-Some test rows i d is in sym (first_set test rows i new d first.0 first.1 first.2)

pub removed_at : (test : Row → Bool) (rows : List Row) (i : ℕ) (d : Row) → position test rows ≡ Some i → remove rows i ≡ first_to test [] rows
removed_at test rows i d is = let first = position-Some test rows i d is in sym (first_removed test rows i d first.0 first.1 first.2)

-- the same by the place after it
pub added_after : (new : Row) (rows : List Row) (kind : List ℕ) (end : ℕ) (d : Row) → 0 < end → end ≤ length rows → bytes_eq (get_or rows (end - 1) d).kind kind ≡ true →
    has_kind kind (drop end rows) ≡ false → new.kind ≡ kind → insert rows end new ≡ added new rows
added_after new rows kind zero d some within passes none same = absurd (omega arith)
added_after new rows kind (suc i) d some within passes none same =
    let before : suc i - 1 ≡ i = omega arith in
    let P : ℕ → Type 0 = λ n. bytes_eq (get_or rows n d).kind kind ≡ true in
    let Q : List ℕ → Type 0 = λ k. bytes_eq (get_or rows i d).kind k ≡ true in
    let R : List ℕ → Type 0 = λ k. has_kind k (drop (suc i) rows) ≡ false in
    added_at new rows i d (omega arith) (subst Q (sym same) (subst P before passes)) (subst R (sym same) none)

pub added_last : (new : Row) (rows : List Row) (kind : List ℕ) (end : ℕ) → end ≡ 0 → has_kind kind (drop end rows) ≡ false → new.kind ≡ kind → insert rows (length rows) new ≡ added new rows
added_last new rows kind end is none same =
    let P : ℕ → Type 0 = λ n. has_kind kind (drop n rows) ≡ false in
    let R : List ℕ → Type 0 = λ k. has_kind k rows ≡ false in
    added_end new rows (subst R (sym same) (subst P is none))

-- one is there where one is found, and none where none is
pub there_found : (test : Row → Bool) (rows : List Row) (row : Row) → Some row ≡ find test rows → list_any test rows ≡ true
there_found test [] row is = absurd (cc is)
there_found test (first ∷ rows) row is = by_case (test first) is (there_found test rows row)
  where
    by_case : (b : Bool) → Some row ≡ (if b then Some first else find test rows) → (Some row ≡ find test rows → list_any test rows ≡ true) → (b || list_any test rows) ≡ true
    by_case true is others = refl
    by_case false is others = others is

pub none_found : (test : Row → Bool) (rows : List Row) → None ≡ find test rows → list_any test rows ≡ false
none_found test [] is = refl
none_found test (first ∷ rows) is = by_case (test first) is (none_found test rows)
  where
    by_case : (b : Bool) → None ≡ (if b then Some first else find test rows) → (None ≡ find test rows → list_any test rows ≡ false) → (b || list_any test rows) ≡ false
    by_case true is others = absurd (cc is)
    by_case false is others = others is

-- What one more row does to the counts and to the index.
use Rattle.std.proofs.Common.{◌≡◌, ℕ, ℤ, zero, suc, ◌+◌, ◌<◌, ◌≤◌, ◌^◌, Bool, true, false, cond, if◌then◌else◌, List, [], ◌∷◌, ◌++◌, length, drop, take, get_or, Option, Some, option_copied, refl, sym, ap, ◌∙◌, arith, BTreeMap, unwrap_or}
use Rattle.std.proofs.Math.Dec.{eqb-suc-suc, eqb-suc-zero, eqb-zero-suc}
use Rattle.std.specs.Prelude.{◌&&◌, ◌==◌, bytes_eq, slice_get}
use Rattle.std.specs.Borrow.{Bor}
use Rattle.std.specs.List.{filter}
use Rattle.std.specs.Ordering.{int_cmp, int_eq, is_eq, nat_cmp}
use Rattle.std.specs.Cmp.{both_tied, unsigned_ties}
use Rattle.std.specs.Cmp.Lexicographic.{slice_cmp, texts_ties}
use Rattle.std.specs.BTreeMap.{Updates, get}
use Rattle.std.proofs.lemmas.List.Elements.{filter-append}
use Rattle.std.proofs.lemmas.List.Filters.{length-filter_more}
use Rattle.std.proofs.lemmas.List.{append-nil, append_assoc, drop_more, take_more}
use Rattle.fork_bytes.specs.Rows.{Row}
use Rattle.fork_change.specs.declared.row.ResourceId.{ResourceId}
use Rattle.fork_change.specs.Rows.{id_of, is_at}
use Rattle.fork_change.specs.Differences.{Entry, added_in, against, changed_in, count_at, nth_at, only_new}
use Rattle.fork_change.specs.Index.{HasCounted, IsIndexOf, count_of, key_cmp, place_cmp}
use Rattle.fork_change.proofs.Same.{id_is}

-- a type and id are those of a row where the keys are the same
pub one_key : (what : ResourceId) (row : Row) → is_at what row ≡ is_eq (key_cmp (row.kind, row.id) (what.kind, what.id))
one_key what row =
    both_tied (bytes_eq row.kind what.kind) (int_eq row.id what.id) (slice_cmp nat_cmp row.kind what.kind) (int_cmp row.id what.id)
    (texts_ties row.kind what.kind) refl

one_place : (what : ResourceId) (row : Row) (n m : ℕ)
    → (is_at what row && (n == m)) ≡ is_eq (place_cmp ((row.kind, row.id), n) ((what.kind, what.id), m))
one_place what row n m =
    both_tied (is_at what row) (n == m) (key_cmp (row.kind, row.id) (what.kind, what.id)) (nat_cmp n m) (one_key what row) (unsigned_ties n m)

-- with one more row, its type and id count once more, and no other
pub counted_one : (old new : BTreeMap (List ℕ × ℤ) ℕ) (row : Row) (key : List ℕ × ℤ) (n : ℕ) → key ≡ (row.kind, row.id) → n ≡ count_of old (id_of row)
    → Updates key_cmp old new key (Some (n + 1)) → (what : ResourceId) → count_of new what ≡ count_of old what + (if is_at what row then 1 else 0)
counted_one old new row key n own is updates what =
    ap (λ (found : Option ℕ). unwrap_or found 0) (updates.0 (what.kind, what.id)) ∙ by (is_at what row) refl
  where
    by : (at : Bool) → is_at what row ≡ at
        → unwrap_or (cond (is_eq (key_cmp key (what.kind, what.id))) (Some (n + 1)) (get key_cmp old (what.kind, what.id))) 0
        ≡ count_of old what + (if is_at what row then 1 else 0)
    by true at = rw (own, sym (one_key what row) ∙ at, at) (ap (λ (n : ℕ). n + 1) (is ∙ ap (count_of old) (id_is what row at)))
    by false at = rw (own, sym (one_key what row) ∙ at, at) (omega arith)

-- so the rows are counted with it
pub counted : (old new : BTreeMap (List ℕ × ℤ) ℕ) (rows : List Row) (i : ℕ) (d : Row) → i < length rows → HasCounted old (take i rows)
    → ((what : ResourceId) → count_of new what ≡ count_of old what + (if is_at what (get_or rows i d) then 1 else 0)) → HasCounted new (take (i + 1) rows)
counted old new rows i d within before one what =
    one what ∙ ap (λ (n : ℕ). n + (if is_at what (get_or rows i d) then 1 else 0)) (before what) ∙ sym (length-filter_more (is_at what) rows i d within)

-- there are no more of a type and id than rows
few_more : (what : ResourceId) (row : Row) (rows : List Row) (n : ℕ) (at : Bool) → is_at what row ≡ at → count_at what rows ≤ n → count_at what (row ∷ rows) ≤ suc n
few_more what row rows n true at few = rw (at) (omega arith)
few_more what row rows n false at few = rw (at) (omega arith)

few_taken : (what : ResourceId) (rows : List Row) (i : ℕ) → count_at what (take i rows) ≤ length rows
few_taken what rows zero = omega arith
few_taken what [] (suc i) = omega arith
few_taken what (row ∷ rows) (suc i) = few_more what row (take i rows) (length rows) (is_at what row) refl (few_taken what rows i)

pub few : (counts : BTreeMap (List ℕ × ℤ) ℕ) (rows : List Row) (i : ℕ) (what : ResourceId) → HasCounted counts (take i rows) → length rows < 2 ^ 63 → count_of counts what < 2 ^ 63
few counts rows i what before small = let most = few_taken what rows i in let is = before what in omega arith

-- the items with one more
get_push : (rows : List Row) (row : Row) (n : ℕ) → slice_get (rows ++ row ∷ []) n ≡ cond (length rows == n) (Some row) (slice_get rows n)
get_push [] row zero = refl
get_push [] row (suc n) = rw (eqb-zero-suc n) refl
get_push (other ∷ rows) row zero = rw (eqb-suc-zero (length rows)) refl
get_push (other ∷ rows) row (suc n) = rw (eqb-suc-suc (length rows) n) (get_push rows row n)

-- the n-th of a type and id with one more row
nth_push : (what : ResourceId) (rows : List Row) (row : Row) (n : ℕ)
    → nth_at what n (rows ++ row ∷ []) ≡ cond (is_at what row && (count_at what rows == n)) (Some row) (nth_at what n rows)
nth_push what rows row n = ap (λ (found : List Row). slice_get found n) (filter-append (is_at what) rows (row ∷ [])) ∙ by (is_at what row) refl
  where
    by : (at : Bool) → is_at what row ≡ at
        → slice_get (filter (is_at what) rows ++ filter (is_at what) (row ∷ [])) n ≡ cond (is_at what row && (count_at what rows == n)) (Some row) (nth_at what n rows)
    by true at = rw (at) (get_push (filter (is_at what) rows) row n)
    by false at = rw (at) (ap (λ (found : List Row). slice_get found n) (append-nil (filter (is_at what) rows)))

-- which one the row is, in a test of another
same_nth : (what : ResourceId) (rows : List Row) (row : Row) (n m : ℕ) → n ≡ count_at (id_of row) rows
    → (is_at what row && (n == m)) ≡ (is_at what row && (count_at what rows == m))
same_nth what rows row n m is = by (is_at what row) refl
  where
    by : (at : Bool) → is_at what row ≡ at → (is_at what row && (n == m)) ≡ (is_at what row && (count_at what rows == m))
    by true at = rw (at) (ap (λ (k : ℕ). k == m) (is ∙ ap (λ (id : ResourceId). count_at id rows) (id_is what row at)))
    by false at = rw (at) refl

copied_cond : (test : Bool) (row : Bor Row) (other : Option (Bor Row)) → option_copied (cond test (Some row) other) ≡ cond test (Some row.now) (option_copied other)
copied_cond true row other = refl
copied_cond false row other = refl

-- an index with one more row
pub indexed : (old new : BTreeMap ((List ℕ × ℤ) × ℕ) (Bor Row)) (rows : List Row) (row : Bor Row) (key : List ℕ × ℤ) (n : ℕ) → key ≡ (row.now.kind, row.now.id)
    → n ≡ count_at (id_of row.now) rows → Updates place_cmp old new (key, n) (Some row) → IsIndexOf old rows → IsIndexOf new (rows ++ row.now ∷ [])
indexed old new rows row key n own is updates before what m =
    let place : (List ℕ × ℤ) × ℕ = ((what.kind, what.id), m) in
    ap option_copied (updates.0 place)
    ∙ copied_cond (is_eq (place_cmp (key, n) place)) row (get place_cmp old place)
    ∙ ap (λ (test : Bool). cond test (Some row.now) (option_copied (get place_cmp old place)))
    (ap (λ (k : List ℕ × ℤ). is_eq (place_cmp (k, n) place)) own ∙ sym (one_place what row.now n m) ∙ same_nth what rows row.now n m is)
    ∙ ap (λ (found : Option Row). cond (is_at what row.now && (count_at what rows == m)) (Some row.now) found) (before what m)
    ∙ sym (nth_push what rows row.now m)

-- what differs of the first table's rows, with one more of them
pub changed_more : (found now : List Entry) (second first : List Row) (i n : ℕ) (row : Row) (other : Option Row) → i < length first → get_or first i row ≡ row
    → n ≡ count_at (id_of row) (take i first) → other ≡ nth_at (id_of row) n second → now ≡ found ++ against n row other
    → now ++ changed_in second (take (i + 1) first) (drop (i + 1) first) ≡ found ++ changed_in second (take i first) (drop i first)
changed_more found now second first i n row other within here is nth adds =
    let front : take (i + 1) first ≡ take i first ++ row ∷ [] = take_more first i row within ∙ ap (λ (x : Row). take i first ++ x ∷ []) here in
    let back : drop i first ≡ row ∷ drop (i + 1) first = drop_more first i row within ∙ ap (λ (x : Row). x ∷ drop (i + 1) first) here in
    let parts : against n row other ≡ against (count_at (id_of row) (take i first)) row (nth_at (id_of row) (count_at (id_of row) (take i first)) second) =
    ap (against n row) nth ∙ ap (λ (k : ℕ). against k row (nth_at (id_of row) k second)) is in
    ap (λ (entries : List Entry). entries ++ changed_in second (take (i + 1) first) (drop (i + 1) first)) adds
    ∙ append_assoc found (against n row other) (changed_in second (take (i + 1) first) (drop (i + 1) first))
    ∙ ap (λ (entries : List Entry). found ++ (entries ++ changed_in second (take (i + 1) first) (drop (i + 1) first))) parts
    ∙ ap (λ (before : List Row). found ++ (against (count_at (id_of row) (take i first)) row (nth_at (id_of row) (count_at (id_of row) (take i first)) second) ++ changed_in second before (drop (i + 1) first))) front
    ∙ ap (λ (rows : List Row). found ++ changed_in second (take i first) rows) (sym back)

-- those of the second table's rows that the first hasn't, with one more of them
pub added_more : (found now : List Entry) (first second : List Row) (i n : ℕ) (row : Row) (other : Option Row) → i < length second → get_or second i row ≡ row
    → n ≡ count_at (id_of row) (take i second) → other ≡ nth_at (id_of row) n first → now ≡ found ++ only_new n row other
    → now ++ added_in first (take (i + 1) second) (drop (i + 1) second) ≡ found ++ added_in first (take i second) (drop i second)
added_more found now first second i n row other within here is nth adds =
    let front : take (i + 1) second ≡ take i second ++ row ∷ [] = take_more second i row within ∙ ap (λ (x : Row). take i second ++ x ∷ []) here in
    let back : drop i second ≡ row ∷ drop (i + 1) second = drop_more second i row within ∙ ap (λ (x : Row). x ∷ drop (i + 1) second) here in
    let parts : only_new n row other ≡ only_new (count_at (id_of row) (take i second)) row (nth_at (id_of row) (count_at (id_of row) (take i second)) first) =
    ap (only_new n row) nth ∙ ap (λ (k : ℕ). only_new k row (nth_at (id_of row) k first)) is in
    ap (λ (entries : List Entry). entries ++ added_in first (take (i + 1) second) (drop (i + 1) second)) adds
    ∙ append_assoc found (only_new n row other) (added_in first (take (i + 1) second) (drop (i + 1) second))
    ∙ ap (λ (entries : List Entry). found ++ (entries ++ added_in first (take (i + 1) second) (drop (i + 1) second))) parts
    ∙ ap (λ (before : List Row). found ++ (only_new (count_at (id_of row) (take i second)) row (nth_at (id_of row) (count_at (id_of row) (take i second)) first) ++ added_in first before (drop (i + 1) second))) front
    ∙ ap (λ (rows : List Row). found ++ added_in first (take i second) rows) (sym back)

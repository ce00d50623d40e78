-- What one more row does to the counts.
use Rattle.std.proofs.Common.{◌≡◌, ℕ, ◌+◌, Bool, true, false, cond, if◌then◌else◌, List, Some, refl, sym, ap, ◌∙◌, arith, BTreeMap, unwrap_or, Option}
use Rattle.std.specs.Prelude.{ℤ, bytes_eq}
use Rattle.std.specs.Ordering.{int_cmp, int_eq, is_eq, nat_cmp}
use Rattle.std.specs.Cmp.{both_tied}
use Rattle.std.specs.Cmp.Lexicographic.{slice_cmp, texts_ties}
use Rattle.std.specs.BTreeMap.{Updates, get}
use Rattle.std.proofs.lemmas.Bool.{and_parts}
use Rattle.std.proofs.lemmas.Bool.Decides.{Decides-int_eq}
use Rattle.std.proofs.lemmas.Slice.Eq.{bytes_eq-Decides}
use Rattle.fork_bytes.specs.Rows.{Row}
use Rattle.fork_folder.specs.Counts.{count_of, key_cmp, kind_count}
use Rattle.fork_folder.specs.Unpacked.{is_same}

-- rows have one key where they have one type and one id
one_key : (row other : Row) → is_same other row ≡ is_eq (key_cmp (row.kind, row.id) (other.kind, other.id))
one_key row other =
    both_tied (bytes_eq row.kind other.kind) (int_eq row.id other.id) (slice_cmp nat_cmp row.kind other.kind) (int_cmp row.id other.id)
    (texts_ties row.kind other.kind) refl

-- so they have one count
one_count : (counts : BTreeMap (List ℕ × ℤ) ℕ) (row other : Row) → is_same other row ≡ true → count_of counts row ≡ count_of counts other
one_count counts row other same =
    let parts = and_parts (bytes_eq row.kind other.kind) (int_eq row.id other.id) same in
    let kinds = (bytes_eq-Decides row.kind other.kind).0 parts.0 in
    let ids = (Decides-int_eq row.id other.id).0 parts.1 in
    ap (λ (kind : List ℕ). unwrap_or (get key_cmp counts (kind, row.id)) 0) kinds
    ∙ ap (λ (id : ℤ). unwrap_or (get key_cmp counts (other.kind, id)) 0) ids

-- with one more row, its type and id count once more, and no other
pub counted : (old new : BTreeMap (List ℕ × ℤ) ℕ) (row : Row) (key : List ℕ × ℤ) (n : ℕ) → key ≡ (row.kind, row.id) → n ≡ count_of old row
    → Updates key_cmp old new key (Some (n + 1)) → (other : Row) → count_of new other ≡ count_of old other + (if is_same other row then 1 else 0)
counted old new row key n at is updates other =
    ap (λ (found : Option ℕ). unwrap_or found 0) (updates.0 (other.kind, other.id)) ∙ by (is_same other row) refl
  where
    by : (same : Bool) → is_same other row ≡ same
        → unwrap_or (cond (is_eq (key_cmp key (other.kind, other.id))) (Some (n + 1)) (get key_cmp old (other.kind, other.id))) 0
        ≡ count_of old other + (if is_same other row then 1 else 0)
    by true same = rw (at, sym (one_key row other) ∙ same, same) (ap (λ (n : ℕ). n + 1) (is ∙ one_count old row other same))
    by false same = rw (at, sym (one_key row other) ∙ same, same) (omega arith)

-- with one more of a type, this counts once more, and no other
pub kind_counted : (old new : BTreeMap (List ℕ) ℕ) (kind : List ℕ) (n : ℕ) → n ≡ kind_count old kind
    → Updates (slice_cmp nat_cmp) old new kind (Some (n + 1)) → (other : List ℕ) → kind_count new other ≡ kind_count old other + (if bytes_eq kind other then 1 else 0)
kind_counted old new kind n is updates other =
    ap (λ (found : Option ℕ). unwrap_or found 0) (updates.0 other) ∙ by (bytes_eq kind other) refl
  where
    by : (same : Bool) → bytes_eq kind other ≡ same
        → unwrap_or (cond (is_eq (slice_cmp nat_cmp kind other)) (Some (n + 1)) (get (slice_cmp nat_cmp) old other)) 0
        ≡ kind_count old other + (if bytes_eq kind other then 1 else 0)
    by true same = rw (sym (texts_ties kind other) ∙ same, same) (ap (λ (n : ℕ). n + 1) (is ∙ ap (kind_count old) ((bytes_eq-Decides kind other).0 same)))
    by false same = rw (sym (texts_ties kind other) ∙ same, same) (omega arith)

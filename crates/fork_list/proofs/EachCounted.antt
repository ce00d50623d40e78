-- What one more row does to the counts.
use Rattle.std.proofs.Common.{◌≡◌, ℕ, ◌+◌, Bool, true, false, cond, if◌then◌else◌, List, Some, refl, sym, ap, ◌∙◌, arith, BTreeMap, unwrap_or, Option}
use Rattle.std.specs.Prelude.{bytes_eq}
use Rattle.std.specs.Ordering.{is_eq, nat_cmp}
use Rattle.std.specs.Cmp.Lexicographic.{slice_cmp, texts_ties}
use Rattle.std.specs.BTreeMap.{Updates, get}
use Rattle.std.proofs.lemmas.Slice.Eq.{bytes_eq-Decides}
use Rattle.fork_list.specs.Counts.{count_of}

-- with one more row, its type counts once more, and no other
pub counted : (old new : BTreeMap (List ℕ) ℕ) (kind key : List ℕ) (n : ℕ) → key ≡ kind → n ≡ count_of old kind
    → Updates (slice_cmp nat_cmp) old new key (Some (n + 1)) → (other : List ℕ) → count_of new other ≡ count_of old other + (if bytes_eq kind other then 1 else 0)
counted old new kind key n at is updates other =
    ap (λ (found : Option ℕ). unwrap_or found 0) (updates.0 other) ∙ by (bytes_eq kind other) refl
  where
    by : (same : Bool) → bytes_eq kind other ≡ same
        → unwrap_or (cond (is_eq (slice_cmp nat_cmp key other)) (Some (n + 1)) (get (slice_cmp nat_cmp) old other)) 0
        ≡ count_of old other + (if bytes_eq kind other then 1 else 0)
    by true same =
        let kinds = (bytes_eq-Decides kind other).0 same in
        rw (at, sym (texts_ties kind other) ∙ same, same) (ap (λ (n : ℕ). n + 1) (is ∙ ap (λ (k : List ℕ). count_of old k) kinds))
    by false same = rw (at, sym (texts_ties kind other) ∙ same, same) (omega arith)

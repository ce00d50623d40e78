-- Numbers that are copied piece by piece.
use Rattle.std.proofs.Common.{◌≡◌, ℕ, List, ◌++◌, sym, ◌∙◌, length-append, ◌+◌, ◌-◌, ◌<◌, ◌≤◌, inl, inr, length, get_or, take, drop, arith, get_or-take, get_or-drop}
use Rattle.std.proofs.lemmas.Bool.{cases_lt}
use Rattle.std.proofs.lemmas.List.{ext_get_or, get_or_append_left, get_or-append_right, length-take-le, length-drop}
use Rattle.place_numbers.specs.Shifted.{copied}
use Rattle.place_numbers.proofs.Moved.{same-place}

-- n numbers of xs from a place on are in ys from another on, and the others where they were
pub record IsCopied (xs ys : List ℕ) (from to n : ℕ) : Type 0 where
  pub len : length ys ≡ length xs
  pub below : (j : ℕ) → j < to → get_or ys j 0 ≡ get_or xs j 0
  pub there : (j : ℕ) → to ≤ j → j < to + n → get_or ys j 0 ≡ get_or xs (from + (j - to)) 0
  pub after : (j : ℕ) → to + n ≤ j → get_or ys j 0 ≡ get_or xs j 0

-- so it is in the list with a copy
pub is-copied : (xs : List ℕ) (from to n : ℕ) → from + n ≤ length xs → to + n ≤ length xs → IsCopied xs (copied from to n xs) from to n
is-copied xs from to n from-in to-in =
    let ks = take to xs in let ls = take n (drop from xs) in let ms = drop (to + n) xs in
    let one : length ks ≡ to = length-take-le to xs (omega arith) in
    let rest = length-drop from xs in let last = length-drop (to + n) xs in
    let two : length ls ≡ n = length-take-le n (drop from xs) (omega arith) in
    let both : length (ks ++ ls) ≡ to + n = length-append ks ls ∙ (let e : length ks + length ls ≡ to + n = omega arith in e) in
    record {
      len = length-append (ks ++ ls) ms ∙ (let e : length (ks ++ ls) + length ms ≡ length xs = omega arith in e);
      below = λ j low. get_or_append_left (ks ++ ls) ms 0 j (omega arith) ∙ get_or_append_left ks ls 0 j (omega arith) ∙ get_or-take to xs j 0 low;
      there = λ j past before. get_or_append_left (ks ++ ls) ms 0 j (omega arith) ∙ get_or-append_right ks ls to j 0 one past
          ∙ get_or-take n (drop from xs) (j - to) 0 (omega arith) ∙ get_or-drop from xs (j - to) 0;
      after = λ j past. get_or-append_right (ks ++ ls) ms (to + n) j 0 both past ∙ get_or-drop (to + n) xs (j - (to + n)) 0 ∙ same-place xs (to + n + (j - (to + n))) j (omega arith);
    }

-- and that is all there is to say of it
pub only-copied : (xs ys zs : List ℕ) (from to n : ℕ) → IsCopied xs ys from to n → IsCopied xs zs from to n → ys ≡ zs
only-copied xs ys zs from to n one other = ext_get_or 0 ys zs (one.len ∙ sym other.len) (λ j inside. elim (cases_lt j to) [
  | inl low ↦ one.below j low ∙ sym (other.below j low)
  | inr past ↦ elim (cases_lt j (to + n)) [
    | inl before ↦ one.there j past before ∙ sym (other.there j past before)
    | inr after ↦ one.after j after ∙ sym (other.after j after)
  ]
])

-- the first m numbers are copied down, and the k after them follow
pub down-more : (xs : List ℕ) (from to m k : ℕ) → to ≤ from → from + (m + k) ≤ length xs
    → copied (from + m) (to + m) k (copied from to m xs) ≡ copied from to (m + k) xs
down-more xs from to m k down inside =
    let ys = copied from to m xs in
    let first = is-copied xs from to m (omega arith) (omega arith) in
    let long = first.len in
    let next = is-copied ys (from + m) (to + m) k (omega arith) (omega arith) in
    only-copied xs (copied (from + m) (to + m) k ys) (copied from to (m + k) xs) from to (m + k)
    record {
      len = next.len ∙ first.len;
      below = λ j low. next.below j (omega arith) ∙ first.below j low;
      there = λ j past before. elim (cases_lt j (to + m)) [
        | inl early ↦ next.below j early ∙ first.there j past early
        | inr late ↦ next.there j late (omega arith) ∙ first.after (from + m + (j - (to + m))) (omega arith) ∙ same-place xs (from + m + (j - (to + m))) (from + (j - to)) (omega arith)
      ];
      after = λ j past. next.after j (omega arith) ∙ first.after j (omega arith);
    }
    (is-copied xs from to (m + k) inside (omega arith))

-- the last m numbers are copied up, and the k before them follow
pub up-more : (xs : List ℕ) (from to k m : ℕ) → from ≤ to → to + (k + m) ≤ length xs
    → copied from to k (copied (from + k) (to + k) m xs) ≡ copied from to (k + m) xs
up-more xs from to k m up inside =
    let ys = copied (from + k) (to + k) m xs in
    let first = is-copied xs (from + k) (to + k) m (omega arith) (omega arith) in
    let long = first.len in
    let next = is-copied ys from to k (omega arith) (omega arith) in
    only-copied xs (copied from to k ys) (copied from to (k + m) xs) from to (k + m)
    record {
      len = next.len ∙ first.len;
      below = λ j low. next.below j low ∙ first.below j (omega arith);
      there = λ j past before. elim (cases_lt j (to + k)) [
        | inl early ↦ next.there j past early ∙ first.below (from + (j - to)) (omega arith)
        | inr late ↦ next.after j late ∙ first.there j late (omega arith) ∙ same-place xs (from + k + (j - (to + k))) (from + (j - to)) (omega arith)
      ];
      after = λ j past. next.after j (omega arith) ∙ first.after j (omega arith);
    }
    (is-copied xs from to (k + m) (omega arith) inside)

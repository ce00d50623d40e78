-- Marks that move to other places.
use Rattle.std.proofs.Common.{◌≡◌, ℕ, zero, suc, refl, List, ◌++◌, replicate, sym, ap, ◌∙◌, length-append, ◌+◌, ◌-◌, ◌<◌, ◌≤◌, inl, inr, length, get_or, take, drop, arith, get_or-take, get_or-drop}
use Rattle.std.proofs.lemmas.Bool.{cases_lt}
use Rattle.std.proofs.lemmas.List.{ext_get_or, get_or_append_left, get_or-append_right, length-replicate, length-take-le, length-drop}
use Rattle.place_numbers.specs.Shifted.{shifted_down, shifted_up}

-- zeros
pub zeros-at : (k j : ℕ) → get_or {A = ℕ} (replicate k 0) j 0 ≡ 0
zeros-at zero j = refl
zeros-at (suc k) zero = refl
zeros-at (suc k) (suc j) = zeros-at k j

-- those of xs from `to + gap` up to `place` have moved down by `gap`, and 0 is in all other places from `to` on
pub record MovedDown (xs ys : List ℕ) (to gap place : ℕ) : Type 0 where
  pub len : length ys ≡ length xs
  pub below : (j : ℕ) → j < to → get_or ys j 0 ≡ get_or xs j 0
  pub moved : (j : ℕ) → to ≤ j → j + gap < place → get_or ys j 0 ≡ get_or xs (j + gap) 0
  pub zeros : (j : ℕ) → to ≤ j → place ≤ j + gap → j < place → get_or ys j 0 ≡ 0
  pub after : (j : ℕ) → place ≤ j → get_or ys j 0 ≡ get_or xs j 0

-- those of xs from `place` on have moved up by `gap`, as far as this is before `end`, and 0 is in all other places
-- up to there
pub record MovedUp (xs ys : List ℕ) (end gap place : ℕ) : Type 0 where
  pub len : length ys ≡ length xs
  pub below : (j : ℕ) → j < place → get_or ys j 0 ≡ get_or xs j 0
  pub zeros : (j : ℕ) → place ≤ j → j < place + gap → j < end → get_or ys j 0 ≡ 0
  pub moved : (j : ℕ) → place + gap ≤ j → j < end → get_or ys j 0 ≡ get_or xs (j - gap) 0
  pub after : (j : ℕ) → end ≤ j → get_or ys j 0 ≡ get_or xs j 0

-- what is where in a list of four parts
module _ (ks ls ms ns : List ℕ) (k l m j : ℕ) (k-is : length ks ≡ k) (l-is : length (ks ++ ls) ≡ l) (m-is : length ((ks ++ ls) ++ ms) ≡ m) where
  first : k ≤ l → l ≤ m → j < k → get_or (((ks ++ ls) ++ ms) ++ ns) j 0 ≡ get_or ks j 0
  first kl lm in-it =
      get_or_append_left ((ks ++ ls) ++ ms) ns 0 j (omega arith) ∙ get_or_append_left (ks ++ ls) ms 0 j (omega arith) ∙ get_or_append_left ks ls 0 j (omega arith)

  second : l ≤ m → k ≤ j → j < l → get_or (((ks ++ ls) ++ ms) ++ ns) j 0 ≡ get_or ls (j - k) 0
  second lm past in-it =
      get_or_append_left ((ks ++ ls) ++ ms) ns 0 j (omega arith) ∙ get_or_append_left (ks ++ ls) ms 0 j (omega arith) ∙ get_or-append_right ks ls k j 0 k-is past

  third : l ≤ j → j < m → get_or (((ks ++ ls) ++ ms) ++ ns) j 0 ≡ get_or ms (j - l) 0
  third past in-it = get_or_append_left ((ks ++ ls) ++ ms) ns 0 j (omega arith) ∙ get_or-append_right (ks ++ ls) ms l j 0 l-is past

  fourth : m ≤ j → get_or (((ks ++ ls) ++ ms) ++ ns) j 0 ≡ get_or ns (j - m) 0
  fourth past = get_or-append_right ((ks ++ ls) ++ ms) ns m j 0 m-is past

pub same-place : (xs : List ℕ) (i j : ℕ) → i ≡ j → get_or xs i 0 ≡ get_or xs j 0
same-place xs i j is = ap (λ (k : ℕ). get_or xs k 0) is

-- so it is in the shifted lists
pub shifted-down : (xs : List ℕ) (from to n : ℕ) → to ≤ from → from + n ≤ length xs → MovedDown xs (shifted_down from to n xs) to (from - to) (from + n)
shifted-down xs from to n down inside =
    let ks = take to xs in let ls = take n (drop from xs) in let ms = replicate {A = ℕ} (from - to) 0 in let ns = drop (from + n) xs in
    let one : length ks ≡ to = length-take-le to xs (omega arith) in
    let rest = length-drop from xs in let last = length-drop (from + n) xs in
    let two : length ls ≡ n = length-take-le n (drop from xs) (omega arith) in
    let three : length ms ≡ from - to = length-replicate (from - to) 0 in
    let one-two : length (ks ++ ls) ≡ to + n = length-append ks ls ∙ (let e : length ks + length ls ≡ to + n = omega arith in e) in
    let to-three : length ((ks ++ ls) ++ ms) ≡ from + n = length-append (ks ++ ls) ms ∙ (let e : length (ks ++ ls) + length ms ≡ from + n = omega arith in e) in
    record {
      len = length-append ((ks ++ ls) ++ ms) ns ∙ (let e : length ((ks ++ ls) ++ ms) + length ns ≡ length xs = omega arith in e);
      below = λ j low. first ks ls ms ns to (to + n) (from + n) j one one-two to-three (omega arith) (omega arith) low ∙ get_or-take to xs j 0 low;
      moved = λ j low high. second ks ls ms ns to (to + n) (from + n) j one one-two to-three (omega arith) low (omega arith)
          ∙ get_or-take n (drop from xs) (j - to) 0 (omega arith) ∙ get_or-drop from xs (j - to) 0 ∙ same-place xs (from + (j - to)) (j + (from - to)) (omega arith);
      zeros = λ j low past high. third ks ls ms ns to (to + n) (from + n) j one one-two to-three (omega arith) high ∙ zeros-at (from - to) (j - (to + n));
      after = λ j past. fourth ks ls ms ns to (to + n) (from + n) j one one-two to-three past ∙ get_or-drop (from + n) xs (j - (from + n)) 0 ∙ same-place xs (from + n + (j - (from + n))) j (omega arith);
    }

pub shifted-up : (xs : List ℕ) (from to n : ℕ) → from ≤ to → to + n ≤ length xs → MovedUp xs (shifted_up from to n xs) (to + n) (to - from) from
shifted-up xs from to n up inside =
    let ks = take from xs in let ls = replicate {A = ℕ} (to - from) 0 in let ms = take n (drop from xs) in let ns = drop (to + n) xs in
    let one : length ks ≡ from = length-take-le from xs (omega arith) in
    let rest = length-drop from xs in let last = length-drop (to + n) xs in
    let two : length ls ≡ to - from = length-replicate (to - from) 0 in
    let three : length ms ≡ n = length-take-le n (drop from xs) (omega arith) in
    let one-two : length (ks ++ ls) ≡ to = length-append ks ls ∙ (let e : length ks + length ls ≡ to = omega arith in e) in
    let to-three : length ((ks ++ ls) ++ ms) ≡ to + n = length-append (ks ++ ls) ms ∙ (let e : length (ks ++ ls) + length ms ≡ to + n = omega arith in e) in
    record {
      len = length-append ((ks ++ ls) ++ ms) ns ∙ (let e : length ((ks ++ ls) ++ ms) + length ns ≡ length xs = omega arith in e);
      below = λ j low. first ks ls ms ns from to (to + n) j one one-two to-three up (omega arith) low ∙ get_or-take from xs j 0 low;
      zeros = λ j low past high. second ks ls ms ns from to (to + n) j one one-two to-three (omega arith) low (omega arith) ∙ zeros-at (to - from) (j - from);
      moved = λ j past high. third ks ls ms ns from to (to + n) j one one-two to-three (omega arith) high
          ∙ get_or-take n (drop from xs) (j - to) 0 (omega arith) ∙ get_or-drop from xs (j - to) 0 ∙ same-place xs (from + (j - to)) (j - (to - from)) (omega arith);
      after = λ j past. fourth ks ls ms ns from to (to + n) j one one-two to-three past ∙ get_or-drop (to + n) xs (j - (to + n)) 0 ∙ same-place xs (to + n + (j - (to + n))) j (omega arith);
    }

-- that is all there is to say of the list
pub only-down : (xs ys zs : List ℕ) (to gap place : ℕ) → MovedDown xs ys to gap place → MovedDown xs zs to gap place → ys ≡ zs
only-down xs ys zs to gap place one other = ext_get_or 0 ys zs (one.len ∙ sym other.len) (λ j inside. elim (cases_lt j to) [
  | inl low ↦ one.below j low ∙ sym (other.below j low)
  | inr from ↦ elim (cases_lt (j + gap) place) [
    | inl early ↦ one.moved j from early ∙ sym (other.moved j from early)
    | inr late ↦ elim (cases_lt j place) [
      | inl before ↦ one.zeros j from late before ∙ sym (other.zeros j from late before)
      | inr past ↦ one.after j past ∙ sym (other.after j past)
    ]
  ]
])

pub only-up : (xs ys zs : List ℕ) (end gap place : ℕ) → MovedUp xs ys end gap place → MovedUp xs zs end gap place → ys ≡ zs
only-up xs ys zs end gap place one other = ext_get_or 0 ys zs (one.len ∙ sym other.len) (λ j inside. elim (cases_lt j place) [
  | inl low ↦ one.below j low ∙ sym (other.below j low)
  | inr from ↦ elim (cases_lt j end) [
    | inl before ↦ elim (cases_lt j (place + gap)) [
      | inl early ↦ one.zeros j from early before ∙ sym (other.zeros j from early before)
      | inr late ↦ one.moved j late before ∙ sym (other.moved j late before)
    ]
    | inr past ↦ one.after j past ∙ sym (other.after j past)
  ]
])

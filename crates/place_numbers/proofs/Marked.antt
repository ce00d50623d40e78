-- What bits of words say of the marks.
use Rattle.std.proofs.Common.{◌≡◌, ◌≢◌, ℕ, [], zero, Bool, true, false, not, nat_eq, List, replicate, refl, sym, ap, ◌∙◌, ◌+◌, ◌-◌, ◌*◌, ◌/◌, ◌%◌, ◌^◌, ◌<◌, ◌≤◌, suc, inl, inr, ◌⊎◌, length, get_or, arith, get_or-set_same, get_or-set_other, length-set, w64}
use Rattle.std.proofs.Math.ListN.{set}
use Rattle.std.specs.Int.{bit_at, from_bool, trailing_zeros}
use Rattle.std.specs.Int.RustNames.{bit_and}
use Rattle.std.proofs.lemmas.Bool.{cases_eq, cases_lt, eqb-true, eqb-false}
use Rattle.std.proofs.lemmas.List.{ext_get_or, get_or_past, length-replicate}
use Rattle.std.proofs.lemmas.List.FromFn.{length-map-range_with_len, get_or-map-range_with_len}
use Rattle.std.proofs.lemmas.Nat.{shr-shr, shr_high}
use Rattle.std.proofs.lemmas.Nat.Bits.{bit_at-zero, bit_at-lt, shr_and_one, bit_at_and, bit_at_ones, bit_at_ones_above, bit_at_above, bit_at-trailing_zeros}
use Rattle.place_numbers.specs.Bits.{mark_of, FirstBit, LastBit, bit_of, bits_of, AreWritten, HasMark}
use Rattle.place_numbers.specs.Numbers.{FirstAtLeast, LastAtLeast}
use Rattle.place_numbers.proofs.Moved.{zeros-at, same-place}

-- the bits of a word from a place on
pub shifted-bit : (n k i : ℕ) → bit_at (n / 2 ^ k) i ≡ bit_at n (k + i)
shifted-bit n k i = ap (λ (m : ℕ). m % 2) (shr-shr n k i)

later-bit : (n k i : ℕ) → k ≤ i → bit_at n i ≡ bit_at (n / 2 ^ k) (i - k)
later-bit n k i from = let is : k + (i - k) ≡ i = omega arith in sym (shifted-bit n k (i - k) ∙ ap (bit_at n) is)

pub first-bit : (n from t : ℕ) → n < 2 ^ 64 → 0 < n / 2 ^ from → n / 2 ^ from < 2 ^ 64 → t ≡ trailing_zeros w64 (n / 2 ^ from) → FirstBit n from (from + t)
first-bit n from t small some rest is =
    let found = bit_at-trailing_zeros w64 (n / 2 ^ from) some rest in
    let one : bit_at n (from + t) ≡ 1 = sym (shifted-bit n from t) ∙ ap (bit_at (n / 2 ^ from)) is ∙ found.1 in
    record {
      inside = (
        omega arith,
        elim (cases_lt (from + t) 64) [
          | inl low ↦ low
          | inr high ↦ let none = bit_at_above n 64 (from + t) small high in absurd (omega arith)
        ],
      );
      one = one;
      first = λ i past below. later-bit n from i past ∙ found.2 (i - from) (let so : i - from < t = omega arith in omega (arith, so, is));
    }

pub no-first-bit : (n from : ℕ) → n / 2 ^ from ≡ 0 → (i : ℕ) → from ≤ i → bit_at n i ≡ 0
no-first-bit n from none i past = later-bit n from i past ∙ ap (λ (m : ℕ). bit_at m (i - from)) none ∙ bit_at-zero (i - from)

-- the bits of a word up to a place
front-bit : (n end i : ℕ) → i < end → bit_at (bit_and n (2 ^ end - 1)) i ≡ bit_at n i
front-bit n end i low =
    let both = bit_at_and n (2 ^ end - 1) i in let ones = bit_at_ones end i low in let small = bit_at-lt n i in omega arith

no-bit : (n end i : ℕ) → end ≤ i → bit_at (bit_and n (2 ^ end - 1)) i ≡ 0
no-bit n end i past =
    let both = bit_at_and n (2 ^ end - 1) i in let ones = bit_at_ones_above end i past in omega arith

-- the highest bit of a number
top-bit : (n r : ℕ) → 2 ^ r ≤ n → n < 2 * 2 ^ r → bit_at n r ≡ 1
top-bit n r low high =
    let whole : n ≡ 1 * 2 ^ r + (n - 2 ^ r) = omega arith in
    let top : n / 2 ^ r ≡ 1 = ap (λ (m : ℕ). m / 2 ^ r) whole ∙ shr_high 1 r (n - 2 ^ r) (omega arith) in
    ap (λ (m : ℕ). m % 2) top

pub last-bit : (n end r : ℕ) → 2 ^ r ≤ bit_and n (2 ^ end - 1) → bit_and n (2 ^ end - 1) < 2 * 2 ^ r → LastBit n end r
last-bit n end r low high =
    let front = bit_and n (2 ^ end - 1) in
    let one = top-bit front r low high in
    let inside : r < end = elim (cases_lt r end) [
      | inl below ↦ below
      | inr past ↦ let none = no-bit n end r past in absurd (omega arith)
    ] in
    record {
      inside = inside;
      one = sym (front-bit n end r inside) ∙ one;
      last = λ i above below. sym (front-bit n end i below) ∙ bit_at_above front (suc r) i (omega arith) (omega arith);
    }

pub no-last-bit : (n end : ℕ) → bit_and n (2 ^ end - 1) ≡ 0 → (i : ℕ) → i < end → bit_at n i ≡ 0
no-last-bit n end none i low = sym (front-bit n end i low) ∙ ap (λ (m : ℕ). bit_at m i) none ∙ bit_at-zero i

-- what is read of a bit
pub read-bit : (n k : ℕ) → mark_of (not (nat_eq (bit_and (n / 2 ^ k) 1) 0)) ≡ bit_at n k
read-bit n k = ap (λ (m : ℕ). mark_of (not (nat_eq m 0))) (shr_and_one n k) ∙ as-mark (bit_at n k) (bit_at-lt n k)
  where
    as-mark : (b : ℕ) → b < 2 → mark_of (not (nat_eq b 0)) ≡ b
    as-mark zero low = refl
    as-mark (suc zero) low = refl
    as-mark (suc (suc b)) low = absurd (omega arith)

-- whether a word has a mark
turned : (b c : Bool) → not b ≡ c → b ≡ not c
turned true c is = ap not is
turned false c is = ap not is

pub has-some : (n : ℕ) → not (nat_eq n 0) ≡ true → 1 ≤ n
has-some n is = let other = eqb-false n 0 (turned (nat_eq n 0) true is) in omega arith

pub has-none : (n : ℕ) → not (nat_eq n 0) ≡ false → n ≡ 0
has-none n is = eqb-true n 0 (turned (nat_eq n 0) false is)

-- a place in a word
pub place-in : (words : List ℕ) (w b j : ℕ) → b < 64 → j ≡ w * 64 + b → bit_of words j ≡ bit_at (get_or words w 0) b
place-in words w b j small is =
    let word : j / 64 ≡ w = omega arith in let bit : j % 64 ≡ b = omega arith in
    (λ i. bit_at (get_or words (word i) 0) (bit i))

pub length-bits : (words : List ℕ) (count : ℕ) → length (bits_of words count) ≡ count
length-bits words count = length-map-range_with_len (bit_of words) 0 count

pub at : (words : List ℕ) (count j : ℕ) → j < count → get_or (bits_of words count) j 0 ≡ bit_of words j
at words count j inside = get_or-map-range_with_len (bit_of words) 0 count j j 0 inside (omega arith)

-- no words are no marks
pub no-bit-of : (j : ℕ) → bit_of [] j ≡ 0
no-bit-of j = bit_at-zero (j % 64)

pub no-marks : (count : ℕ) → bits_of [] count ≡ replicate count 0
no-marks count =
    let zeros : length {A = ℕ} (replicate count 0) ≡ count = length-replicate {A = ℕ} count 0 in
    ext_get_or 0 (bits_of [] count) (replicate count 0) (length-bits [] count ∙ sym zeros) (λ j inside.
    at [] count j (let long = length-bits [] count in omega arith) ∙ no-bit-of j ∙ sym (zeros-at count j))

-- what is seen of the marks
module _ (words : List ℕ) (count : ℕ) (past : (j : ℕ) → count ≤ j → bit_of words j ≡ 0) (now : List ℕ) (view : bits_of words count ≡ now) where
  pub long : length now ≡ count
  long = ap length (sym view) ∙ length-bits words count

  pub value : (j : ℕ) → get_or now j 0 ≡ bit_of words j
  value j = elim (cases_lt j count) [
    | inl inside ↦ ap (λ (l : List ℕ). get_or l j 0) (sym view) ∙ at words count j inside
    | inr end ↦ let l = long in get_or_past now j 0 (omega arith) ∙ sym (past j end)
  ]

  -- the mark at a place of a word
  pub in-word : (w b j : ℕ) → b < 64 → j ≡ w * 64 + b → get_or now j 0 ≡ bit_at (get_or words w 0) b
  in-word w b j small is = value j ∙ place-in words w b j small is

  marked-inside : (j : ℕ) → get_or now j 0 ≡ 1 → j < length now
  marked-inside j one = elim (cases_lt j (length now)) [
    | inl inside ↦ inside
    | inr end ↦ let none = get_or_past now j 0 end in absurd (omega arith)
  ]

  pub first-in : (from b n : ℕ) → n ≡ get_or words (from / 64) 0 → FirstBit n (from % 64) b → FirstAtLeast now 1 from (from / 64 * 64 + b)
  first-in from b n is it =
      let within = it.inside in
      let one : get_or now (from / 64 * 64 + b) 0 ≡ 1 = in-word (from / 64) b (from / 64 * 64 + b) within.1 refl ∙ ap (λ (m : ℕ). bit_at m b) (sym is) ∙ it.one in
      record {
        inside = (omega arith, marked-inside (from / 64 * 64 + b) one);
        large = omega arith;
        first = λ j after below.
            let i = j - from / 64 * 64 in
            let none = in-word (from / 64) i j (omega arith) (omega arith) ∙ ap (λ (m : ℕ). bit_at m i) (sym is) ∙ it.first i (omega arith) (omega arith) in
            omega (arith, none);
      }

  pub none-in : (from n : ℕ) → n ≡ get_or words (from / 64) 0 → ((i : ℕ) → from % 64 ≤ i → bit_at n i ≡ 0) → (j : ℕ) → from ≤ j → j / 64 ≡ from / 64 → get_or now j 0 < 1
  none-in from n is clear j after same =
      let i = j - from / 64 * 64 in
      let none = in-word (from / 64) i j (omega arith) (omega arith) ∙ ap (λ (m : ℕ). bit_at m i) (sym is) ∙ clear i (omega arith) in omega (arith, none)

  pub last-in : (end w b n : ℕ) → n ≡ get_or words w 0 → w * 64 ≤ end → end ≤ w * 64 + 64 → LastBit n (end - w * 64) b → LastAtLeast now 1 end (w * 64 + b)
  last-in end w b n is low high it =
      let within = it.inside in
      let one : get_or now (w * 64 + b) 0 ≡ 1 = in-word w b (w * 64 + b) (omega arith) refl ∙ ap (λ (m : ℕ). bit_at m b) (sym is) ∙ it.one in
      record {
        inside = omega arith;
        large = omega arith;
        last = λ j above below.
            let i = j - w * 64 in
            let none = in-word w i j (omega arith) (omega arith) ∙ ap (λ (m : ℕ). bit_at m i) (sym is) ∙ it.last i (omega arith) (omega arith) in
            omega (arith, none);
      }

  pub none-before : (end w n : ℕ) → n ≡ get_or words w 0 → ((i : ℕ) → i < end - w * 64 → bit_at n i ≡ 0) → (j : ℕ) → j < end → j / 64 ≡ w → get_or now j 0 < 1
  none-before end w n is clear j below same =
      let i = j - w * 64 in
      let none = in-word w i j (omega arith) (omega arith) ∙ ap (λ (m : ℕ). bit_at m i) (sym is) ∙ clear i (omega arith) in omega (arith, none)

  -- whether a word has any mark
  pub has-mark : (w n : ℕ) → n ≡ get_or words w 0 → n < 2 ^ 64 → not (nat_eq n 0) ≡ true → HasMark now w
  has-mark w n word small is =
      let t = trailing_zeros w64 n in let found = bit_at-trailing_zeros w64 n (has-some n is) small in
      let low : t < 64 = elim (cases_lt t 64) [
        | inl below ↦ below
        | inr high ↦ let none = bit_at_above n 64 t small high in let one = found.1 in absurd (omega arith)
      ] in
      record {
        place = w * 64 + t;
        here = omega arith;
        one = let one = found.1 in let there = in-word w t (w * 64 + t) low refl ∙ ap (λ (m : ℕ). bit_at m t) (sym word) in omega arith;
      }

  pub has-no-mark : (w n : ℕ) → n ≡ get_or words w 0 → not (nat_eq n 0) ≡ false → (j : ℕ) → j / 64 ≡ w → get_or now j 0 < 1
  has-no-mark w n word is j same =
      let i = j - w * 64 in
      let there = in-word w i j (omega arith) (omega arith) ∙ ap (λ (m : ℕ). bit_at m i) (sym word ∙ has-none n is) ∙ bit_at-zero i in
      omega (arith, there)

  -- 64 marks from a place on
  pub read-marks : (place n : ℕ) → ((i : ℕ) → place % 64 + i < 64 → bit_at n i ≡ bit_at (get_or words (place / 64) 0) (place % 64 + i))
      → ((i : ℕ) → 64 ≤ place % 64 + i → i < 64 → bit_at n i ≡ bit_at (get_or words (place / 64 + 1) 0) (place % 64 + i - 64))
      → (i : ℕ) → i < 64 → bit_at n i ≡ get_or now (place + i) 0
  read-marks place n here there i low = elim (cases_lt (place % 64 + i) 64) [
    | inl first ↦ here i first ∙ sym (in-word (place / 64) (place % 64 + i) (place + i) first (omega arith))
    | inr next ↦ there i next low ∙ sym (in-word (place / 64 + 1) (place % 64 + i - 64) (place + i) (omega arith) (omega arith))
  ]

-- a word with other marks at k places from one on
pub record IsWrite (words ys : List ℕ) (count place k n m : ℕ) : Type 0 where
  pub past : (j : ℕ) → count ≤ j → bit_of words j ≡ 0
  pub some : 0 < k
  pub fits : place % 64 + k ≤ 64
  pub inside : place + k ≤ count
  pub word : get_or ys (place / 64) 0 ≡ n
  pub apart : (j : ℕ) → j ≢ place / 64 → get_or ys j 0 ≡ get_or words j 0
  pub here : (i : ℕ) → i < k → bit_at n (place % 64 + i) ≡ bit_at m i
  pub before : (i : ℕ) → i < place % 64 → bit_at n i ≡ bit_at (get_or words (place / 64) 0) i
  pub after : (i : ℕ) → place % 64 + k ≤ i → i < 64 → bit_at n i ≡ bit_at (get_or words (place / 64) 0) i

module _ (words ys : List ℕ) (count place k n m : ℕ) (write : IsWrite words ys count place k n m) where
  in-it : (i : ℕ) → i < k → bit_of ys (place + i) ≡ bit_at m i
  in-it i low =
      let fits = write.fits in let there : (place + i) / 64 ≡ place / 64 = omega arith in let bit : (place + i) % 64 ≡ place % 64 + i = omega arith in
      (λ t. bit_at (get_or ys (there t) 0) (bit t)) ∙ ap (λ (w : ℕ). bit_at w (place % 64 + i)) write.word ∙ write.here i low

  beside : (j : ℕ) → (j < place) ⊎ (place + k ≤ j) → bit_of ys j ≡ bit_of words j
  beside j away = elim (cases_eq (j / 64) (place / 64)) [
    | inl same ↦
        (λ t. bit_at (get_or ys (same t) 0) (j % 64)) ∙ ap (λ (w : ℕ). bit_at w (j % 64)) write.word
        ∙ (elim away [
          | inl low ↦ write.before (j % 64) (omega arith)
          | inr after ↦ write.after (j % 64) (omega arith) (omega arith)
        ])
        ∙ (λ t. bit_at (get_or words (sym same t) 0) (j % 64))
    | inr other ↦ ap (λ (w : ℕ). bit_at w (j % 64)) (write.apart (j / 64) other)
  ]

  pub still-none : (j : ℕ) → count ≤ j → bit_of ys j ≡ 0
  still-none j end = let inside = write.inside in beside j (inr (omega arith)) ∙ write.past j end

  pub marks-written : AreWritten (bits_of words count) (bits_of ys count) place k m
  marks-written = record {
    len = length-bits ys count ∙ sym (length-bits words count);
    there = λ i low. new (place + i) ∙ in-it i low;
    before = λ j low. new j ∙ beside j (inl low) ∙ sym (old j);
    after = λ j after. new j ∙ beside j (inr after) ∙ sym (old j);
  }
    where
      old : (j : ℕ) → get_or (bits_of words count) j 0 ≡ bit_of words j
      old = value words count write.past (bits_of words count) refl

      new : (j : ℕ) → get_or (bits_of ys count) j 0 ≡ bit_of ys j
      new = value ys count still-none (bits_of ys count) refl

  -- whether the word has a mark now
  pub some-mark : n < 2 ^ 64 → not (nat_eq n 0) ≡ true → HasMark (bits_of ys count) (place / 64)
  some-mark = has-mark ys count still-none (bits_of ys count) refl (place / 64) n (sym write.word)

  pub none-marked : not (nat_eq n 0) ≡ false → (j : ℕ) → j / 64 ≡ place / 64 → get_or (bits_of ys count) j 0 < 1
  none-marked = has-no-mark ys count still-none (bits_of ys count) refl (place / 64) n (sym write.word)

-- the lowest bit of a mark
pub lowest : (b : Bool) → bit_at (from_bool b) 0 ≡ mark_of b
lowest true = refl
lowest false = refl

pub is-marked : (b : Bool) → mark_of b ≡ 1 → b ≡ true
is-marked true is = refl
is-marked false is = absurd (omega arith)

pub is-not-marked : (b : Bool) → mark_of b ≡ 0 → b ≡ false
is-not-marked true is = absurd (omega arith)
is-not-marked false is = refl

-- one mark that is written
pub set-written : (xs ys : List ℕ) (p m : ℕ) (b : Bool) → p < length xs → m ≡ from_bool b → AreWritten xs ys p 1 m → ys ≡ set xs p (mark_of b)
set-written xs ys p m b inside is put = ext_get_or 0 ys (set xs p (mark_of b)) (put.len ∙ sym (length-set xs p (mark_of b))) (λ j _. elim (cases_eq j p) [
  | inl same ↦ rw same (same-place ys p (p + 0) (omega arith) ∙ put.there 0 (omega arith) ∙ ap (λ (k : ℕ). bit_at k 0) is ∙ lowest b ∙ sym (get_or-set_same xs p (mark_of b) 0 inside))
  | inr other ↦ (elim (cases_lt j p) [
    | inl low ↦ put.before j low
    | inr high ↦ let apart : j ≢ p = other in put.after j (omega arith)
  ]) ∙ sym (get_or-set_other xs p j (mark_of b) 0 other)
])

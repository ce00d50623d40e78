-- Bits of words that are shifted and put together.
use Rattle.std.proofs.Common.{◌≡◌, ℕ, sym, ap, ◌∙◌, ◌+◌, ◌-◌, ◌*◌, ◌/◌, ◌%◌, ◌^◌, ◌<◌, ◌≤◌, bit_and, bit_or, arith, w64}
use Rattle.std.proofs.Math.Nat.{mod-lt}
use Rattle.std.specs.Int.{bit_at, bit_not}
use Rattle.std.proofs.lemmas.Nat.{pow_pos}
use Rattle.std.proofs.lemmas.Nat.Bits.{bit_at-zero, bit_at-lt, bit_at_and, bit_at_or, bit_at_not, bit_at_ones, bit_at_ones_above, bit_at_above, bit_at_cat_low, bit_at_cat_high, ones_shr}
use Rattle.place_numbers.proofs.Marked.{shifted-bit}

-- a word that is shifted up
whole : (x k i : ℕ) → i < 64 → bit_at (x * 2 ^ k % 2 ^ 64) i ≡ bit_at (x * 2 ^ k + 0) i
whole x k i low =
    let n = x * 2 ^ k in let all : n / 2 ^ 64 * 2 ^ 64 + n % 2 ^ 64 ≡ n + 0 = omega arith in
    sym (bit_at_cat_low (n / 2 ^ 64) 64 (n % 2 ^ 64) i low) ∙ ap (λ (m : ℕ). bit_at m i) all

raised-bit : (x k i : ℕ) → i < 64 → k ≤ i → bit_at (x * 2 ^ k % 2 ^ 64) i ≡ bit_at x (i - k)
raised-bit x k i low from = whole x k i low ∙ bit_at_cat_high x k 0 i (pow_pos k) from

raised-none : (x k i : ℕ) → i < 64 → i < k → bit_at (x * 2 ^ k % 2 ^ 64) i ≡ 0
raised-none x k i low below = whole x k i low ∙ bit_at_cat_low x k 0 i below ∙ bit_at-zero i

-- the bits of a word from a place on, and those of the next after them
module _ (word next place : ℕ) (small : word < 2 ^ 64) where
  abbrev both : ℕ
  both = bit_or (word / 2 ^ place) (next * 2 ^ (64 - place) % 2 ^ 64)

  pub bits-of-word : (i : ℕ) → place + i < 64 → bit_at both i ≡ bit_at word (place + i)
  bits-of-word i low =
      let or = bit_at_or (word / 2 ^ place) (next * 2 ^ (64 - place) % 2 ^ 64) i in
      let here = shifted-bit word place i in
      let none = raised-none next (64 - place) i (omega arith) (omega arith) in omega arith

  pub bits-of-next : (i : ℕ) → place < 64 → 64 ≤ place + i → i < 64 → bit_at both i ≡ bit_at next (place + i - 64)
  bits-of-next i inside past low =
      let or = bit_at_or (word / 2 ^ place) (next * 2 ^ (64 - place) % 2 ^ 64) i in
      let none = shifted-bit word place i ∙ bit_at_above word 64 (place + i) small past in
      let at : i - (64 - place) ≡ place + i - 64 = omega arith in
      let there = raised-bit next (64 - place) i low (omega arith) ∙ ap (bit_at next) at in omega arith

-- the bits of a mask
abbrev mask : ℕ → ℕ → ℕ
mask place n = (2 ^ 64 - 1) / 2 ^ (64 - n) * 2 ^ place % 2 ^ 64

pub ones : (n : ℕ) → n ≤ 64 → (2 ^ 64 - 1) / 2 ^ (64 - n) ≡ 2 ^ n - 1
ones n fits = let back : 64 - (64 - n) ≡ n = omega arith in ones_shr 64 (64 - n) (omega arith) ∙ ap (λ (k : ℕ). 2 ^ k - 1) back

mask-small : (place n : ℕ) → mask place n < 2 ^ 64
mask-small place n = let m = (2 ^ 64 - 1) / 2 ^ (64 - n) * 2 ^ place in mod-lt m {m = 2 ^ 64} (omega arith)

module _ (place n : ℕ) (fits : place + n ≤ 64) where
  mask-inside : (i : ℕ) → i < n → bit_at (mask place n) (place + i) ≡ 1
  mask-inside i low =
      let at : place + i - place ≡ i = omega arith in
      raised-bit ((2 ^ 64 - 1) / 2 ^ (64 - n)) place (place + i) (omega arith) (omega arith) ∙ (λ j. bit_at (ones n (omega arith) j) (at j)) ∙ bit_at_ones n i low

  mask-before : (i : ℕ) → i < place → bit_at (mask place n) i ≡ 0
  mask-before i low = raised-none ((2 ^ 64 - 1) / 2 ^ (64 - n)) place i (omega arith) low

  mask-after : (i : ℕ) → place + n ≤ i → i < 64 → bit_at (mask place n) i ≡ 0
  mask-after i past low =
      raised-bit ((2 ^ 64 - 1) / 2 ^ (64 - n)) place i low (omega arith) ∙ ap (λ (m : ℕ). bit_at m (i - place)) (ones n (omega arith)) ∙ bit_at_ones_above n (i - place) (omega arith)

  module _ (word bits : ℕ) where
    abbrev put : ℕ
    put = bit_or (bit_and word (bit_not w64 (mask place n))) (bit_and (bits * 2 ^ place % 2 ^ 64) (mask place n))

    pub put-here : (i : ℕ) → i < n → bit_at put (place + i) ≡ bit_at bits i
    put-here i low =
        let m = mask place n in let at = place + i in let one = mask-inside i low in
        let or = bit_at_or (bit_and word (bit_not w64 m)) (bit_and (bits * 2 ^ place % 2 ^ 64) m) at in
        let old = bit_at_and word (bit_not w64 m) at in let new = bit_at_and (bits * 2 ^ place % 2 ^ 64) m at in
        let not = bit_at_not w64 m at (mask-small place n) (omega arith) in
        let back : place + i - place ≡ i = omega arith in
        let bit = raised-bit bits place at (omega arith) (omega arith) ∙ ap (bit_at bits) back in
        let small = bit_at-lt bits i in omega arith

    other : (i : ℕ) → i < 64 → bit_at (mask place n) i ≡ 0 → bit_at put i ≡ bit_at word i
    other i low none =
        let m = mask place n in
        let or = bit_at_or (bit_and word (bit_not w64 m)) (bit_and (bits * 2 ^ place % 2 ^ 64) m) i in
        let old = bit_at_and word (bit_not w64 m) i in let new = bit_at_and (bits * 2 ^ place % 2 ^ 64) m i in
        let not = bit_at_not w64 m i (mask-small place n) low in
        let small = bit_at-lt word i in omega arith

    pub put-before : (i : ℕ) → i < place → bit_at put i ≡ bit_at word i
    put-before i low = other i (omega arith) (mask-before i low)

    pub put-after : (i : ℕ) → place + n ≤ i → i < 64 → bit_at put i ≡ bit_at word i
    put-after i past low = other i low (mask-after i past low)

-- Numbers in bits.
use Rattle.std.proofs.Common.{length, take, drop, Option, Some, None, cond, ◌≡◌, ◌≢◌, ℕ, zero, suc, ◌+◌, ◌-◌, ◌*◌, ◌/◌, ◌%◌, ◌^◌, ◌<◌, ◌≤◌, ◌==◌, Bool, true, false, List, [], ◌∷◌, ◌++◌, refl, sym, ap, subst, ◌∙◌, append_assoc, append-nil, add-one, arith}
use Rattle.std.proofs.Math.Pow.{pow_mono}
use Rattle.std.proofs.Math.Nat.{pow-suc}
use Rattle.std.specs.Prelude.{nat_le}
use Rattle.std.proofs.lemmas.Bool.{leb-true, le-leb}
use Rattle.std.proofs.lemmas.Bool.Decides.{nat_tests}
use Rattle.std.proofs.lemmas.List.{length-append, length-take-le, take-append-drop, take_at, drop_at}
use Rattle.res_types.specs.Bits.{digit, number_from, bits_of, number_at}

-- a number with one bit more
pub one_more : (n i : ℕ) (b : Bool) → n < 2 ^ i → 2 * n + digit b < 2 ^ (i + 1)
one_more n i true less = let e : 2 ^ (i + 1) ≡ 2 ^ i * 2 = ap (λ (k : ℕ). 2 ^ k) (add-one i) ∙ pow-suc 2 i in omega arith
one_more n i false less = let e : 2 ^ (i + 1) ≡ 2 ^ i * 2 = ap (λ (k : ℕ). 2 ^ k) (add-one i) ∙ pow-suc 2 i in omega arith

-- it fits 32 bits
pub fits_more : (n i : ℕ) (b : Bool) → n < 2 ^ i → i < 32 → 2 * n + digit b < 4294967296
fits_more n i b less few =
    let m = one_more n i b less in
    let p : 2 ^ (i + 1) ≤ 2 ^ 32 = pow_mono {i = i + 1} {j = 32} (omega arith) in
    omega arith

-- a number in no bits
pub pushed_none : (old : List Bool) (w n : ℕ) → w ≡ 0 → old ≡ old ++ bits_of w n
unfolding bits_of
pushed_none old zero n none = sym (append-nil old)
pushed_none old (suc w) n none = absurd (omega arith)

-- a number in one bit or more
pub pushed_more : (old front all : List Bool) (w n : ℕ) → w ≢ 0 → front ≡ old ++ bits_of (w - 1) (n / 2) → all ≡ front ++ (n % 2 == 1) ∷ [] → all ≡ old ++ bits_of w n
unfolding bits_of
pushed_more old front all zero n some is last = absurd (some refl)
pushed_more old front all (suc w) n some is last =
    let e : suc w - 1 ≡ w = omega arith in
    last ∙ ap (λ (bits : List Bool). bits ++ (n % 2 == 1) ∷ []) (is ∙ ap (λ (k : ℕ). old ++ bits_of k (n / 2)) e) ∙ append_assoc old (bits_of w (n / 2)) ((n % 2 == 1) ∷ [])

-- the digit that was added last
half : (s : ℕ) (b : Bool) → (2 * s + digit b) / 2 ≡ s
half s true = omega arith
half s false = omega arith

odd : (s : ℕ) (b : Bool) → ((2 * s + digit b) % 2 == 1) ≡ b
odd s true = let e : (2 * s + 1) % 2 ≡ 1 = omega arith in ap (λ (k : ℕ). k == 1) e
odd s false = let e : (2 * s + 0) % 2 ≡ 0 = omega arith in ap (λ (k : ℕ). k == 1) e

-- the bits of a number that was read are those bits
pub same_bits : (bs : List Bool) (k s : ℕ) → bits_of (k + length bs) (number_from s bs) ≡ bits_of k s ++ bs
unfolding bits_of
same_bits [] k s = let e : k + 0 ≡ k = omega arith in ap (λ (w : ℕ). bits_of w s) e ∙ sym (append-nil (bits_of k s))
same_bits (b ∷ bs) k s =
    let e : k + length (b ∷ bs) ≡ suc k + length bs = omega arith in
    let m : ℕ = 2 * s + digit b in
    ap (λ (w : ℕ). bits_of w (number_from m bs)) e ∙ same_bits bs (suc k) m
    ∙ ap (λ (h : ℕ). (bits_of k h ++ (m % 2 == 1) ∷ []) ++ bs) (half s b)
    ∙ ap (λ (d : Bool). (bits_of k s ++ d ∷ []) ++ bs) (odd s b)
    ∙ append_assoc (bits_of k s) (b ∷ []) bs

-- what is taken under a test
pub when : {A : Type 0} (b : Bool) (o : Option A) (x : A) → cond b o None ≡ Some x → (b ≡ true) × (o ≡ Some x)
when true o x is = (refl, is)
when false o x is = cc

-- a number that was read, in bits
pub number_takes : (w : ℕ) (bits : List Bool) (x : ℕ × List Bool) → number_at w bits ≡ Some x → bits ≡ bits_of w x.0 ++ x.1
unfolding number_at bits_of
number_takes w bits x is =
    let narrow = when (nat_le w 32) _ x is in
    let enough = when (nat_le w (length bits)) _ x narrow.1 in
    let long : w ≤ length bits = leb-true w (length bits) enough.0 in
    let front : List Bool = take w bits in
    let number : number_from 0 front ≡ x.0 = cc in
    let rest : drop w bits ≡ x.1 = cc in
    let wide : 0 + length front ≡ w = omega (arith, length-take-le w bits long) in
    let same : bits_of (0 + length front) (number_from 0 front) ≡ front = same_bits front 0 0 in
    sym (take-append-drop w bits)
    ∙ ap (λ (t : List Bool). t ++ drop w bits) (sym same)
    ∙ ap (λ (k : ℕ). bits_of k (number_from 0 front) ++ drop w bits) wide
    ∙ ap (λ (n : ℕ). bits_of w n ++ drop w bits) number
    ∙ ap (λ (t : List Bool). bits_of w x.0 ++ t) rest

pub bits_long : (w n : ℕ) → length (bits_of w n) ≡ w
unfolding bits_of
bits_long zero n = refl
bits_long (suc w) n = length-append (bits_of w (n / 2)) ((n % 2 == 1) ∷ []) ∙ (let e = bits_long w (n / 2) in omega (arith, e))

-- one bit more
number_push : (s : ℕ) (xs : List Bool) (b : Bool) → number_from s (xs ++ b ∷ []) ≡ 2 * number_from s xs + digit b
number_push s [] b = refl
number_push s (x ∷ xs) b = number_push (2 * s + digit x) xs b

last_digit : (n : ℕ) → digit (n % 2 == 1) ≡ n % 2
last_digit n = grind (arith, nat_tests)

pub number_again : (w n : ℕ) → n < 2 ^ w → number_from 0 (bits_of w n) ≡ n
unfolding bits_of
number_again zero n less = omega arith
number_again (suc w) n less =
    let e : 2 ^ suc w ≡ 2 ^ w * 2 = pow-suc 2 w in
    let half_less : n / 2 < 2 ^ w = omega arith in
    let again = number_again w (n / 2) half_less in
    let last = last_digit n in
    number_push 0 (bits_of w (n / 2)) (n % 2 == 1) ∙ omega (arith, again, last)

-- a number in bits is read
pub number_reads : (w n : ℕ) (rest : List Bool) → w ≤ 32 → n < 2 ^ w → number_at w (bits_of w n ++ rest) ≡ Some (n, rest)
unfolding number_at
number_reads w n rest narrow less =
    let long : length (bits_of w n) ≡ w = bits_long w n in
    let all : w ≤ length (bits_of w n ++ rest) = omega (arith, length-append (bits_of w n) rest) in
    rw (le-leb w 32 narrow, le-leb w (length (bits_of w n ++ rest)) all, take_at (bits_of w n) rest w long, drop_at (bits_of w n) rest w long, number_again w n less) refl

-- a number in its bits is below their power
from_below : (bs : List Bool) (k s : ℕ) → s < 2 ^ k → number_from s bs < 2 ^ (k + length bs)
from_below [] k s less = let e : k + 0 ≡ k = omega arith in subst (λ (w : ℕ). s < 2 ^ w) (sym e) less
from_below (b ∷ bs) k s less =
    let e : k + 1 + length bs ≡ k + length (b ∷ bs) = omega arith in
    subst (λ (w : ℕ). number_from (2 * s + digit b) bs < 2 ^ w) e (from_below bs (k + 1) (2 * s + digit b) (one_more s k b less))

pub number_within : (w : ℕ) (bits : List Bool) (x : ℕ × List Bool) → number_at w bits ≡ Some x → (w ≤ 32) × (x.0 < 2 ^ w)
unfolding number_at
number_within w bits x is =
    let narrow = when (nat_le w 32) _ x is in
    let enough = when (nat_le w (length bits)) _ x narrow.1 in
    let long : w ≤ length bits = leb-true w (length bits) enough.0 in
    let front : List Bool = take w bits in
    let number : number_from 0 front ≡ x.0 = cc in
    let wide : 0 + length front ≡ w = omega (arith, length-take-le w bits long) in
    let one : 0 < 2 ^ 0 = omega arith in
    (leb-true w 32 narrow.0, subst (λ (n : ℕ). n < 2 ^ w) number (subst (λ (k : ℕ). number_from 0 front < 2 ^ k) wide (from_below front 0 0 one)))

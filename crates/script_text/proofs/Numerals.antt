-- Numerals that are read from the left.
use Rattle.std.proofs.Common.{ℕ, zero, suc, ◌+◌, ◌*◌, ◌<◌, ◌≤◌, List, [], ◌∷◌, length, take, get_or, arith}
use Rattle.std.proofs.Math.Nat.{mul-le-mul_left}
use Rattle.std.specs.Char.{digit_value}
use Rattle.std.specs.Str.Parse.{AllDigits, digits_value, digits_value_after}
use Rattle.std.proofs.lemmas.Int.Digits.{digits_value_more}
use Rattle.script_text.specs.Operands.{IsNumeral}

after_ge : (base n : ℕ) (word : List ℕ) → 0 < base → n ≤ digits_value_after base n word
after_ge base n [] positive = omega arith
after_ge base n (c ∷ word) positive =
    let more = after_ge base (n * base + digit_value c) word positive in
    let product : n * 1 ≤ n * base = mul-le-mul_left n positive in
    omega (arith, more, product)

after_front : (base n i : ℕ) (word : List ℕ) → 0 < base → digits_value_after base n (take i word) ≤ digits_value_after base n word
after_front base n zero word positive = after_ge base n word positive
after_front base n (suc i) [] positive = omega arith
after_front base n (suc i) (c ∷ word) positive = after_front base (n * base + digit_value c) i word positive

-- a numeral is not below the numeral of its front
pub digits_value-front : (base i : ℕ) (word : List ℕ) → 0 < base → digits_value base (take i word) ≤ digits_value base word
digits_value-front base i word positive = after_front base 0 i word positive

-- each digit of a numeral is below the base
pub digit_at : (base i : ℕ) (word : List ℕ) → AllDigits base word → i < length word → digit_value (get_or word i 0) < base
digit_at base i [] digits lt = absurd (omega arith)
digit_at base zero (c ∷ word) digits lt = digits.0
digit_at base (suc i) (c ∷ word) digits lt = digit_at base i word digits.1 (omega arith)

-- at each place a numeral below a limit is below it so far
pub so_far : (base i n limit : ℕ) (word : List ℕ) → 0 < base → i < length word → n < limit → IsNumeral base word n → digits_value base (take i word) * base + digit_value (get_or word i 0) < limit
so_far base i n limit word positive lt small is =
    let front = digits_value-front base (i + 1) word positive in
    let step = digits_value_more base word i lt in
    omega (arith, front, step, is.2)

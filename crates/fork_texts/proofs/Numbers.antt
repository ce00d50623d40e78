-- Numbers in digits are read again.
use Rattle.std.proofs.Common.{◌≡◌, ℕ, suc, ◌+◌, ◌-◌, ◌*◌, ◌%◌, ◌<◌, ◌≤◌, ◌^◌, true, false, leb, List, [], ◌∷◌, ◌++◌, length, None, Ok, refl, ap, ◌∙◌, arith}
use Rattle.std.specs.Prelude.{ℤ, pos, negsuc, FitsSigned}
use Rattle.std.specs.Int.{w16}
use Rattle.std.specs.List.{fold, AllByRecursion}
use Rattle.std.specs.Fmt.{decimal, signed_decimal}
use Rattle.std.proofs.lemmas.Bool.{and_from, cond-true, cond-false, le-leb, le-ltb, ne_eqb, or_from}
use Rattle.std.proofs.lemmas.Fmt.{decimal_by_steps, decimal_nonempty}
use Rattle.std.proofs.lemmas.List.Sums.{fold_push}
use Rattle.fork_texts.specs.declared.fault.Why.{Why}
use Rattle.fork_texts.specs.declared.fault.Why.TheVariants as why
use Rattle.fork_texts.specs.Reading.{after_blanks, after_word, fails, id_at, is_blank, is_digit, number_at, number_from}

-- a digit
abbrev pub IsDigit : ℕ → Type 0
IsDigit byte = (48 ≤ byte) × (byte ≤ 57)

-- the number of digits after these
abbrev value : ℕ → List ℕ → ℕ
value so_far ds = fold (λ n d. 10 * n + (d - 48)) so_far ds

-- a text that doesn't go on with a digit
abbrev pub Stops : List ℕ → Type 0
Stops rest = (expected : Why) (limit so_far : ℕ) → number_from expected limit so_far rest ≡ Ok (so_far, rest)

digit_is : (byte : ℕ) → IsDigit byte → is_digit byte ≡ true
digit_is byte (low, high) = and_from (leb 48 byte) (leb byte 57) (le-leb 48 byte low) (le-leb byte 57 high)

grows : (so_far : ℕ) (ds : List ℕ) → so_far ≤ value so_far ds
grows so_far [] = omega arith
grows so_far (d ∷ ds) = let more = grows (10 * so_far + (d - 48)) ds in omega arith

digits_read : (expected : Why) (limit so_far : ℕ) (ds rest : List ℕ) → AllByRecursion IsDigit ds → value so_far ds ≤ limit → Stops rest
    → number_from expected limit so_far (ds ++ rest) ≡ Ok (value so_far ds, rest)
digits_read expected limit so_far [] rest all within stops = stops expected limit so_far
digits_read expected limit so_far (d ∷ ds) rest all within stops =
    let next : ℕ = 10 * so_far + (d - 48) in
    let below : next ≤ limit = omega (arith, grows next ds) in
    rw (digit_is d all.0, le-ltb limit next below) (digits_read expected limit next ds rest all.1 within stops)

push_digit : (ds : List ℕ) (d : ℕ) → AllByRecursion IsDigit ds → IsDigit d → AllByRecursion IsDigit (ds ++ d ∷ [])
push_digit [] d all one = (one, tt)
push_digit (first ∷ ds) d all one = (all.0, push_digit ds d all.1 one)

digits_of : (n : ℕ) → n < 2 ^ 64 → AllByRecursion IsDigit (decimal n)
digits_of n small = decimal_by_steps (λ m ds. AllByRecursion IsDigit ds) (λ m few. ((omega arith, omega arith), tt)) (λ m ds many all. push_digit ds (48 + m % 10) all (omega arith, omega arith)) n small

value_of : (n : ℕ) → n < 2 ^ 64 → value 0 (decimal n) ≡ n
value_of n small =
    decimal_by_steps (λ m ds. value 0 ds ≡ m) (λ m few. omega arith)
    (λ m ds many is. fold_push (λ k d. 10 * k + (d - 48)) 0 ds (48 + m % 10) ∙ (let one : 10 * value 0 ds + (48 + m % 10 - 48) ≡ m = omega (arith, is) in one)) n small

-- the digits of a number
number_read : (expected : Why) (limit : ℕ) (ds rest : List ℕ) → 0 < length ds → AllByRecursion IsDigit ds → value 0 ds ≤ limit → Stops rest
    → number_at expected limit (ds ++ rest) ≡ Ok (value 0 ds, rest)
unfolding number_at
number_read expected limit [] rest some all within stops = absurd (omega arith)
number_read expected limit (d ∷ ds) rest some all within stops =
    cond-true (is_digit d) (number_from expected limit 0 (d ∷ (ds ++ rest))) (fails (d ∷ (ds ++ rest)) expected) (digit_is d all.0)
    ∙ digits_read expected limit 0 (d ∷ ds) rest all within stops

pub number_again : (expected : Why) (limit n : ℕ) (rest : List ℕ) → n ≤ limit → limit < 2 ^ 32 → Stops rest → number_at expected limit (decimal n ++ rest) ≡ Ok (n, rest)
number_again expected limit n rest within low stops =
    let small : n < 2 ^ 64 = omega arith in
    let is = value_of n small in
    number_read expected limit (decimal n) rest (decimal_nonempty n small) (digits_of n small) (omega arith) stops ∙ ap (λ (k : ℕ). Ok (k, rest)) is

digit_first : (ds rest : List ℕ) → 0 < length ds → AllByRecursion IsDigit ds → (after_blanks (ds ++ rest) ≡ ds ++ rest) × (after_word (45 ∷ []) (ds ++ rest) ≡ None)
digit_first [] rest some all = absurd (omega arith)
digit_first (d ∷ ds) rest some all =
    let low = all.0.0 in
    let other : is_blank d ≡ false = or_from _ _ (ne_eqb d 32 (λ e. omega arith)) (or_from _ _ (ne_eqb d 9 (λ e. omega arith)) (ne_eqb d 13 (λ e. omega arith))) in
    (cond-false (is_blank d) (after_blanks (ds ++ rest)) (d ∷ (ds ++ rest)) other, rw (ne_eqb d 45 (λ e. omega arith)) refl)

minus_again : (n : ℕ) (rest : List ℕ) → suc n ≤ 32768 → Stops rest → id_at (45 ∷ (decimal (suc n) ++ rest)) ≡ Ok (negsuc n, rest)
unfolding id_at
minus_again n rest within stops = rw (number_again why.Id 32768 (suc n) rest within (omega arith) stops) refl

-- an id, which begins with no blank
pub id_again : (id : ℤ) (rest : List ℕ) → FitsSigned w16 id → Stops rest → id_at (after_blanks (signed_decimal id ++ rest)) ≡ Ok (id, rest)
unfolding id_at
id_again (pos n) rest fits stops =
    let within : n ≤ 32767 = omega (arith, fits) in
    let small : n < 2 ^ 64 = omega arith in
    let first = digit_first (decimal n) rest (decimal_nonempty n small) (digits_of n small) in
    rw (first.0, first.1, number_again why.Id 32767 n rest within (omega arith) stops) refl
id_again (negsuc n) rest fits stops = minus_again n rest (omega (arith, fits)) stops

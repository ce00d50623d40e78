-- The loans by number.
use Rattle.std.proofs.Common.{arith, ◌≡◌, ℕ, Bool, true, false, cond, eqb, List, [], ◌∷◌, ◌++◌, refl, ap, sym, ◌∙◌}
use Rattle.std.specs.Prelude.{◌||◌, ◌==◌}
use Rattle.std.specs.List.{list_any}
use Rattle.std.proofs.lemmas.Bool.{eqb-true}
use Rattle.mac_base.specs.LoanStep.{Loans, held_bytes, with_held, without_loan}
use Rattle.zone_laws.proofs.Tables.{eqb_same, eqb_swap}

-- whether x is among the loans
abbrev pub is_loaned : ℕ → Loans → Bool
is_loaned x loans = list_any (λ (loan : ℕ × List ℕ). loan.0 == x) loans

-- ---- a loan at the end

pub held-before : (x : ℕ) (loans more : Loans) → is_loaned x loans ≡ true → held_bytes x (loans ++ more) ≡ held_bytes x loans
held-before x [] more h = absurd (cc h)
held-before x (loan ∷ loans) more h = by_test (loan.0 == x) (held-before x loans more) h
  where
    by_test : (b : Bool) → (is_loaned x loans ≡ true → held_bytes x (loans ++ more) ≡ held_bytes x loans) → (b || is_loaned x loans) ≡ true → cond b loan.1 (held_bytes x (loans ++ more)) ≡ cond b loan.1 (held_bytes x loans)
    by_test true rest h = refl
    by_test false rest h = rest h

pub held-last : (x : ℕ) (bytes : List ℕ) (loans : Loans) → is_loaned x loans ≡ false → held_bytes x (loans ++ (x, bytes) ∷ []) ≡ bytes
held-last x bytes [] h = ap (λ b. cond b bytes []) (eqb_same x)
held-last x bytes (loan ∷ loans) h = by_test (loan.0 == x) (held-last x bytes loans) h
  where
    by_test : (b : Bool) → (is_loaned x loans ≡ false → held_bytes x (loans ++ (x, bytes) ∷ []) ≡ bytes) → (b || is_loaned x loans) ≡ false → cond b loan.1 (held_bytes x (loans ++ (x, bytes) ∷ [])) ≡ bytes
    by_test true rest h = absurd (cc h)
    by_test false rest h = rest h

pub loaned-last : (x y : ℕ) (bytes : List ℕ) (loans : Loans) → is_loaned y (loans ++ (x, bytes) ∷ []) ≡ (is_loaned y loans || (x == y))
loaned-last x y bytes [] = or_nothing (x == y)
  where
    or_nothing : (b : Bool) → (b || false) ≡ (false || b)
    or_nothing true = refl
    or_nothing false = refl
loaned-last x y bytes (loan ∷ loans) = ap (λ b. (loan.0 == y) || b) (loaned-last x y bytes loans) ∙ sym (grouped (loan.0 == y) (is_loaned y loans) (x == y))
  where
    grouped : (a b c : Bool) → ((a || b) || c) ≡ (a || (b || c))
    grouped true b c = refl
    grouped false b c = refl

-- ---- other bytes in a loan

same_tests : (l x y : ℕ) → (l == x) ≡ true → (x == y) ≡ (l == y)
same_tests l x y h = ap (λ z. z == y) (sym (eqb-true l x h))

pub loaned-with : (x y : ℕ) (bytes : List ℕ) (loans : Loans) → is_loaned y (with_held x bytes loans) ≡ is_loaned y loans
loaned-with x y bytes [] = refl
loaned-with x y bytes (loan ∷ loans) = grind (arith, loaned-with x y bytes loans, same_tests)

pub held-with_same : (x : ℕ) (bytes : List ℕ) (loans : Loans) → is_loaned x loans ≡ true → held_bytes x (with_held x bytes loans) ≡ bytes
held-with_same x bytes [] h = absurd (cc h)
held-with_same x bytes (loan ∷ loans) h = by_test (loan.0 == x) refl (held-with_same x bytes loans) h
  where
    by_test : (b : Bool) → (loan.0 == x) ≡ b → (is_loaned x loans ≡ true → held_bytes x (with_held x bytes loans) ≡ bytes) → (b || is_loaned x loans) ≡ true
        → let l : ℕ × List ℕ = cond b (x, bytes) loan in cond (l.0 == x) l.1 (held_bytes x (with_held x bytes loans)) ≡ bytes
    by_test true is rest h = ap (λ b. cond b bytes (held_bytes x (with_held x bytes loans))) (eqb_same x)
    by_test false is rest h = ap (λ b. cond b loan.1 (held_bytes x (with_held x bytes loans))) is ∙ rest h

pub held-with_other : (x y : ℕ) (bytes : List ℕ) (loans : Loans) → eqb y x ≡ false → held_bytes y (with_held x bytes loans) ≡ held_bytes y loans
held-with_other x y bytes [] apart = refl
held-with_other x y bytes (loan ∷ loans) apart = grind (arith, held-with_other x y bytes loans apart, eqb_swap, same_tests)

-- ---- a loan taken out

other_test : (l x y : ℕ) → eqb y x ≡ false → (l == x) ≡ true → (l == y) ≡ false
other_test l x y apart is = sym (same_tests l x y is) ∙ eqb_swap x y ∙ apart

pub held-without : (x y : ℕ) (loans : Loans) → eqb y x ≡ false → held_bytes y (without_loan x loans) ≡ held_bytes y loans
held-without x y [] apart = refl
held-without x y (loan ∷ loans) apart = grind (arith, held-without x y loans apart, other_test)

pub loaned-without_other : (x y : ℕ) (loans : Loans) → eqb y x ≡ false → is_loaned y (without_loan x loans) ≡ is_loaned y loans
loaned-without_other x y [] apart = refl
loaned-without_other x y (loan ∷ loans) apart = grind (arith, loaned-without_other x y loans apart, other_test)

pub loaned-without_same : (x : ℕ) (loans : Loans) → is_loaned x (without_loan x loans) ≡ false
loaned-without_same x [] = refl
loaned-without_same x (loan ∷ loans) = grind (arith, loaned-without_same x loans)

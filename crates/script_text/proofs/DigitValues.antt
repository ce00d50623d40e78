-- The table of the values of hexadecimal digits.
use Rattle.std.proofs.Common.{◌≡◌, ℕ, zero, suc, ◌+◌, ◌<◌, ◌≤◌, Bool, true, false, cond, eqb, List, [], ◌∷◌, length, get_or, refl, arith, ◌∙◌, ap, subst}
use Rattle.std.specs.Prelude.{◌&&◌, nat_lt}
use Rattle.std.specs.Char.{digit_value}
use Rattle.std.proofs.lemmas.Bool.{eqb-true, ltb-true, ltb-false, and_parts}
use Rattle.script_text.specs.declared.operand.TheConstants.{DIGIT_VALUES}

-- the value of a hexadecimal digit, and 255 where a byte is none
abbrev pub value_or_none : ℕ → ℕ
value_or_none byte = cond (nat_lt (digit_value byte) 16) (digit_value byte) 255

-- the table from a byte on has these values
abbrev fits : ℕ → List ℕ → Bool
fits byte [] = true
fits byte (value ∷ values) = eqb value (value_or_none byte) && fits (byte + 1) values

all_fit : fits 0 DIGIT_VALUES ≡ true
all_fit = refl

value_in : (byte : ℕ) (values : List ℕ) (i d : ℕ) → fits byte values ≡ true → i < length values → get_or values i d ≡ value_or_none (byte + i)
value_in byte [] i d all lt = absurd (omega arith)
value_in byte (value ∷ values) zero d all lt =
    let both = and_parts (eqb value (value_or_none byte)) (fits (byte + 1) values) all in
    let same : byte ≡ byte + 0 = omega arith in
    subst (λ (n : ℕ). value ≡ value_or_none n) same (eqb-true value (value_or_none byte) both.0)
value_in byte (value ∷ values) (suc i) d all lt =
    let both = and_parts (eqb value (value_or_none byte)) (fits (byte + 1) values) all in
    let same : byte + 1 + i ≡ byte + suc i = omega arith in
    subst (λ (n : ℕ). get_or values i d ≡ value_or_none n) same (value_in (byte + 1) values i d both.1 (omega arith))

-- what the table has for a byte
pub value_at : (byte d : ℕ) → byte < 256 → get_or DIGIT_VALUES byte d ≡ value_or_none byte
value_at byte d lt = let same : 0 + byte ≡ byte = omega arith in value_in 0 DIGIT_VALUES byte d all_fit lt ∙ ap value_or_none same

small_by : (value digit : ℕ) → value ≡ cond (nat_lt digit 16) digit 255 → value < 16 → (digit < 16) × (value ≡ digit)
small_by value digit e lt = by_test (nat_lt digit 16) refl e
  where
    by_test : (b : Bool) → nat_lt digit 16 ≡ b → value ≡ cond b digit 255 → (digit < 16) × (value ≡ digit)
    by_test true t e = (ltb-true digit 16 t, e)
    by_test false t e = absurd (omega arith)

large_by : (value digit : ℕ) → value ≡ cond (nat_lt digit 16) digit 255 → 16 ≤ value → ¬ (digit < 16)
large_by value digit e le lt = by_test (nat_lt digit 16) refl e
  where
    by_test : (b : Bool) → nat_lt digit 16 ≡ b → value ≡ cond b digit 255 → ⊥
    by_test true t e = absurd (omega arith)
    by_test false t e = let over : 16 ≤ digit = ltb-false digit 16 t in absurd (omega arith)

-- a value below 16 is that of the digit
pub small_value : (byte d : ℕ) → byte < 256 → get_or DIGIT_VALUES byte d < 16 → (digit_value byte < 16) × (get_or DIGIT_VALUES byte d ≡ digit_value byte)
small_value byte d lt small = small_by (get_or DIGIT_VALUES byte d) (digit_value byte) (value_at byte d lt) small

-- any other value is that of a byte that is no digit
pub large_value : (byte d : ℕ) → byte < 256 → 16 ≤ get_or DIGIT_VALUES byte d → ¬ (digit_value byte < 16)
large_value byte d lt large = large_by (get_or DIGIT_VALUES byte d) (digit_value byte) (value_at byte d lt) large

-- A token is one operand at most.
use Rattle.std.proofs.Common.{◌≡◌, ◌≢◌, ℕ, ◌<◌, ◌≤◌, inl, inr, Bool, true, false, Some, List, [], ◌∷◌, refl, sym, ap, ◌∙◌, arith}
use Rattle.std.specs.Prelude.{◌&&◌, ℤ, pos, neg_ℤ}
use Rattle.std.specs.Char.{is_ascii_alphabetic, digit_value}
use Rattle.std.proofs.lemmas.Bool.Decides.{nat_tests}
use Rattle.script_lang.specs.declared.line.IdOperand.{IdOperand}
use Rattle.script_lang.specs.declared.line.IdOperand.TheVariants as id
use Rattle.script_lang.specs.declared.line.NumberOperand.{NumberOperand}
use Rattle.script_lang.specs.declared.line.NumberOperand.TheVariants as number
use Rattle.script_text.specs.Tokens.{Token, Equals, Word, Single, Double, Hexadecimal}
use Rattle.script_text.specs.Operands.{IsDecimal, IsNumber, AreDigitsOf, is_name, IsId, IsVariable, IsNumberOperand, IsBytesOperand, IsIdOperand, IsTypeOperand, Operand, Number, Bytes, Id, Kind, IsOperand, AreOperands}

-- a letter is no decimal digit, no `$` and no `-`
letter_value : (byte : ℕ) → is_ascii_alphabetic byte ≡ true → 10 ≤ digit_value byte
letter_value byte e = grind (arith, nat_tests)

letter_dollar : (byte : ℕ) → is_ascii_alphabetic byte ≡ true → byte ≢ 36
letter_dollar byte e = λ same. grind (arith, nat_tests)

letter_minus : (byte : ℕ) → is_ascii_alphabetic byte ≡ true → byte ≢ 45
letter_minus byte e = λ same. grind (arith, nat_tests)

first_true : (a b : Bool) → (a && b) ≡ true → a ≡ true
first_true true b e = refl
first_true false b e = absurd cc

first_letter : (byte : ℕ) (bytes : List ℕ) → is_name (byte ∷ bytes) ≡ true → is_ascii_alphabetic byte ≡ true
first_letter byte bytes e = first_true _ _ (first_true _ _ e)

-- a name is no number
name_no_number : (word : List ℕ) (n : ℕ) → is_name word ≡ true → ¬ IsNumber word n
name_no_number [] n named is = absurd cc
name_no_number (byte ∷ bytes) n named is =
    elim is.1 [
      | inl decimal ↦ let letter = letter_value byte (first_letter byte bytes named) in let digit = decimal.1.0 in absurd (omega arith)
      | inr hexadecimal ↦ letter_dollar byte (first_letter byte bytes named) hexadecimal.0
    ]

decimal_no_dollar : (byte : ℕ) (bytes : List ℕ) (n m : ℕ) → IsDecimal (byte ∷ bytes) n → byte ≡ 36 → ⊥
decimal_no_dollar byte bytes n m decimal e =
    let digit : digit_value byte < 10 = decimal.1.0 in
    let dollar : digit_value byte ≡ 36 = ap digit_value e in
    absurd (omega arith)

-- a word is one number at most
one_number : (word : List ℕ) (n m : ℕ) → IsNumber word n → IsNumber word m → n ≡ m
one_number [] n m p q = elim p.1 [ inl d ↦ absurd (d.0 refl) | inr h ↦ absurd h ]
one_number (byte ∷ bytes) n m p q =
    elim p.1 [
      | inl d ↦ elim q.1 [ inl e ↦ d.2 ∙ sym e.2 | inr h ↦ absurd (decimal_no_dollar byte bytes n m d h.0) ]
      | inr g ↦ elim q.1 [ inl e ↦ absurd (decimal_no_dollar byte bytes m n e g.0) | inr h ↦ g.2.2 ∙ sym h.2.2 ]
    ]

-- digits are one list of bytes at most
pub one_decoding : (digits a b : List ℕ) → AreDigitsOf digits a → AreDigitsOf digits b → a ≡ b
one_decoding [] [] [] p q = refl
one_decoding [] [] (y ∷ b) p q = absurd q
one_decoding [] (x ∷ a) b p q = absurd p
one_decoding (odd ∷ []) [] b p q = absurd p
one_decoding (odd ∷ []) (x ∷ a) b p q = absurd p
one_decoding (high ∷ low ∷ digits) [] b p q = absurd p
one_decoding (high ∷ low ∷ digits) (x ∷ a) [] p q = absurd q
one_decoding (high ∷ low ∷ digits) (x ∷ a) (y ∷ b) p q =
    let head : x ≡ y = p.0.2 ∙ sym q.0.2 in
    let tail : a ≡ b = one_decoding digits a b p.1 q.1 in
    cc

-- a name is no id
name_no_id : (word : List ℕ) (id : ℤ) → is_name word ≡ true → ¬ IsId word id
name_no_id [] id named is = absurd cc
name_no_id (byte ∷ bytes) id named is =
    let letter = letter_value byte (first_letter byte bytes named) in
    elim is [
      | inl positive ↦ let digit = positive.2.1.0 in absurd (omega arith)
      | inr negative ↦ letter_minus byte (first_letter byte bytes named) negative.0
    ]

decimal_no_minus : (byte : ℕ) (bytes : List ℕ) (n : ℕ) → IsDecimal (byte ∷ bytes) n → byte ≡ 45 → ⊥
decimal_no_minus byte bytes n decimal e =
    let digit : digit_value byte < 10 = decimal.1.0 in
    let minus : digit_value byte ≡ 36 = ap digit_value e in
    absurd (omega arith)

-- a word is one id at most
one_id : (word : List ℕ) (a b : ℤ) → IsId word a → IsId word b → a ≡ b
one_id [] a b p q = elim p [ inl d ↦ absurd (d.2.0 refl) | inr h ↦ absurd h ]
one_id (byte ∷ bytes) a b p q =
    elim p [
      | inl d ↦ elim q [ inl e ↦ d.3 ∙ ap pos (d.2.2 ∙ sym e.2.2) ∙ sym e.3 | inr h ↦ absurd (decimal_no_minus byte bytes d.0 d.2 h.0) ]
      | inr g ↦ elim q [ inl e ↦ absurd (decimal_no_minus byte bytes e.0 e.2 g.0) | inr h ↦ g.4 ∙ ap (λ (n : ℕ). neg_ℤ (pos n)) (g.3.2 ∙ sym h.3.2) ∙ sym h.4 ]
    ]

-- a word is one variable at most
one_variable : (names : List (List ℕ)) (word : List ℕ) (a b : ℕ) → IsVariable names word a → IsVariable names word b → a ≡ b
one_variable names word a b p q = let same : Some a ≡ Some b = sym p.1 ∙ q.1 in cc

-- a token is one number or variable at most
pub one_number_operand : (names : List (List ℕ)) (token : Token) (x y : NumberOperand) → IsNumberOperand names token x → IsNumberOperand names token y → x ≡ y
one_number_operand names (Word word) (number.Number n) (number.Number m) p q = ap number.Number (one_number word n m p q)
one_number_operand names (Word word) (number.Number n) (number.Variable b) p q = absurd (name_no_number word n q.0 p)
one_number_operand names (Word word) (number.Variable a) (number.Number m) p q = absurd (name_no_number word m p.0 q)
one_number_operand names (Word word) (number.Variable a) (number.Variable b) p q = ap number.Variable (one_variable names word a b p q)
one_number_operand names token x y p q = absurd p

-- a token is one list of bytes at most
one_bytes_operand : (token : Token) (a b : List ℕ) → IsBytesOperand token a → IsBytesOperand token b → a ≡ b
one_bytes_operand (Double inner) a b p q = sym p.0 ∙ q.0
one_bytes_operand (Hexadecimal digits) a b p q = one_decoding digits a b p q
one_bytes_operand token a b p q = absurd p

-- a token is one id or variable at most
one_id_operand : (names : List (List ℕ)) (token : Token) (x y : IdOperand) → IsIdOperand names token x → IsIdOperand names token y → x ≡ y
one_id_operand names (Word word) (id.Id a) (id.Id b) p q = ap id.Id (one_id word a b p q)
one_id_operand names (Word word) (id.Id a) (id.Variable b) p q = absurd (name_no_id word a q.0 p)
one_id_operand names (Word word) (id.Variable a) (id.Id b) p q = absurd (name_no_id word b p.0 q)
one_id_operand names (Word word) (id.Variable a) (id.Variable b) p q = ap id.Variable (one_variable names word a b p q)
one_id_operand names token x y p q = absurd p

-- a token is one type at most
one_type_operand : (token : Token) (a b : List ℕ) → IsTypeOperand token a → IsTypeOperand token b → a ≡ b
one_type_operand (Single inner) a b p q = sym p.0.1 ∙ q.0.1
one_type_operand (Hexadecimal digits) a b p q = sym p.2.1 ∙ one_decoding digits p.0 q.0 p.1 q.1 ∙ q.2.1
one_type_operand token a b p q = absurd p

-- two operands are of one sort
abbrev pub AreAlike : Operand → Operand → Type 0
AreAlike (Number x) (Number y) = Unit {0}
AreAlike (Bytes x) (Bytes y) = Unit {0}
AreAlike (Id x) (Id y) = Unit {0}
AreAlike (Kind x) (Kind y) = Unit {0}
AreAlike x y = ⊥

-- a token is one operand of a sort at most
one_operand : (names : List (List ℕ)) (token : Token) (x y : Operand) → AreAlike x y → IsOperand names token x → IsOperand names token y → x ≡ y
one_operand names token (Number x) (Number y) alike p q = ap Number (one_number_operand names token x y p q)
one_operand names token (Bytes x) (Bytes y) alike p q = ap Bytes (one_bytes_operand token x y p q)
one_operand names token (Id x) (Id y) alike p q = ap Id (one_id_operand names token x y p q)
one_operand names token (Kind x) (Kind y) alike p q = ap Kind (one_type_operand token x y p q)
one_operand names token x y alike p q = absurd alike

-- operands in the same place are of one sort
abbrev pub AreAllAlike : List Operand → List Operand → Type 0
AreAllAlike (x ∷ xs) (y ∷ ys) = AreAlike x y × AreAllAlike xs ys
AreAllAlike xs ys = Unit {0}

-- tokens are one list of operands of these sorts at most
pub one_operands : (names : List (List ℕ)) (tokens : List Token) (xs ys : List Operand) → AreAllAlike xs ys → AreOperands names tokens xs → AreOperands names tokens ys → xs ≡ ys
one_operands names [] [] [] alike p q = refl
one_operands names [] [] (y ∷ ys) alike p q = absurd q
one_operands names [] (x ∷ xs) ys alike p q = absurd p
one_operands names (t ∷ ts) [] ys alike p q = absurd p
one_operands names (t ∷ ts) (x ∷ xs) [] alike p q = absurd q
one_operands names (t ∷ ts) (x ∷ xs) (y ∷ ys) alike p q =
    let head : x ≡ y = one_operand names t x y alike.0 p.0 q.0 in
    let tail : xs ≡ ys = one_operands names ts xs ys alike.1 p.1 q.1 in
    cc

-- `=` is no operand
no_equals : (names : List (List ℕ)) (x : Operand) → ¬ IsOperand names Equals x
no_equals names (Number x) p = p
no_equals names (Bytes x) p = p
no_equals names (Id x) p = p
no_equals names (Kind x) p = p

-- operands don't begin with `=`
pub operands_no_equals : (names : List (List ℕ)) (tokens : List Token) (xs : List Operand) → ¬ AreOperands names (Equals ∷ tokens) xs
operands_no_equals names tokens [] p = p
operands_no_equals names tokens (x ∷ xs) p = no_equals names x p.0

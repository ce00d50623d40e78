-- Which tokens are operands.
use Rattle.std.proofs.Common.{◌≡◌, inl, inr, ℕ, List, [], ◌∷◌, length, Option, Some, None, refl, subst, arith}
use Rattle.std.specs.Prelude.{ℤ}
use Rattle.script_lang.specs.declared.line.NumberOperand.{NumberOperand}
use Rattle.script_lang.specs.declared.line.NumberOperand.TheVariants as number
use Rattle.script_text.specs.Tokens.{Token, Word, Hexadecimal}
use Rattle.script_text.specs.Found.{Finds}
use Rattle.script_text.specs.Operands.{IsNumber, AreDigitsOf, IsPositiveId, IsNegativeId, IsId, IsVariable, IsNumberOperand, IsTypeOfBytes, IsTypeOperand, Operand, AreOperands}
use Rattle.script_text.proofs.OneOperand.{one_decoding}

-- a word that is neither a number nor a variable is no operand of numbers
pub no_number : (names : List (List ℕ)) (word : List ℕ) → ((n : ℕ) → ¬ IsNumber word n) → ((name : ℕ) → ¬ IsVariable names word name) → (x : NumberOperand) → ¬ IsNumberOperand names (Word word) x
no_number names word none unnamed (number.Number n) h = none n h
no_number names word none unnamed (number.Variable name) h = unnamed name h

-- a word that is no id without `-` is one with it, if it is one
pub id_below : (word : List ℕ) (found : Option ℤ) → ((id : ℤ) → ¬ IsPositiveId word id) → Finds found (IsNegativeId word) → Finds found (IsId word)
id_below word None none h = λ id p. elim p [ inl positive ↦ none id positive | inr negative ↦ h id negative ]
id_below word (Some id) none h = inr h

-- the type of the bytes that hexadecimal digits are
pub type_of_digits : (digits bytes : List ℕ) (o : Option (List ℕ)) → AreDigitsOf digits bytes → Finds o (IsTypeOfBytes bytes) → Finds o (IsTypeOperand (Hexadecimal digits))
type_of_digits digits bytes None are h = λ x p. h x (subst (λ (b : List ℕ). IsTypeOfBytes b x) (one_decoding digits p.0 bytes p.1 are) p.2)
type_of_digits digits bytes (Some x) are h = (bytes, are, h)

-- there are as many tokens as operands
pub AreOperands-length : (names : List (List ℕ)) (tokens : List Token) (operands : List Operand) → AreOperands names tokens operands → length tokens ≡ length operands
AreOperands-length names [] [] h = refl
AreOperands-length names [] (o ∷ os) h = absurd h
AreOperands-length names (t ∷ ts) [] h = absurd h
AreOperands-length names (t ∷ ts) (o ∷ os) h = let more = AreOperands-length names ts os h.1 in omega (arith, more)

-- What an operand of a script stands for.
use Rattle.std.specs.Prelude.{◌≡◌, ◌≢◌, ℕ, ◌+◌, ◌*◌, ◌^◌, ◌<◌, ◌≤◌, ◌⊎◌, ℤ, pos, neg_ℤ, Bool, false, ◌==◌, ◌||◌, ◌&&◌, nat_le, IsTrue, List, [], ◌∷◌, Some, length, map, option_to_list}
use Rattle.std.specs.List.{list_all}
use Rattle.std.specs.Char.{is_ascii_alphabetic, is_ascii_alphanumeric, digit_value}
use Rattle.std.specs.Str.Parse.{AllDigits, digits_value}
use Rattle.script_lang.specs.declared.line.IdOperand.{IdOperand}
use Rattle.script_lang.specs.declared.line.IdOperand.TheVariants as id_operand
use Rattle.script_lang.specs.declared.line.NamedCall.{NamedCall}
use Rattle.script_lang.specs.declared.line.NamedCall.TheVariants as named
use Rattle.script_lang.specs.declared.line.NumberOperand.{NumberOperand}
use Rattle.script_lang.specs.declared.line.NumberOperand.TheVariants as number_operand
use Rattle.script_lang.specs.declared.table.CallName.{CallName}
use Rattle.script_lang.specs.Lines.{name_of}
use Rattle.script_text.specs.Tokens.{Token, Word, Single, Double, Hexadecimal}
use Rattle.script_text.specs.Names.{place_of}

-- one digit or more in this base, of either case, and their number
abbrev pub IsNumeral : ℕ → List ℕ → ℕ → Type 0
IsNumeral base word n = (word ≢ []) × AllDigits base word × (n ≡ digits_value base word)

-- a decimal number
abbrev pub IsDecimal : List ℕ → ℕ → Type 0
IsDecimal word n = IsNumeral 10 word n

-- `$` and one to eight hexadecimal digits
abbrev pub IsHexadecimal : List ℕ → ℕ → Type 0
IsHexadecimal [] n = ⊥
IsHexadecimal (dollar ∷ digits) n = (dollar ≡ 36) × (length digits ≤ 8) × IsNumeral 16 digits n

-- a number of 32 bits, in either form
abbrev pub IsNumber : List ℕ → ℕ → Type 0
IsNumber word n = (n < 2 ^ 32) × (IsDecimal word n ⊎ IsHexadecimal word n)

-- a letter or a digit of ASCII, or `_`
abbrev pub is_name_byte : ℕ → Bool
is_name_byte byte = is_ascii_alphanumeric byte || byte == 95

-- a letter, and up to 30 letters, digits or underscores
abbrev pub is_name : List ℕ → Bool
is_name [] = false
is_name (first ∷ others) = is_ascii_alphabetic first && list_all is_name_byte others && nat_le (length others) 30

-- a byte that may be in quotes: of ASCII, and no control character
abbrev pub is_printable : ℕ → Bool
is_printable byte = nat_le 32 byte && nat_le byte 126

-- two hexadecimal digits are this byte
abbrev pub IsByte : ℕ → ℕ → ℕ → Type 0
IsByte high low byte = (digit_value high < 16) × (digit_value low < 16) × (byte ≡ 16 * digit_value high + digit_value low)

-- hexadecimal digits are these bytes, two digits for each
abbrev pub AreDigitsOf : List ℕ → List ℕ → Type 0
AreDigitsOf [] [] = Unit {0}
AreDigitsOf (high ∷ low ∷ digits) (byte ∷ bytes) = IsByte high low byte × AreDigitsOf digits bytes
AreDigitsOf digits bytes = ⊥

-- a decimal number below 2^15
abbrev pub IsPositiveId : List ℕ → ℤ → Type 0
IsPositiveId word id = (n : ℕ) × (n < 2 ^ 15) × IsDecimal word n × (id ≡ pos n)

-- `-` and a decimal number up to 2^15
abbrev pub IsNegativeId : List ℕ → ℤ → Type 0
IsNegativeId [] id = ⊥
IsNegativeId (minus ∷ digits) id = (minus ≡ 45) × (n : ℕ) × (n ≤ 2 ^ 15) × IsDecimal digits n × (id ≡ neg_ℤ (pos n))

-- a decimal number with an optional minus, from -2^15 to 2^15 - 1
abbrev pub IsId : List ℕ → ℤ → Type 0
IsId word id = IsPositiveId word id ⊎ IsNegativeId word id

-- a word is the name of this variable, which has been assigned
abbrev pub IsVariable : List (List ℕ) → List ℕ → ℕ → Type 0
IsVariable names word name = IsTrue (is_name word) × (place_of names word ≡ Some name)

-- a word is this number, or the name of this assigned variable
abbrev pub IsNumberOperand : List (List ℕ) → Token → NumberOperand → Type 0
IsNumberOperand names (Word word) (number_operand.Number n) = IsNumber word n
IsNumberOperand names (Word word) (number_operand.Variable name) = IsVariable names word name
IsNumberOperand names token written = ⊥

-- a word is this id, or the name of this assigned variable
abbrev pub IsIdOperand : List (List ℕ) → Token → IdOperand → Type 0
IsIdOperand names (Word word) (id_operand.Id id) = IsId word id
IsIdOperand names (Word word) (id_operand.Variable name) = IsVariable names word name
IsIdOperand names token written = ⊥

-- a text in double quotes, or of hexadecimal digits, is these bytes
abbrev pub IsBytesOperand : Token → List ℕ → Type 0
IsBytesOperand (Double inner) bytes = (inner ≡ bytes) × IsTrue (list_all is_printable inner)
IsBytesOperand (Hexadecimal digits) bytes = AreDigitsOf digits bytes
IsBytesOperand token bytes = ⊥

-- four bytes are this type
abbrev pub IsTypeOfBytes : List ℕ → List ℕ → Type 0
IsTypeOfBytes bytes four = (length bytes ≡ 4) × (bytes ≡ four)

-- a text in single quotes, which has no `'` inside, or of hexadecimal digits, is this type
abbrev pub IsTypeOperand : Token → List ℕ → Type 0
IsTypeOperand (Single inner) four = IsTypeOfBytes inner four × IsTrue (list_all is_printable inner)
IsTypeOperand (Hexadecimal digits) four = (bytes : List ℕ) × AreDigitsOf digits bytes × IsTypeOfBytes bytes four
IsTypeOperand token four = ⊥

-- two tokens are these numbers or variables
abbrev pub AreTwoNumbers : List (List ℕ) → Token → Token → NumberOperand × NumberOperand → Type 0
AreTwoNumbers names first second numbers = IsNumberOperand names first numbers.0 × IsNumberOperand names second numbers.1

-- two tokens are this type, and this id or variable
abbrev pub AreTypeAndId : List (List ℕ) → Token → Token → List ℕ × IdOperand → Type 0
AreTypeAndId names kind id both = IsTypeOperand kind both.0 × IsIdOperand names id both.1

-- an operand of a call
pub data Operand : Type 0 where
  Number : NumberOperand → Operand
  Bytes : List ℕ → Operand
  Id : IdOperand → Operand
  -- a type
  Kind : List ℕ → Operand

-- the operands of a call, in order
abbrev pub operands_of : NamedCall → List Operand
operands_of (named.Plain call) = []
operands_of (named.Number call one) = Number one ∷ []
operands_of (named.TwoNumbers call first second) = Number first ∷ Number second ∷ []
operands_of (named.ThreeNumbers call first second third) = Number first ∷ Number second ∷ Number third ∷ []
operands_of (named.BlockMove from start to offset count) = Number from ∷ Number start ∷ Number to ∷ Number offset ∷ Number count ∷ []
operands_of (named.Bytes call block offset bytes) = Number block ∷ Number offset ∷ Bytes bytes ∷ []
operands_of (named.Resource call kind id) = Kind kind ∷ Id id ∷ []
operands_of (named.GetIndResource kind index) = Kind kind ∷ Number index ∷ []
operands_of (named.Kind call kind) = Kind kind ∷ []
-- the name and the file may be left out
operands_of (named.AddResource handle kind id name) = Number handle ∷ Kind kind ∷ Id id ∷ map Bytes (option_to_list name)
operands_of (named.File call file) = map Number (option_to_list file)

-- a token is this operand, where these names have been assigned
abbrev pub IsOperand : List (List ℕ) → Token → Operand → Type 0
IsOperand names token (Number number) = IsNumberOperand names token number
IsOperand names token (Bytes bytes) = IsBytesOperand token bytes
IsOperand names token (Id id) = IsIdOperand names token id
IsOperand names token (Kind four) = IsTypeOperand token four

-- the tokens are these operands, in order, one for each
abbrev pub AreOperands : List (List ℕ) → List Token → List Operand → Type 0
AreOperands names [] [] = Unit {0}
AreOperands names (token ∷ tokens) (operand ∷ operands) = IsOperand names token operand × AreOperands names tokens operands
AreOperands names tokens operands = ⊥

-- the call has this name, and the tokens are its operands
abbrev pub IsNamedCall : List (List ℕ) → CallName → List Token → NamedCall → Type 0
IsNamedCall names name tokens call = (name_of call ≡ name) × AreOperands names tokens (operands_of call)

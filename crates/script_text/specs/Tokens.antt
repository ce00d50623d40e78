-- How a line of a script is parted into words, marks and texts in quotes.
use Rattle.std.specs.Prelude.{◌≡◌, ◌≢◌, ℕ, ◌<◌, Bool, true, ◌==◌, ◌||◌, not, ◌↔◌, IsTrue, List, [], ◌∷◌, ◌++◌, length}
use Rattle.std.specs.List.{list_all}

-- a part of a line
pub data Token : Type 0 where
  -- `=` and `;`
  Equals : Token
  Semicolon : Token
  -- a word without quotes: a call, a name, a number
  Word : List ℕ → Token
  -- what is in '..', in ".." and in $".."
  Single : List ℕ → Token
  Double : List ℕ → Token
  Hexadecimal : List ℕ → Token

-- a space or a tab
abbrev pub is_blank : ℕ → Bool
is_blank byte = byte == 32 || byte == 9

-- what may follow a word: a blank, `=`, `;`, or the `#` of a comment
abbrev pub is_boundary : ℕ → Bool
is_boundary byte = is_blank byte || byte == 61 || byte == 59 || byte == 35

-- a byte of a word: no boundary, and neither of the quotes
abbrev pub is_word_byte : ℕ → Bool
is_word_byte byte = not (is_boundary byte || byte == 39 || byte == 34)

-- the bytes of a token
abbrev pub spelled : Token → List ℕ
spelled Equals = 61 ∷ []
spelled Semicolon = 59 ∷ []
spelled (Word word) = word
spelled (Single inner) = 39 ∷ inner ++ 39 ∷ []
spelled (Double inner) = 34 ∷ inner ++ 34 ∷ []
spelled (Hexadecimal inner) = 36 ∷ 34 ∷ inner ++ 34 ∷ []

-- a word has word bytes, one at least; no text in quotes has its quote inside
abbrev pub IsToken : Token → Type 0
IsToken Equals = Unit {0}
IsToken Semicolon = Unit {0}
IsToken (Word word) = (word ≢ []) × IsTrue (list_all is_word_byte word)
IsToken (Single inner) = IsTrue (list_all (λ byte. not (byte == 39)) inner)
IsToken (Double inner) = IsTrue (list_all (λ byte. not (byte == 34)) inner)
IsToken (Hexadecimal inner) = IsTrue (list_all (λ byte. not (byte == 34)) inner)

-- the end of the line, or a boundary
abbrev pub is_at_boundary : List ℕ → Bool
is_at_boundary [] = true
is_at_boundary (byte ∷ rest) = is_boundary byte

-- what may follow a token: anything after `=` and `;`, and a boundary after the others
abbrev pub ends : Token → List ℕ → Bool
ends Equals rest = true
ends Semicolon rest = true
ends (Word word) rest = is_at_boundary rest
ends (Single inner) rest = is_at_boundary rest
ends (Double inner) rest = is_at_boundary rest
ends (Hexadecimal inner) rest = is_at_boundary rest

-- nothing, or a `#` and any bytes
abbrev pub is_comment : List ℕ → Bool
is_comment [] = true
is_comment (byte ∷ rest) = byte == 35

-- the line is these tokens, with blanks before each of them, and then blanks and perhaps a comment
abbrev pub AreTokens : List ℕ → List Token → Type 0
AreTokens line [] = (gap comment : List ℕ) × IsTrue (list_all is_blank gap) × IsTrue (is_comment comment) × (line ≡ gap ++ comment)
AreTokens line (token ∷ tokens) = (gap rest : List ℕ) × IsTrue (list_all is_blank gap) × IsToken token × IsTrue (ends token rest) × (line ≡ gap ++ spelled token ++ rest) × AreTokens rest tokens

-- the line has bytes that are no token
abbrev pub HasNoTokens : List ℕ → Type 0
HasNoTokens line = (read : List Token) → ¬ AreTokens line read

-- no line that says something has more tokens: `gz`, a value, and eight calls of a name, an operand and a mark
abbrev pub most_tokens : ℕ
most_tokens = 26

-- the line has bytes that are no token, or too many tokens
abbrev pub HasNoFewTokens : List ℕ → Type 0
HasNoFewTokens line = (read : List Token) → AreTokens line read → most_tokens < length read

-- the tokens of the line are this one and then those of the rest
abbrev pub TakesToken : List ℕ → Token → List ℕ → Type 0
TakesToken line token rest = (read : List Token) → AreTokens line read ↔ ((others : List Token) × (read ≡ token ∷ others) × AreTokens rest others)

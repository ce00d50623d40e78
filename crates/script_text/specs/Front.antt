-- Reading the first token of a line from the left.
use Rattle.std.specs.Prelude.{◌≡◌, ℕ, Bool, false, ◌==◌, ◌&&◌, not, if◌then◌else◌, List, [], ◌∷◌, take, drop, Option, Some, None, Result, Ok, Err}
use Rattle.std.specs.List.{position_or_len}
use Rattle.std.specs.Borrow.{Bor}
use Rattle.script_text.specs.Tokens as tokens
use Rattle.script_text.specs.Tokens.{is_blank, is_word_byte, is_at_boundary}
use Rattle.script_text.specs.declared.token.Token.{Token}
use Rattle.script_text.specs.declared.token.Token.TheVariants.{Equals, Semicolon, Word, Single, Double, Hexadecimal}

-- a token, apart from where its bytes lie in memory
abbrev pub view : Token → tokens.Token
view Equals = tokens.Equals
view Semicolon = tokens.Semicolon
view (Word word) = tokens.Word word.now
view (Single inner) = tokens.Single inner.now
view (Double inner) = tokens.Double inner.now
view (Hexadecimal inner) = tokens.Hexadecimal inner.now

-- what is at the front of a line: no token any more, a token and the rest, or what is no token
pub data Front : Type 0 where
  End : Front
  Taken : tokens.Token → List ℕ → Front
  Fault : Front

-- the bytes before the first that stops
abbrev pub front : (ℕ → Bool) → List ℕ → List ℕ
front stops bytes = take (position_or_len stops bytes) bytes

-- the bytes from the first that stops on
abbrev pub after : (ℕ → Bool) → List ℕ → List ℕ
after stops bytes = drop (position_or_len stops bytes) bytes

-- whether a byte is no blank
abbrev pub is_no_blank : ℕ → Bool
is_no_blank byte = not (is_blank byte)

-- whether a byte is in no word
abbrev pub is_no_word_byte : ℕ → Bool
is_no_word_byte byte = not (is_word_byte byte)

-- a token, where a boundary follows it
abbrev pub bounded : tokens.Token → List ℕ → Front
bounded token rest = if is_at_boundary rest then Taken token rest else Fault

-- a text that ends at its quote, read from after the first quote
abbrev pub closed_at : tokens.Token → List ℕ → Front
closed_at token [] = Fault
closed_at token (quote ∷ rest) = bounded token rest

-- whether a byte is this quote
abbrev pub is_quote : ℕ → ℕ → Bool
is_quote quote byte = byte == quote

-- whether a text in double quotes begins
abbrev pub starts_quote : List ℕ → Bool
starts_quote [] = false
starts_quote (byte ∷ rest) = byte == 34

-- a text in single quotes, read from after the first quote
abbrev pub single_front : List ℕ → Front
single_front rest = closed_at (tokens.Single (front (is_quote 39) rest)) (after (is_quote 39) rest)

-- a text in double quotes, read from after the first quote
abbrev pub double_front : List ℕ → Front
double_front rest = closed_at (tokens.Double (front (is_quote 34) rest)) (after (is_quote 34) rest)

-- hexadecimal digits in quotes, read from after the first quote
abbrev pub hexadecimal_front : List ℕ → Front
hexadecimal_front rest = closed_at (tokens.Hexadecimal (front (is_quote 34) rest)) (after (is_quote 34) rest)

-- a word
abbrev pub word_front : List ℕ → Front
word_front line = bounded (tokens.Word (front is_no_word_byte line)) (after is_no_word_byte line)

-- hexadecimal digits in quotes, where `$"` begins them, and else a word
abbrev pub hexadecimal_or_word_front : List ℕ → Front
hexadecimal_or_word_front [] = word_front []
hexadecimal_or_word_front (byte ∷ rest) = if byte == 36 && starts_quote rest then hexadecimal_front (drop 1 rest) else word_front (byte ∷ rest)

-- the first token, where no blank is before it
abbrev pub token_front : List ℕ → Front
token_front [] = End
token_front (byte ∷ rest) =
    if byte == 35 then End
    else if byte == 61 then Taken tokens.Equals rest
    else if byte == 59 then Taken tokens.Semicolon rest
    else if byte == 39 then single_front rest
    else if byte == 34 then double_front rest
    else hexadecimal_or_word_front (byte ∷ rest)

-- the first token
abbrev pub first_front : List ℕ → Front
first_front line = token_front (after is_no_blank line)

-- what a function returned is this front
abbrev pub Shows : {E : Type 0} → Result (Option (Token × Bor (List ℕ))) E → Front → Type 0
Shows (Ok None) found = found ≡ End
Shows (Ok (Some pair)) found = found ≡ Taken (view pair.0) pair.1.now
Shows (Err e) found = found ≡ Fault

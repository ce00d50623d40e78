-- A name in a path, as it is typed in MacRoman.
use Rattle.std.specs.Prelude.{ℕ, zero, suc, ◌+◌, ◌*◌, ◌==◌, nat_lt, ◌&&◌, ◌||◌, if◌then◌else◌, List, [], ◌∷◌, Option, None, Some, option_map}
use Rattle.std.specs.Char.{digit_value}

-- the byte that two hexadecimal digits are
abbrev pub byte_of : ℕ → ℕ → Option ℕ
byte_of high low =
    if nat_lt (digit_value high) 16 && nat_lt (digit_value low) 16 then Some (16 * digit_value high + digit_value low) else None

abbrev pub before : List ℕ → Option ℕ → Option (ℕ × List ℕ)
before rest None = None
before rest (Some byte) = Some (byte, rest)

-- the byte that a text after `\x` names, and what is after it
abbrev pub by_digits : List ℕ → Option (ℕ × List ℕ)
by_digits [] = None
by_digits (high ∷ []) = None
by_digits (high ∷ low ∷ rest) = before rest (byte_of high low)

-- after a backslash, itself or a double quote, or `x` and two digits
abbrev pub escaped_byte : List ℕ → Option (ℕ × List ℕ)
escaped_byte [] = None
escaped_byte (c ∷ rest) = if c == 120 then by_digits rest else if (c == 92) || (c == 34) then Some (c, rest) else None

-- the first byte of a name, and the text after it: a colon is the Macintosh's slash
abbrev pub first_byte : List ℕ → Option (ℕ × List ℕ)
first_byte [] = None
first_byte (c ∷ rest) = if c == 92 then escaped_byte rest else if c == 58 then Some (47, rest) else Some (c, rest)

abbrev pub with_byte : Option (ℕ × List ℕ) → (List ℕ → Option (List ℕ)) → Option (List ℕ)
with_byte None others = None
with_byte (Some first) others = option_map (λ name. first.0 ∷ name) (others first.1)

-- the name that a text of so many bytes at most is
unfoldable pub name_from : ℕ → List ℕ → Option (List ℕ)
name_from zero text = Some []
name_from (suc more) [] = Some []
name_from (suc more) (c ∷ rest) = with_byte (first_byte (c ∷ rest)) (name_from more)

-- How a type is written.
use Rattle.std.specs.Prelude.{◌≡◌, ℕ, ◌+◌, ◌-◌, ◌*◌, ◌/◌, ◌%◌, ◌<◌, ◌≤◌, ◌==◌, ◌||◌, ◌⊎◌, true, if◌then◌else◌, List, [], ◌∷◌, ◌++◌, length, replicate}
use Rattle.std.specs.List.{flat_map}
use Rattle.std.specs.Char.{digit_value}
use Rattle.std.specs.Fmt.{digit_glyph}
use Rattle.fork_list.specs.declared.letters.Letters.TheVariants.{Roman}
use Rattle.fork_list.specs.Quoted.{is_letter}

-- a byte as it is written between single quotes, in MacRoman: itself where it is a letter, and else `\x` and two
-- digits; a backslash is before a quote and a backslash
abbrev pub written : ℕ → List ℕ
written byte =
    if byte == 39 || byte == 92 then 92 ∷ byte ∷ []
    else if is_letter Roman byte then byte ∷ []
    else 92 ∷ 120 ∷ digit_glyph true (byte / 16) ∷ digit_glyph true (byte % 16) ∷ []

-- bytes between single quotes
abbrev pub in_quotes : List ℕ → List ℕ
in_quotes bytes = 39 ∷ (flat_map written bytes ++ 39 ∷ [])

-- `\x` and two hexadecimal digits of either case, of this value together
abbrev pub IsHexadecimal : List ℕ → ℕ → Type 0
IsHexadecimal piece byte = (high : ℕ) × (low : ℕ) × (piece ≡ 92 ∷ 120 ∷ high ∷ low ∷ []) × (digit_value high < 16) × (digit_value low < 16)
    × (byte ≡ 16 * digit_value high + digit_value low)

-- a byte as it is written between quotes, or in hexadecimal digits
abbrev pub ShowsByte : List ℕ → ℕ → Type 0
ShowsByte piece byte = ((byte < 256) × (piece ≡ written byte)) ⊎ IsHexadecimal piece byte

-- the text shows this byte first, and this text is after it
abbrev pub ShowsFirst : List ℕ → ℕ → List ℕ → Type 0
ShowsFirst text byte rest = (piece : List ℕ) × ShowsByte piece byte × (text ≡ piece ++ rest)

-- the text shows these bytes one after the other
abbrev pub ShowsBytes : List ℕ → List ℕ → Type 0
ShowsBytes text [] = text ≡ []
ShowsBytes text (byte ∷ bytes) = (rest : List ℕ) × ShowsFirst text byte rest × ShowsBytes rest bytes

-- the text with single quotes around it, or without them
abbrev pub Quotes : List ℕ → List ℕ → Type 0
Quotes text inner = (text ≡ inner) ⊎ (text ≡ 39 ∷ (inner ++ 39 ∷ []))

-- the text shows this type without quotes: one to four bytes, of which blanks make four
abbrev pub ShowsBare : List ℕ → List ℕ → Type 0
ShowsBare text kind = (bytes : List ℕ) × ShowsBytes text bytes × (0 < length bytes) × (length bytes ≤ 4) × (kind ≡ bytes ++ replicate (4 - length bytes) 32)

-- the text shows this type, with quotes or without
abbrev pub ShowsKind : List ℕ → List ℕ → Type 0
ShowsKind text kind = (inner : List ℕ) × Quotes text inner × ShowsBare inner kind

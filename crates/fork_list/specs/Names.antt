-- How a name is written.
use Rattle.std.specs.Prelude.{◌≡◌, ◌≢◌, ◌⊎◌, ℕ, ◌+◌, ◌*◌, ◌<◌, List, [], ◌∷◌, ◌++◌}
use Rattle.std.specs.Char.{digit_value}

-- the text names this byte first, and this text is after it: itself, or after a backslash a quote or a backslash, or
-- `x` and two hexadecimal digits
abbrev pub NamesFirst : List ℕ → ℕ → List ℕ → Type 0
NamesFirst text byte rest = ((text ≡ byte ∷ rest) × (byte ≢ 92))
    ⊎ (((text ≡ 92 ∷ byte ∷ rest) × ((byte ≡ 34) ⊎ (byte ≡ 92)))
    ⊎ ((high : ℕ) × (low : ℕ) × (text ≡ 92 ∷ 120 ∷ high ∷ low ∷ rest) × (digit_value high < 16) × (digit_value low < 16)
    × (byte ≡ 16 * digit_value high + digit_value low)))

-- the text names these bytes one after the other
abbrev pub NamesBytes : List ℕ → List ℕ → Type 0
NamesBytes text [] = text ≡ []
NamesBytes text (byte ∷ bytes) = (rest : List ℕ) × NamesFirst text byte rest × NamesBytes rest bytes

-- what is between the double quotes of a text, or all of it where none are around it
abbrev pub Unquotes : List ℕ → List ℕ → Type 0
Unquotes text inner = (text ≡ 34 ∷ (inner ++ 34 ∷ [])) ⊎ ((text ≡ inner) × ((other : List ℕ) → text ≢ 34 ∷ (other ++ 34 ∷ [])))

-- the text shows this name, with double quotes or without
abbrev pub ShowsName : List ℕ → List ℕ → Type 0
ShowsName text name = (inner : List ℕ) × Unquotes text inner × NamesBytes inner name

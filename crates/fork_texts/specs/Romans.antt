-- A text in MacRoman, up to the first character that it lacks.
use Rattle.std.specs.Prelude.{◌≡◌, ◌≢◌, ◌<◌, ℕ, Bool, true, false, List, ◌++◌, encode_utf8}
use Rattle.fork_list.specs.Roman.{roman_char, roman_text}

-- these bytes are the whole text, or all before a character that no byte is
abbrev pub IsRomanOf : List ℕ → Bool → List ℕ → Type 0
IsRomanOf text true bytes = text ≡ roman_text bytes
IsRomanOf text false bytes =
    (character : ℕ) × (rest : List ℕ) × (text ≡ roman_text bytes ++ (encode_utf8 character ++ rest)) × ((byte : ℕ) → byte < 256 → roman_char byte ≢ character)

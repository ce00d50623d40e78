-- Bytes between quotes.
use Rattle.std.specs.Prelude.{ℕ, ◌/◌, ◌%◌, ◌==◌, ◌&&◌, ◌||◌, Bool, true, nat_le, if◌then◌else◌, List, [], ◌∷◌, ◌++◌, encode_utf8}
use Rattle.std.specs.List.{flat_map}
use Rattle.std.specs.Fmt.{digit_glyph}
use Rattle.fork_list.specs.declared.letters.Letters.{Letters}
use Rattle.fork_list.specs.declared.letters.Letters.TheVariants.{Roman, Raw}
use Rattle.fork_list.specs.Roman.{roman_char}

-- whether a byte is shown as its character: one that is printable ASCII, or any other from 128 on
abbrev pub is_letter : Letters → ℕ → Bool
is_letter Roman byte = (nat_le 32 byte && nat_le byte 126) || nat_le 128 byte
is_letter Raw byte = nat_le 32 byte && nat_le byte 126

-- a byte as text: its character, and else `\x` and two digits; a backslash is before a quote and a backslash
abbrev pub escaped : Letters → ℕ → ℕ → List ℕ
escaped letters quote byte =
    if byte == quote || byte == 92 then 92 ∷ byte ∷ []
    else if is_letter letters byte then encode_utf8 (roman_char byte)
    else 92 ∷ 120 ∷ digit_glyph true (byte / 16) ∷ digit_glyph true (byte % 16) ∷ []

-- bytes between quotes
abbrev pub quoted : Letters → ℕ → List ℕ → List ℕ
quoted letters quote bytes = quote ∷ (flat_map (escaped letters quote) bytes ++ quote ∷ [])

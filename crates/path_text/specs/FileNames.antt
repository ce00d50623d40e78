-- Names of files in messages.
use Rattle.std.specs.Prelude.{ℕ, Bool, true, not, ◌==◌, ◌&&◌, ◌||◌, ◌/◌, ◌%◌, ◌-◌, nat_lt, if◌then◌else◌, List, [], ◌∷◌, ◌++◌, encode_utf8, length, slice_index}
use Rattle.std.specs.Fmt.{digits}
use Rattle.std.specs.List.{flat_map}
use Rattle.std.specs.Str.{chars}
use Rattle.path_text.specs.Harm.{is_harmful, has_harmful}

-- whether the first byte of a text is one of those at which a name is between quotes: a blank or a quote, or there is
-- none
abbrev pub begins_unclearly : List ℕ → Bool
begins_unclearly [] = true
begins_unclearly (first ∷ rest) = first == 32 || first == 34

-- whether the last byte of a text is a blank
abbrev pub ends_blank : List ℕ → Bool
ends_blank name = slice_index name (length name - 1) == 32

-- whether a name is shown as it is
abbrev pub is_plain : List ℕ → Bool
is_plain name = not (begins_unclearly name) && (not (ends_blank name) && not (has_harmful name))

-- a character that does harm: `\x` and two digits in ASCII, and else `\u{..}`
abbrev pub coded : ℕ → List ℕ
coded character =
    if nat_lt character 128
    then 92 ∷ 120 ∷ (digits 16 true (character / 16) ++ digits 16 true (character % 16))
    else 92 ∷ 117 ∷ 123 ∷ (digits 16 true character ++ 125 ∷ [])

-- a character of a text of one line
abbrev pub in_line : ℕ → List ℕ
in_line character = if is_harmful character then coded character else encode_utf8 character

-- a character of a text that may have several lines
abbrev pub tamed : ℕ → List ℕ
tamed character = if character == 10 then encode_utf8 character else in_line character

-- a character between double quotes: a quote and a backslash have a backslash before them
abbrev pub escaped : ℕ → List ℕ
escaped character = if character == 34 || character == 92 then 92 ∷ encode_utf8 character else in_line character

-- a name in a message: as it is, or between double quotes
abbrev pub shown_name : List ℕ → List ℕ
shown_name name = if is_plain name then name else 34 ∷ (flat_map escaped (chars name) ++ 34 ∷ [])

-- A text as a line, in MacRoman.
use Rattle.std.specs.Prelude.{ℕ, ◌+◌, ◌-◌, ◌/◌, ◌%◌, ◌==◌, ◌&&◌, ◌||◌, Bool, true, not, nat_le, if◌then◌else◌, List, [], ◌∷◌, ◌++◌, length, take, replicate, slice_index, codes}
use Rattle.std.specs.List.{flat_map}
use Rattle.std.specs.Fmt.{decimal, digit_glyph, signed_decimal}
use Rattle.fork_texts.specs.declared.entry.Entry.{Entry}
use Rattle.fork_texts.specs.declared.place.Place.{Place}
use Rattle.fork_texts.specs.declared.place.Place.TheVariants.{Name, Whole, Title, Short, Long, Numbered}

-- a byte as `\x` and two digits
abbrev pub digits : ℕ → List ℕ
digits byte = 92 ∷ 120 ∷ digit_glyph true (byte / 16) ∷ digit_glyph true (byte % 16) ∷ []

-- a letter, which is written as itself
abbrev pub is_letter : ℕ → Bool
is_letter byte = (nat_le 32 byte && nat_le byte 126) || nat_le 128 byte

-- a byte between quotes: the end of a line is `\n`, a tab `\t`, and a backslash is before a quote and a backslash
abbrev pub written : ℕ → List ℕ
written byte =
    if byte == 13 then 92 ∷ 110 ∷ []
    else if byte == 9 then 92 ∷ 116 ∷ []
    else if byte == 34 || byte == 92 then 92 ∷ byte ∷ []
    else if is_letter byte then byte ∷ []
    else digits byte

-- a text between quotes
abbrev pub quoted : List ℕ → List ℕ
quoted text = 34 ∷ (flat_map written text ++ 34 ∷ [])

-- a byte of a type, in which a blank is `\x20`
abbrev pub kind_written : ℕ → List ℕ
kind_written byte = if byte == 32 then digits byte else written byte

-- how many bytes of a type there are without the blanks at its end, one at least
abbrev pub bare_length : List ℕ → ℕ
bare_length kind =
    if not (slice_index kind 3 == 32) then 4 else if not (slice_index kind 2 == 32) then 3 else if not (slice_index kind 1 == 32) then 2 else 1

-- a type, without the blanks at its end
abbrev pub kind_text : List ℕ → List ℕ
kind_text kind = flat_map kind_written (take (bare_length kind) kind)

-- the words for a place, after a blank
abbrev pub place_text : Place → List ℕ
place_text Whole = []
place_text Name = codes " name"
place_text Title = codes " title"
place_text Short = codes " short"
place_text Long = codes " long"
place_text (Numbered n) = codes " [" ++ (decimal n ++ 93 ∷ [])

-- what a line has before its text
abbrev pub head_text : Entry → List ℕ
head_text entry = kind_text entry.what.kind ++ (32 ∷ (signed_decimal entry.what.id ++ place_text entry.place))

-- the line of a text, which begins in column 17, or after what is longer
abbrev pub line_text : Entry → List ℕ
line_text entry = head_text entry ++ (replicate (1 + (16 - length (head_text entry))) 32 ++ (quoted entry.text ++ 10 ∷ []))

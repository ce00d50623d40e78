-- A BinHex text with wrong characters: what is read in their place, and which bytes the text stands for then.
use Rattle.std.specs.Prelude.{ℕ, ◌+◌, ◌==◌, nat_lt, Bool, true, false, not, ◌&&◌, ◌||◌, if◌then◌else◌, List, [], ◌∷◌, length, drop, position, slice_index, Option, None, Some, is_none, is_some, option_and_then, option_map, unwrap_or}
use Rattle.std.specs.List.{list_any}
use Rattle.mac_files.specs.BinHex.{colon_of, comment_of, decoded_from, digit_of, is_line_end, is_skipped, most_of, values_of}

-- one of the 64 digits
abbrev pub is_digit : ℕ → Bool
is_digit c = is_some (digit_of c)

-- a digit comes first
abbrev pub begins_with_digit : List ℕ → Bool
begins_with_digit [] = false
begins_with_digit (c ∷ cs) = is_digit c

-- a character that belongs where it is, right before these: a digit, one that is skipped, or a colon that no digit
-- follows
abbrev pub belongs : ℕ → List ℕ → Bool
belongs c rest = is_digit c || (is_skipped c || ((c == 58) && not (begins_with_digit rest)))

-- another took the place of a digit, which is read as `!`, six zero bits
abbrev pub mended_character : ℕ → List ℕ → ℕ
mended_character c rest = if belongs c rest then c else 33

-- a text as it is read in spite of wrong characters: all others keep their places
unfoldable pub mended : List ℕ → List ℕ
mended [] = []
mended (c ∷ cs) = mended_character c cs ∷ mended cs

-- the first place from another on of a character that is so
abbrev pub place_from : (ℕ → Bool) → List ℕ → ℕ → Option ℕ
place_from test text from = option_map (λ n. from + n) (position test (drop from text))

-- the first character after the line that each tool writes before the text that isn't skipped
abbrev pub first_after : List ℕ → Option ℕ
first_after text = option_and_then (place_from (λ c. not (is_skipped c)) text) (place_from is_line_end text (unwrap_or (comment_of text) 0))

-- that character is the first digit, or it is in the colon's place
abbrev pub start_at : List ℕ → ℕ → ℕ
start_at text at = if is_digit (slice_index text at) then at else at + 1

-- where the digits begin: after the colon; or where no line begins with one before a digit, after that line
abbrev pub start_by : Option ℕ → List ℕ → Option ℕ
start_by None text = option_map (start_at text) (first_after text)
start_by (Some colon) text =
    if list_any is_digit (drop (colon + 1) text) then Some (colon + 1) else option_map (start_at text) (first_after text)

abbrev pub start_of : List ℕ → Option ℕ
start_of text = start_by (colon_of text) text

-- the bytes that a text stands for from a place on
abbrev pub bytes_from : Option ℕ → List ℕ → List ℕ
bytes_from None text = []
bytes_from (Some start) text = values_of (decoded_from 0 (mended (drop start text)))

-- the bytes that a text stands for in spite of wrong characters
abbrev pub bytes_left : List ℕ → List ℕ
bytes_left text = bytes_from (start_of text) text

-- nothing comes after the line that each tool writes, or the text stands for more bytes than are read of it
abbrev pub is_shut : List ℕ → Bool
is_shut text = is_none (start_of text) || nat_lt (most_of (length text)) (length (bytes_left text))

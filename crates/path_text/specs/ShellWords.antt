-- Names of files as words for a shell.
use Rattle.std.specs.Prelude.{ℕ, Bool, false, not, ◌==◌, ◌&&◌, ◌||◌, ◌/◌, ◌%◌, if◌then◌else◌, List, [], ◌∷◌, ◌++◌, codes, encode_utf8}
use Rattle.std.specs.Int.{is_in_range}
use Rattle.std.specs.Fmt.{decimal}
use Rattle.std.specs.List.{flat_map, list_all, list_any}
use Rattle.std.specs.Str.{chars}
use Rattle.path_text.specs.Harm.{has_harmful}

-- whether a shell takes a byte as it is: a letter, a digit, or one of these marks
abbrev pub is_bare : ℕ → Bool
is_bare byte =
    is_in_range 48 57 byte || (is_in_range 65 90 byte || (is_in_range 97 122 byte || list_any (λ other. byte == other) (codes "_-./,:+@%=")))

-- whether a word has bytes, and doesn't begin with `=`
abbrev pub begins_word : List ℕ → Bool
begins_word [] = false
begins_word (first ∷ rest) = not (first == 61)

-- whether a shell takes a word as it is
abbrev pub is_bare_word : List ℕ → Bool
is_bare_word word = begins_word word && list_all is_bare word

-- a character between single quotes: a quote ends them, and they begin again after it
abbrev pub single : ℕ → List ℕ
single character = if character == 39 then codes "'\\''" else encode_utf8 character

-- whether a byte is itself between `$'` and `'`: printable ASCII, but no quote, no backslash and no exclamation mark
abbrev pub is_shown : ℕ → Bool
is_shown byte = is_in_range 32 126 byte && not (list_any (λ other. byte == other) (codes "'\\!"))

-- a byte between `$'` and `'`: itself, or a backslash and three octal digits
abbrev pub octal : ℕ → List ℕ
octal byte = if is_shown byte then byte ∷ [] else 92 ∷ (decimal (byte / 64) ++ (decimal (byte / 8 % 8) ++ decimal (byte % 8)))

-- what is before a name that begins with a hyphen, which were an option else
abbrev pub prefix : List ℕ → List ℕ
prefix [] = []
prefix (first ∷ rest) = if first == 45 then codes "./" else []

-- a name as a word for a shell
abbrev pub shell_word : List ℕ → List ℕ
shell_word name = prefix name ++ (
    if has_harmful name then codes "$'" ++ (flat_map octal name ++ codes "'")
    else if is_bare_word name then name
    else codes "'" ++ (flat_map single (chars name) ++ codes "'"))

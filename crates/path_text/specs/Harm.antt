-- Characters that do harm where they are shown.
use Rattle.std.specs.Prelude.{ℕ, Bool, ◌==◌, ◌||◌, List}
use Rattle.std.specs.Int.{is_in_range}
use Rattle.std.specs.List.{list_any}
use Rattle.std.specs.Str.{chars}

-- a control character; a sign that turns the direction of the text; a separator, or an embedding, override or isolate
-- of a direction; the mark of the order of bytes
abbrev pub is_harmful : ℕ → Bool
is_harmful character =
    is_in_range 0 0x1F character || (is_in_range 0x7F 0x9F character
    || (character == 0x61C || (is_in_range 0x200E 0x200F character
    || (is_in_range 0x2028 0x202E character || (is_in_range 0x2066 0x2069 character || character == 0xFEFF)))))

-- whether a text has a character that does harm
abbrev pub has_harmful : List ℕ → Bool
has_harmful text = list_any is_harmful (chars text)

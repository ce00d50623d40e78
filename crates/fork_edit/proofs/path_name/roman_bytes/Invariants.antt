use Rattle.std.proofs.Common.{◌≡◌, ◌++◌, List, ℕ, IsUtf8, chars}
use Rattle.std.specs.Str.Iter.{chars_rest}
use Rattle.fork_edit.specs.PathNames.{AreBytesOf}
use Rattle.fork_edit.proofs.path_name.roman_bytes.Given as goal

-- the bytes so far are those of the characters before the others
abbrev pub invariant-loop-character : goal.invariant-loop-character
invariant-loop-character l =
    IsUtf8 (chars_rest l.character-iterator)
    × ((front : List ℕ) × (chars l.fn.text ≡ front ++ chars (chars_rest l.character-iterator)) × AreBytesOf front l.bytes.items)

use Rattle.std.proofs.Common.{◌≡◌, List, ℕ, ◌++◌, IsUtf8, chars}
use Rattle.std.specs.List.{flat_map}
use Rattle.std.specs.Fmt.{HasWritten, IsPlainFormatter}
use Rattle.std.specs.Str.Iter.{chars_rest}
use Rattle.path_text.specs.Ways.{shown_by}
use Rattle.path_text.proofs.characters.CharactersDisplay.fmt.Given as goal

-- the characters so far are written
abbrev pub invariant-loop-character : goal.invariant-loop-character
invariant-loop-character g l =
    IsUtf8 (chars_rest l.character-iterator)
    × (IsPlainFormatter l.initial.f → (done : List ℕ) × HasWritten g.W.Write.write_str_gives l.initial.f done l.f
    × (done ++ flat_map (shown_by l.fn.self.way) (chars (chars_rest l.character-iterator)) ≡ flat_map (shown_by l.fn.self.way) (chars l.fn.self.text.now)))

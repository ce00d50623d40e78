use Rattle.std.proofs.Common.{◌≡◌, List, ℕ, ◌++◌, true, IsUtf8, chars}
use Rattle.std.specs.List.{flat_map}
use Rattle.std.specs.Str.Iter.{chars_rest}
use Rattle.path_text.specs.FileNames.{escaped}
use Rattle.macheap.specs.Saying.{Says}
use Rattle.macheap.proofs.name.write_characters.Given as goal

-- the characters so far are said
abbrev pub invariant-loop-character : goal.invariant-loop-character
invariant-loop-character g l =
    IsUtf8 (chars_rest l.character-iterator) × (done : List ℕ) × Says g.M.Write.contents l.fn.messages l.messages true done
    × (done ++ flat_map escaped (chars (chars_rest l.character-iterator)) ≡ flat_map escaped (chars l.fn.name))

use Rattle.std.proofs.Common.{◌≡◌, IsUtf8}
use Rattle.std.specs.Str.Iter.{chars_rest}
use Rattle.path_text.specs.Harm.{has_harmful}
use Rattle.path_text.proofs.harm.has_harmful.Given as goal

-- no character so far does harm
abbrev pub invariant-loop-character : goal.invariant-loop-character
invariant-loop-character l =
    IsUtf8 (chars_rest l.character-iterator) × (has_harmful (chars_rest l.character-iterator) ≡ has_harmful l.fn.name)

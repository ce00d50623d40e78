use Rattle.std.proofs.Common.{◌≡◌, ◌++◌}
use Rattle.fork_list.specs.Roman.{roman_text}
use Rattle.fork_texts.proofs.roman.roman_of.Given as goal

-- the bytes so far are the text before what is left
abbrev pub invariant-loop-character : goal.invariant-loop-character
invariant-loop-character l = l.fn.text ≡ roman_text l.bytes.items ++ l.character-iterator.rest.now

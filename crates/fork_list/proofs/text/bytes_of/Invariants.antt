use Rattle.std.proofs.Common.{◌≡◌, ◌++◌}
use Rattle.fork_list.specs.Roman.{roman_text}
use Rattle.fork_list.proofs.text.bytes_of.Given as goal

abbrev pub invariant-loop-character : goal.invariant-loop-character
invariant-loop-character l = l.fn.text ≡ roman_text l.bytes.items ++ l.character-iterator.rest.now

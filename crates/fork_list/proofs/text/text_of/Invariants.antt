use Rattle.std.proofs.Common.{◌≡◌, take, string_bytes}
use Rattle.fork_list.specs.Roman.{roman_text}
use Rattle.fork_list.proofs.text.text_of.Given as goal

abbrev pub invariant-loop-byte : goal.invariant-loop-byte
invariant-loop-byte l = string_bytes l.text ≡ roman_text (take l.byte-index l.bytes)

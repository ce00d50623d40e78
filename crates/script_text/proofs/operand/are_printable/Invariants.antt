use Rattle.std.proofs.Common.{◌≡◌, take}
use Rattle.std.specs.List.{list_all}
use Rattle.script_text.specs.Operands.{is_printable}
use Rattle.script_text.proofs.operand.are_printable.Given as goal

-- whether the bytes so far may be in quotes
abbrev pub invariant-loop-byte : goal.invariant-loop-byte
invariant-loop-byte l = l.all ≡ list_all is_printable (take l.byte-index l.bytes)

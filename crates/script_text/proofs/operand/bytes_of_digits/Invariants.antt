use Rattle.std.proofs.Common.{length}
use Rattle.script_text.proofs.Digits.{Decoding}
use Rattle.script_text.proofs.operand.bytes_of_digits.Given as goal

-- the digits so far are the bytes so far
abbrev pub invariant-loop-rest : goal.invariant-loop-rest
invariant-loop-rest l = Decoding l.digits l.rest l.bytes.items

-- the digits that are left
abbrev pub decreases-loop-rest : goal.decreases-loop-rest
decreases-loop-rest l = length l.rest

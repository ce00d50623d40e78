use Rattle.std.proofs.Common.{map, length}
use Rattle.script_text.specs.Front.{view}
use Rattle.script_text.proofs.AnswerLaws.{Calling}
use Rattle.script_text.proofs.answer.read_calls.Given as goal

-- the tokens so far are the calls so far
abbrev pub invariant-loop-rest : goal.invariant-loop-rest
invariant-loop-rest l = Calling l.names (map view l.tokens) (map view l.rest) l.calls.items

-- the tokens that are left
abbrev pub decreases-loop-rest : goal.decreases-loop-rest
decreases-loop-rest l = length l.rest

use Rattle.std.proofs.Common.{length, map}
use Rattle.script_text.specs.Front.{view}
use Rattle.script_text.proofs.Reading.{Reading}
use Rattle.script_text.proofs.token.read_tokens.Given as goal

-- the line has the tokens so far, and then those of the rest
abbrev pub invariant-loop-first : goal.invariant-loop-first
invariant-loop-first l = Reading l.line l.rest (map view l.read.items)

-- the bytes that are left
abbrev pub decreases-loop-first : goal.decreases-loop-first
decreases-loop-first l = length l.rest

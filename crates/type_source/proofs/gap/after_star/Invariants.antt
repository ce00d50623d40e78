use Rattle.std.proofs.Common.{◌≡◌, length}
use Rattle.type_source.specs.Tokens.{after_star}
use Rattle.type_source.proofs.gap.after_star.Given as goal

abbrev pub invariant-loop-first : goal.invariant-loop-first
invariant-loop-first l = after_star l.rest ≡ after_star l.text

abbrev pub decreases-loop-first : goal.decreases-loop-first
decreases-loop-first l = length l.rest

use Rattle.std.proofs.Common.{◌-◌}
use Rattle.zone_index.specs.Disorder.{OrderedTo}
use Rattle.zone_index.proofs.disorder.first_from.Given as goal

-- the blocks below are in order
abbrev pub invariant-loop-at : goal.invariant-loop-at
invariant-loop-at l = OrderedTo l.zone l.at l.past_free

-- the bytes that are left
abbrev pub decreases-loop-at : goal.decreases-loop-at
decreases-loop-at l = l.end - l.at

use Rattle.std.proofs.Common.{◌-◌}
use Rattle.zone_index.proofs.Walking.{Measured}
use Rattle.zone_index.proofs.pages.measure.Given as goal

abbrev pub invariant-loop-at : goal.invariant-loop-at
invariant-loop-at l = Measured l.zone l.first l.at l.sums

-- the bytes that are left
abbrev pub decreases-loop-at : goal.decreases-loop-at
decreases-loop-at l = l.end - l.at

use Rattle.std.proofs.Common.{◌-◌}
use Rattle.zone_index.proofs.Reached.{Below}
use Rattle.zone_index.proofs.rooms.reach.Given as goal

abbrev pub invariant-loop-at : goal.invariant-loop-at
invariant-loop-at l = Below l.zone l.needed l.at l.sum

-- the bytes that are left
abbrev pub decreases-loop-at : goal.decreases-loop-at
decreases-loop-at l = l.end - l.at

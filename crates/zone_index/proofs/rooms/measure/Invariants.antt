use Rattle.std.proofs.Common.{◌+◌, ◌*◌, ◌-◌}
use Rattle.zone_index.proofs.LeafWalk.{Gathered}
use Rattle.zone_index.proofs.rooms.measure.Given as goal

abbrev pub invariant-loop-at : goal.invariant-loop-at
invariant-loop-at l = Gathered l.zone (256 * l.leaf) (256 * l.leaf + 256) l.at l.sum

-- the bytes that are left
abbrev pub decreases-loop-at : goal.decreases-loop-at
decreases-loop-at l = l.end - l.at

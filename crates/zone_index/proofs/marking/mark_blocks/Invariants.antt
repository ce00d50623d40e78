use Rattle.std.proofs.Common.{◌-◌}
use Rattle.zone_index.proofs.Marked.{Marking}
use Rattle.zone_index.proofs.marking.mark_blocks.Given as goal

-- the blocks below have their marks
abbrev pub invariant-loop-at : goal.invariant-loop-at
invariant-loop-at l = Marking l.zone l.at l.marks l.purgeable

-- the bytes that are left
abbrev pub decreases-loop-at : goal.decreases-loop-at
decreases-loop-at l = l.end - l.at

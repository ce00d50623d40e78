use Rattle.std.proofs.Common.{◌-◌}
use Rattle.zone_records.proofs.Adopted.{UsedUpTo}
use Rattle.zone_records.proofs.adopting.are_used.Given as goal

abbrev pub invariant-loop-at : goal.invariant-loop-at
invariant-loop-at l = UsedUpTo l.blocks l.at

abbrev pub decreases-loop-at : goal.decreases-loop-at
decreases-loop-at l = l.end - l.at

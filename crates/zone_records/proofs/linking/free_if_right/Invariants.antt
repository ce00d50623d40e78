use Rattle.std.proofs.Common.{◌-◌}
use Rattle.zone_records.proofs.Paired.{PairedUpTo}
use Rattle.zone_records.proofs.ZoneSlots.{Counted}
use Rattle.zone_records.proofs.linking.free_if_right.Given as goal

abbrev pub invariant-loop-at : goal.invariant-loop-at
invariant-loop-at l = record { paired : PairedUpTo l.blocks l.at l.full l.handles; counted : Counted l.blocks l.at l.free }

abbrev pub decreases-loop-at : goal.decreases-loop-at
decreases-loop-at l = l.end - l.at

use Rattle.std.proofs.Common.{◌-◌, ◌≤◌}
use Rattle.block_bytes.specs.Layout.{address_after}
use Rattle.zone_records.specs.Masters.{SameWhere}
use Rattle.zone_records.proofs.MasterBlocks.{Done}
use Rattle.zone_records.proofs.masters.first_changed.Given as goal

abbrev pub invariant-loop-master : goal.invariant-loop-master
invariant-loop-master l = Done l.blocks (SameWhere (λ x. l.from ≤ x) l.blocks l.bytes) l.at

abbrev pub decreases-loop-master : goal.decreases-loop-master
decreases-loop-master l = address_after l.blocks l.blocks.blocks - l.at

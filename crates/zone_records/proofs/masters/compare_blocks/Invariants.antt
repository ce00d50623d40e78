use Rattle.std.proofs.Common.{◌-◌}
use Rattle.block_bytes.specs.Layout.{address_after}
use Rattle.zone_records.proofs.Between.{Compared}
use Rattle.zone_records.proofs.masters.compare_blocks.Given as goal

abbrev pub invariant-loop-agreement : goal.invariant-loop-agreement
invariant-loop-agreement l = Compared l.blocks l.bytes l.from l.end l.at l.agreement

abbrev pub decreases-loop-agreement : goal.decreases-loop-agreement
decreases-loop-agreement l = address_after l.blocks l.blocks.blocks - l.at

use Rattle.std.proofs.Common.{◌+◌, ◌-◌}
use Rattle.block_bytes.specs.FourWalks.{HavePassed}
use Rattle.block_bytes.proofs.blocks.Blocks.has_own_bytes.Given as goal

abbrev pub invariant-loop-heads : goal.invariant-loop-heads
invariant-loop-heads l = HavePassed l.self l.bytes l.initial.at l.at

abbrev pub decreases-loop-heads : goal.decreases-loop-heads
decreases-loop-heads l = (l.ends.fourth - l.at.first) + (l.ends.fourth - l.at.second) + (l.ends.fourth - l.at.third) + (l.ends.fourth - l.at.fourth)

use Rattle.std.proofs.Common.{◌-◌}
use Rattle.block_bytes.specs.Adopting.{BlocksUpTo}
use Rattle.block_bytes.proofs.adopting.read_blocks.Given as goal

abbrev pub invariant-loop-at : goal.invariant-loop-at
invariant-loop-at l = BlocksUpTo l.fn.spec l.memory.bytes l.index l.at l.free

abbrev pub decreases-loop-at : goal.decreases-loop-at
decreases-loop-at l = l.size - l.at

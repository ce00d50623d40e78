use Rattle.std.proofs.Common.{◌-◌}
use Rattle.block_bytes.proofs.WrittenOwn.{OwnUpTo}
use Rattle.block_bytes.proofs.blocks.Blocks.write_own_bytes.Given as goal

abbrev pub invariant-loop-at : goal.invariant-loop-at
invariant-loop-at l = OwnUpTo l.self l.fn.bytes l.bytes l.at

abbrev pub decreases-loop-at : goal.decreases-loop-at
decreases-loop-at l = l.size - l.at

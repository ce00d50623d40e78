use Rattle.std.proofs.Common.{◌-◌}
use Rattle.block_bytes.proofs.Comparing.{ComparedUpTo}
use Rattle.block_bytes.proofs.blocks.Blocks.compare_until.Given as goal

abbrev pub invariant-loop-at : goal.invariant-loop-at
invariant-loop-at l = ComparedUpTo l.self l.bytes l.from l.end l.at

abbrev pub decreases-loop-at : goal.decreases-loop-at
decreases-loop-at l = l.stop - l.at

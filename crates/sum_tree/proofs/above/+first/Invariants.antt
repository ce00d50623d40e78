use Rattle.std.proofs.Common.{length}
use Rattle.sum_tree.proofs.above.+first.Given as goal

abbrev pub decreases-first : goal.decreases-first
decreases-first g l = length l.lower.now

use Rattle.std.proofs.Common.{length}
use Rattle.sum_tree.proofs.above.+total.Given as goal

abbrev pub decreases-total : goal.decreases-total
decreases-total g l = length l.lower.now

use Rattle.std.proofs.Common.{length}
use Rattle.sum_tree.proofs.above.+renew.Given as goal

abbrev pub decreases-renew : goal.decreases-renew
decreases-renew g l = length l.lower.now

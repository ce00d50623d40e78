use Rattle.std.proofs.Common.{length}
use Rattle.sum_tree.proofs.above.+renew_all.Given as goal

abbrev pub decreases-renew_all : goal.decreases-renew_all
decreases-renew_all g l = length l.lower.now

use Rattle.sum_tree.proofs.above.+sums_above.Given as goal

abbrev pub decreases-sums_above : goal.decreases-sums_above
decreases-sums_above g l = l.count

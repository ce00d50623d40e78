use Rattle.std.proofs.Common.{◌≡◌}
use Rattle.sum_tree.specs.Monoids.{sum_of}
use Rattle.sum_tree.proofs.rows.sum_between.Given as goal

abbrev pub invariant-loop-at : goal.invariant-loop-at
invariant-loop-at g l = let m = g.M.Monoid in l.sum ≡ sum_of m.empty m.op l.items l.from l.at

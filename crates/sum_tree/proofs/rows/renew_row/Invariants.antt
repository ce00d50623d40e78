use Rattle.std.proofs.Common.{length}
use Rattle.sum_tree.specs.Rows.{IsOverOutside}
use Rattle.sum_tree.proofs.rows.renew_row.Given as goal

abbrev pub invariant-loop-group : goal.invariant-loop-group
invariant-loop-group g l = let m = g.M.Monoid in IsOverOutside m.empty m.op l.lower l.upper l.group (length l.fn.upper)

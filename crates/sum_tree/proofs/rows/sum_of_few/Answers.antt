use Rattle.std.proofs.Common.{◌∙◌, length, arith}
use Rattle.sum_tree.proofs.Totals.{sum-all}
use Rattle.sum_tree.proofs.rows.sum_of_few.Goals as goal

pub returns : goal.returns
returns g c = c.sum_between.ensures ∙ sum-all g.M.Monoid.laws c.args.items.now (length c.args.items.now) (omega arith)

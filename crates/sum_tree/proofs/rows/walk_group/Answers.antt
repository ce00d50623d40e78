use Rattle.std.proofs.Common.{◌+◌, ◌*◌, length, arith}
use Rattle.sum_tree.proofs.Totals.{sum-past}
use Rattle.sum_tree.proofs.rows.walk_group.Goals as goal

pub walk-requires-clause-passes : goal.walk-requires-clause-passes
walk-requires-clause-passes g c =
    let xs = c.args.items.now in
    rw (sum-past g.M.Monoid.laws xs 0 (length xs) (8 * c.args.group + 8) (omega arith) (omega arith) (omega arith)) c.requires.passes

use Rattle.std.proofs.Common.{length, arith}
use Rattle.sum_tree.proofs.Same.{outside-more, outside-none}
use Rattle.sum_tree.proofs.rows.renew_row.Goals as goal

pub loop-group-preserved : goal.loop-group-preserved
loop-group-preserved g c =
    let p = c.loop-group.invariant.places in
    outside-more g.M.Monoid.laws c.args.lower.now c.loop-group.upper c.loop-group.group (length c.args.upper.now) c.group_sum.result (omega arith) c.group_sum.ensures c.loop-group.invariant

pub returns : goal.returns
returns g c = outside-none g.M.Monoid.laws c.args.lower.now c.loop-group.upper c.loop-group.group (length c.args.upper.now) (omega arith) c.loop-group.invariant

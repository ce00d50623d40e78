use Rattle.std.proofs.Common.{arith, replicate, []}
use Rattle.std.proofs.lemmas.List.{length-replicate}
use Rattle.sum_tree.proofs.Over.{none-over, nothing-over}
use Rattle.sum_tree.proofs.above.+sums_above.Goals as goal

pub returns-then-count-le-GROUP-clause-over : goal.returns-then-count-le-GROUP-clause-over
returns-then-count-le-GROUP-clause-over g t c =
    let m = g.M.Monoid in
    let few = length-replicate c.args.count m.empty in
    none-over m.empty m.op (replicate c.args.count m.empty) [] (omega arith)

pub returns-clause-over : goal.returns-clause-over
returns-clause-over g t c = nothing-over g.M.Monoid.laws c.args.count c.div_ceil-groups.result c.sums_above.result (omega arith) c.sums_above.ensures.over

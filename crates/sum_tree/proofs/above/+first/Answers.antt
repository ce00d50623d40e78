use Rattle.std.proofs.Common.{◌<◌, IsFalse, length, sym, subst, arith, rules}
use Rattle.sum_tree.specs.Monoids.{total}
use Rattle.sum_tree.specs.Rows.{IsOver, AreOver}
use Rattle.sum_tree.proofs.Groups.{group-before, group-passes}
use Rattle.sum_tree.proofs.Over.{next-over, rest-over}
use Rattle.sum_tree.proofs.Totals.{total-over}
use Rattle.sum_tree.proofs.above.+first.Goals as goal

pub first-requires : goal.first-requires
first-requires g t c κs within =
    let m = g.M.Monoid in
    let s = c.split_at in
    let row = s.result.0.now in
    let rest : AreOver m.empty m.op row s.result.1.now = rest-over m.empty m.op c.args.lower.now c.args.upper.now row s.result.1.now c.div_ceil.result s.ensures.front s.ensures.back (omega arith) c.requires.over in
    let over : IsOver m.empty m.op c.args.lower.now row = next-over m.empty m.op c.args.lower.now c.args.upper.now row c.div_ceil.result s.ensures.front (omega arith) (omega arith) c.requires.over in
    let fits : m.fits (total m.empty m.op row) = subst m.fits (sym (total-over m.laws c.args.lower.now row over)) c.requires.fits in
    let less : length row < length c.args.lower.now = omega arith in
    search rules

pub returns-in_err-above : goal.returns-in_err-above
returns-in_err-above g t c =
    let m = g.M.Monoid in
    let row = c.split_at.result.0.now in
    let over = next-over m.empty m.op c.args.lower.now c.args.upper.now row c.div_ceil.result c.split_at.ensures.front (omega arith) (omega arith) c.requires.over in
    rw c.from_residual.ensures (subst (λ s. IsFalse (g.T.Test.passes c.args.test.now s)) (total-over m.laws c.args.lower.now row over) c.in_err-above.ensures)

pub walk_group-requires-clause-inside : goal.walk_group-requires-clause-inside
walk_group-requires-clause-inside g t c =
    let i = c.in_ok-above.ensures.inside in
    let n = c.split_at.ensures.front_len in
    omega arith

pub walk_group-requires-clause-before : goal.walk_group-requires-clause-before
walk_group-requires-clause-before g t c =
    let m = g.M.Monoid in
    let row = c.split_at.result.0.now in
    let over = next-over m.empty m.op c.args.lower.now c.args.upper.now row c.div_ceil.result c.split_at.ensures.front (omega arith) (omega arith) c.requires.over in
    group-before m.laws c.args.lower.now (g.T.Test.passes c.args.test.now) row over c.in_ok-above.above.at c.in_ok-above.above.sum c.in_ok-above.ensures

pub walk_group-requires-clause-passes : goal.walk_group-requires-clause-passes
walk_group-requires-clause-passes g t c =
    let m = g.M.Monoid in
    let row = c.split_at.result.0.now in
    let over = next-over m.empty m.op c.args.lower.now c.args.upper.now row c.div_ceil.result c.split_at.ensures.front (omega arith) (omega arith) c.requires.over in
    group-passes m.laws c.args.lower.now (g.T.Test.passes c.args.test.now) row over c.in_ok-above.above.at c.in_ok-above.above.sum c.in_ok-above.ensures

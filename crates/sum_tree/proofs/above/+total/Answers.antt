use Rattle.std.proofs.Common.{◌<◌, ◌∙◌, length, sym, subst, arith, rules}
use Rattle.sum_tree.specs.Monoids.{total}
use Rattle.sum_tree.specs.Rows.{IsOver, AreOver}
use Rattle.sum_tree.proofs.Over.{next-over, rest-over}
use Rattle.sum_tree.proofs.Totals.{total-over}
use Rattle.sum_tree.proofs.above.+total.Goals as goal

pub total-requires : goal.total-requires
total-requires g t c κs within =
    let m = g.M.Monoid in
    let s = c.split_at in
    let row = s.result.0.now in
    let rest : AreOver m.empty m.op row s.result.1.now = rest-over m.empty m.op c.args.lower.now c.args.upper.now row s.result.1.now c.div_ceil.result s.ensures.front s.ensures.back (omega arith) c.requires.over in
    let over : IsOver m.empty m.op c.args.lower.now row = next-over m.empty m.op c.args.lower.now c.args.upper.now row c.div_ceil.result s.ensures.front (omega arith) (omega arith) c.requires.over in
    let fits : m.fits (total m.empty m.op row) = subst m.fits (sym (total-over m.laws c.args.lower.now row over)) c.requires.fits in
    let less : length row < length c.args.lower.now = omega arith in
    search rules

pub returns : goal.returns
returns g t c =
    let m = g.M.Monoid in
    let row = c.split_at.result.0.now in
    c.total.ensures
    ∙ total-over m.laws c.args.lower.now row (next-over m.empty m.op c.args.lower.now c.args.upper.now row c.div_ceil.result c.split_at.ensures.front (omega arith) (omega arith) c.requires.over)

use Rattle.std.proofs.Common.{◌<◌, ◌+◌, ◌*◌, ◌/◌, length, sym, subst, arith, rules}
use Rattle.sum_tree.specs.Monoids.{total}
use Rattle.sum_tree.specs.Rows.{AreOver, AreOverBut}
use Rattle.sum_tree.proofs.Over.{next-over, rest-over, all-over}
use Rattle.sum_tree.proofs.Same.{over-same, same-wider}
use Rattle.sum_tree.proofs.Totals.{total-over}
use Rattle.sum_tree.proofs.above.+renew.Goals as goal

pub renew_group-requires-clause-others : goal.renew_group-requires-clause-others
renew_group-requires-clause-others g t c =
    let m = g.M.Monoid in
    let b = c.requires.others in
    let p = b.same.places in
    let s = c.split_at_mut-row in
    let n = c.args.group in
    over-same m.laws b.before c.args.lower.now s.result.0.now (8 * n) (8 * n + 8) n (n + 1) (omega arith) (omega arith)
    (next-over m.empty m.op b.before c.args.upper.now s.result.0.now c.div_ceil.result s.ensures.front (omega arith) (omega arith) b.over) b.same

pub renew-requires : goal.renew-requires
renew-requires g t c κs within =
    let m = g.M.Monoid in
    let b = c.requires.others in
    let p = b.same.places in
    let s = c.split_at_mut-row in
    let old = s.result.0.now in
    let row = c.renew_group.new.upper in
    let n = c.args.group in
    let q = c.renew_group.ensures.others.places in
    let others : AreOverBut m.empty m.op row s.result.1.now (8 * (n / 8)) (8 * (n / 8) + 8) = record {
      before = old;
      over = rest-over m.empty m.op b.before c.args.upper.now old s.result.1.now c.div_ceil.result s.ensures.front s.ensures.back (omega arith) b.over;
      same = same-wider m.laws old row n (n + 1) (8 * (n / 8)) (8 * (n / 8) + 8) (omega arith) (omega arith) c.renew_group.ensures.others;
    } in
    let fits : m.fits (total m.empty m.op row) = subst m.fits (sym (total-over m.laws c.args.lower.now row c.renew_group.ensures.over)) c.requires.fits in
    let less : length row < length c.args.lower.now = omega arith in
    let inside : 8 * (n / 8) < length row = omega arith in
    search rules

pub returns-then-renew_group : goal.returns-then-renew_group
returns-then-renew_group g t c = let m = g.M.Monoid in all-over m.empty m.op c.args.lower.now c.renew_group.new.upper c.renew.new.upper c.renew_group.ensures.over c.renew.ensures

pub returns-else-renew_group : goal.returns-else-renew_group
returns-else-renew_group g t c =
    let m = g.M.Monoid in
    let b = c.requires.others in
    let p = b.same.places in
    let s = c.split_at_mut-row in
    let above = rest-over m.empty m.op b.before c.args.upper.now s.result.0.now s.result.1.now c.div_ceil.result s.ensures.front s.ensures.back (omega arith) b.over in
    all-over m.empty m.op c.args.lower.now c.renew_group.new.upper s.result.1.now c.renew_group.ensures.over
    (subst (λ xs. AreOver m.empty m.op xs s.result.1.now) (sym (c.renew_group.ensures.same c.if-renew_group.false)) above)

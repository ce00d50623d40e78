use Rattle.std.proofs.Common.{◌<◌, length, sym, subst, arith, rules}
use Rattle.sum_tree.specs.Monoids.{total}
use Rattle.sum_tree.specs.Rows.{AreOverBut}
use Rattle.sum_tree.proofs.Over.{next-over, rest-over, all-over}
use Rattle.sum_tree.proofs.Same.{over-same, same-length}
use Rattle.sum_tree.proofs.Totals.{total-over}
use Rattle.sum_tree.proofs.above.+renew_all.Goals as goal

pub renew_row-requires-clause-places : goal.renew_row-requires-clause-places
renew_row-requires-clause-places g t c =
    let m = g.M.Monoid in
    let b = c.requires.places in
    let p = b.same.places in
    let s = c.split_at_mut-row in
    over-same m.laws b.before c.args.lower.now s.result.0.now 0 (length c.args.lower.now) 0 (length s.result.0.now) (omega arith) (omega arith)
    (next-over m.empty m.op b.before c.args.upper.now s.result.0.now c.div_ceil.result s.ensures.front (omega arith) (omega arith) b.over) b.same

pub renew_all-requires : goal.renew_all-requires
renew_all-requires g t c κs within =
    let m = g.M.Monoid in
    let b = c.requires.places in
    let p = b.same.places in
    let s = c.split_at_mut-row in
    let old = s.result.0.now in
    let row = c.renew_row.new.upper in
    let q = c.renew_row.ensures.places in
    let places : AreOverBut m.empty m.op row s.result.1.now 0 (length row) = record {
      before = old;
      over = rest-over m.empty m.op b.before c.args.upper.now old s.result.1.now c.div_ceil.result s.ensures.front s.ensures.back (omega arith) b.over;
      same = same-length m.laws old row (omega arith);
    } in
    let fits : m.fits (total m.empty m.op row) = subst m.fits (sym (total-over m.laws c.args.lower.now row c.renew_row.ensures)) c.requires.fits in
    let less : length row < length c.args.lower.now = omega arith in
    search rules

pub returns : goal.returns
returns g t c = let m = g.M.Monoid in all-over m.empty m.op c.args.lower.now c.renew_row.new.upper c.renew_all.new.upper c.renew_row.ensures c.renew_all.ensures

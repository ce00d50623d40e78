use Rattle.std.proofs.Common.{◌∙◌, sym, arith}
use Rattle.std.proofs.lemmas.List.{get_or_read}
use Rattle.sum_tree.proofs.Totals.{sum-one, sum-next, next-fits}
use Rattle.sum_tree.proofs.rows.sum_between.Goals as goal

pub loop-at-init : goal.loop-at-init
loop-at-init g c =
    let m = g.M.Monoid in
    get_or_read c.args.items.now c.args.from c.index-items-from.result (omega arith) c.index-items-from.is m.empty ∙ sym (sum-one m.laws c.args.items.now c.args.from)

pub join-sum-requires : goal.join-sum-requires
join-sum-requires g c =
    let m = g.M.Monoid in
    let item = get_or_read c.args.items.now c.loop-at.at c.index-items-at.result (omega arith) c.index-items-at.is m.empty in
    next-fits m.laws c.args.items.now c.args.from c.loop-at.at c.loop-at.sum c.index-items-at.result (omega arith) c.loop-at.invariant item c.requires.fits

pub loop-at-preserved : goal.loop-at-preserved
loop-at-preserved g c =
    let m = g.M.Monoid in
    let item = get_or_read c.args.items.now c.loop-at.at c.index-items-at.result (omega arith) c.index-items-at.is m.empty in
    c.join-sum.ensures ∙ sum-next m.laws c.args.items.now c.args.from c.loop-at.at c.loop-at.sum c.index-items-at.result (omega arith) c.loop-at.invariant item

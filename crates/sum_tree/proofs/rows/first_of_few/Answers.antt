use Rattle.std.proofs.Common.{◌≡◌, ◌∙◌, sym, arith, rules}
use Rattle.std.proofs.lemmas.List.{get_or_read}
use Rattle.sum_tree.specs.Monoids.{total}
use Rattle.sum_tree.proofs.Totals.{sum-all, sum-none, sum-next, next-fits}
use Rattle.sum_tree.proofs.rows.first_of_few.Goals as goal

pub loop-at-init : goal.loop-at-init
loop-at-init g c = let m = g.M.Monoid in rw c.none-sum.ensures (record { sum_is = sym (sum-none m.laws c.args.items.now 0); fails = c.requires.begins })

pub join-next-requires : goal.join-next-requires
join-next-requires g c =
    let m = g.M.Monoid in
    let item = get_or_read c.args.items.now c.loop-at.at c.index-items-at.result (omega arith) c.index-items-at.is m.empty in
    next-fits m.laws c.args.items.now 0 c.loop-at.at c.loop-at.sum c.index-items-at.result (omega arith) c.loop-at.invariant.sum_is item c.requires.fits

pub loop-at-preserved : goal.loop-at-preserved
loop-at-preserved g c =
    let m = g.M.Monoid in
    let item = get_or_read c.args.items.now c.loop-at.at c.index-items-at.result (omega arith) c.index-items-at.is m.empty in
    record {
      sum_is = c.join-next.ensures ∙ sum-next m.laws c.args.items.now 0 c.loop-at.at c.loop-at.sum c.index-items-at.result (omega arith) c.loop-at.invariant.sum_is item;
      fails = search rules;
    }

pub returns : goal.returns
returns g c =
    let m = g.M.Monoid in
    let all : c.loop-at.sum ≡ total m.empty m.op c.args.items.now = c.loop-at.invariant.sum_is ∙ sum-all m.laws c.args.items.now c.loop-at.at (omega arith) in
    rw (← all) c.loop-at.invariant.fails

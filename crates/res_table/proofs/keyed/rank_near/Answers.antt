use Rattle.std.proofs.Common.{rules, ◌≡◌, ◌<◌, ◌+◌, sym, ap, ◌∙◌, arith}
use Rattle.res_table.specs.Keyed.{rank}
use Rattle.res_table.proofs.Pairs.{rank_between, order_dropped, order_taken}
use Rattle.res_table.proofs.keyed.rank_near.Goals as goal

pub rank_by_halving-requires : goal.rank_by_halving-requires
rank_by_halving-requires c = order_taken _ _ (order_dropped c.args.pairs.now c.saturating_sub-from.result c.requires.order)

-- the pair belongs there
there : (c : goal.After-rank_by_halving) → rank c.args.pair c.args.pairs.now ≡ c.saturating_sub-from.result + c.rank_by_halving.result
there c =
    let from = c.saturating_sub-from.result in let x = c.args.pair in let ps = c.args.pairs.now in
    rank_between x ps from c.min-to.result (c.is_from.ensures.0 c.if-not-is_from.false) (c.is_up_to.ensures.0 c.if-not-is_up_to.false)
    ∙ ap (λ n. from + n) (sym c.rank_by_halving.ensures)

pub overflow_add-result : goal.overflow_add-result
overflow_add-result c =
    let is = there c in let up = c.is_up_to.ensures.0 c.if-not-is_up_to.false in
    let small = c.min-to.type_inv in
    let fits : c.saturating_sub-from.result + c.rank_by_halving.result < 18446744073709551616 = omega arith in search (rules, fits)

pub returns : goal.returns
returns c = sym (there c)

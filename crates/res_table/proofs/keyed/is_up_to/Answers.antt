use Rattle.std.proofs.Common.{rules, ◌<◌, length, arith}
use Rattle.res_table.proofs.Pairs.{told_up_to, rank_within}
use Rattle.res_table.proofs.keyed.is_up_to.Goals as goal

pub returns-then-index-pairs : goal.returns-then-index-pairs
returns-then-index-pairs c =
    let few = rank_within c.args.pair c.args.pairs.now in let past = c.if-index-pairs.true in
    (λ t. omega arith, λ up. search (rules, past))

pub returns-else-index-pairs : goal.returns-else-index-pairs
returns-else-index-pairs c =
    let ps = c.args.pairs.now in let i = c.args.index in
    let within : i < length ps = c.if-index-pairs.false in
    told_up_to c.args.pair ps i (record { key = 0; place = 0 }) c.is_before.result c.requires.order within c.is_before.ensures

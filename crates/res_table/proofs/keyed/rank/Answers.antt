use Rattle.std.proofs.Common.{arith}
use Rattle.res_table.proofs.Pairs.{rank_within}
use Rattle.res_table.proofs.keyed.rank.Goals as goal

pub returns-then-is_from : goal.returns-then-is_from
returns-then-is_from c =
    let most = rank_within c.args.pair c.args.pairs.now in let least = c.is_from.ensures.0 c.if-is_from.true in omega arith

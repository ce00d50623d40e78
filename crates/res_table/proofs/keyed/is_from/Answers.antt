use Rattle.std.proofs.Common.{◌<◌, ◌-◌, length, arith}
use Rattle.res_table.proofs.Pairs.{told_from}
use Rattle.res_table.proofs.keyed.is_from.Goals as goal

pub returns-else-index-eq0 : goal.returns-else-index-eq0
returns-else-index-eq0 c =
    let ps = c.args.pairs.now in let i = c.args.index in let some = c.if-index-eq0.false in let inside = c.requires.within in
    let within : i - 1 < length ps = omega arith in
    told_from c.args.pair ps (i - 1) i (record { key = 0; place = 0 }) c.is_before.result c.requires.order (omega arith) within c.is_before.ensures

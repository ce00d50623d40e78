use Rattle.std.proofs.Common.{arith}
use Rattle.res_table.proofs.RunTypes.{ith_kind}
use Rattle.res_table.proofs.kinds.ith_type.Goals as goal

pub returns : goal.returns
returns c = ith_kind c.args.types.now c.args.i c.index-types-i.result (omega arith) (omega arith)

use Rattle.fork_bytes.proofs.Distinct.{distinct_by_count}
use Rattle.fork_bytes.proofs.types.are_distinct.Goals as goal

pub returns : goal.returns
returns c = distinct_by_count c.args.kinds.now c.in_ok-set_of.field-0 c.len.result c.in_ok-set_of.ensures c.len.ensures.len

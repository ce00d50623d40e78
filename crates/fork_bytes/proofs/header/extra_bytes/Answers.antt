use Rattle.fork_bytes.proofs.Placing.{extra_is}
use Rattle.fork_bytes.proofs.header.extra_bytes.Goals as goal

pub returns : goal.returns
returns c = extra_is c.args.after.now _ c.min-count.result c.min-count.ensures c.copy_from_slice.ensures.after

use Rattle.fork_list.proofs.EachCounted.{counted}
use Rattle.fork_list.proofs.counts.count_row.Goals as goal

pub returns : goal.returns
returns c =
    counted c.args.counts.now c.insert.new.self c.args.kind c.bytes.result c.count_of-n.result
    c.bytes.ensures.same c.count_of-n.ensures c.in_ok-insert.ensures.updates

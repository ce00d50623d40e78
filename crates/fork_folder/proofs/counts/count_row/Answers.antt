use Rattle.fork_folder.proofs.Keys.{counted}
use Rattle.fork_folder.proofs.counts.count_row.Goals as goal

pub returns-clause-counted : goal.returns-clause-counted
returns-clause-counted c =
    counted c.args.counts.now c.insert.new.self c.args.row.now c.key_of.result c.count_of-n.result
    c.key_of.ensures c.count_of-n.ensures c.in_ok-insert.ensures.updates

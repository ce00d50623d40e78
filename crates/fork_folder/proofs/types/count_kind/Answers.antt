use Rattle.fork_folder.proofs.Keys.{kind_counted}
use Rattle.fork_folder.proofs.types.count_kind.Goals as goal

pub returns : goal.returns
returns c = record { counted = kind_counted c.args.counts.now c.insert.new.self c.args.kind c.count_of-n.result c.count_of-n.ensures c.in_ok-insert.ensures.updates }

use Rattle.fork_change.proofs.Known.{known_added}
use Rattle.fork_change.proofs.copying.add_known.Goals as goal

pub returns-clause-ids : goal.returns-clause-ids
returns-clause-ids c =
    known_added c.args.ids.now c.add_id.new.ids c.args.rows.now.items c.add_row.new.rows.items c.args.row c.in_ok-add_id.ensures c.requires c.in_ok-add_row.ensures

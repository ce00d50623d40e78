use Rattle.std.proofs.Common.{◌∙◌, ap}
use Rattle.fork_change.specs.Index.{count_of}
use Rattle.fork_change.specs.declared.row.ResourceId.{ResourceId}
use Rattle.fork_change.proofs.Indexed.{counted_one}
use Rattle.fork_change.proofs.index.count_row.Goals as goal

pub returns-clause-counted : goal.returns-clause-counted
returns-clause-counted c =
    counted_one c.args.counts.now c.insert.new.self c.args.row.now c.key_of.result c.count_of-n.result
    (c.key_of.ensures ∙ ap (λ (what : ResourceId). (what.kind, what.id)) c.id_of-what.ensures)
    (c.count_of-n.ensures ∙ ap (count_of c.args.counts.now) c.id_of-what.ensures) c.in_ok-insert.ensures.updates

use Rattle.std.proofs.Common.{◌∙◌, ap}
use Rattle.fork_change.specs.declared.row.ResourceId.{ResourceId}
use Rattle.fork_change.proofs.Indexed.{indexed}
use Rattle.fork_change.proofs.index.add_nth.Goals as goal

pub returns : goal.returns
returns c rows is before =
    indexed c.args.index.now c.insert.new.self rows c.args.row c.key_of.result c.args.n
    (c.key_of.ensures ∙ ap (λ (what : ResourceId). (what.kind, what.id)) c.id_of.ensures) is c.in_ok-insert.ensures.updates before

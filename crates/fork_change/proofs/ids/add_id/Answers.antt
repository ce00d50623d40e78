use Rattle.std.proofs.Common.{◌∙◌, ap}
use Rattle.fork_change.specs.declared.row.ResourceId.{ResourceId}
use Rattle.fork_change.proofs.Known.{known}
use Rattle.fork_change.proofs.ids.add_id.Goals as goal

pub returns : goal.returns
returns c =
    known c.args.ids.now c.insert.new.self c.args.row.now c.key_of.result (c.key_of.ensures ∙ ap (λ (what : ResourceId). (what.kind, what.id)) c.id_of.ensures) c.in_ok-insert.ensures.updates

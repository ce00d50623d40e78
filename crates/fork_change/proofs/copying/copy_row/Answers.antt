use Rattle.std.proofs.Common.{◌∙◌, ap}
use Rattle.fork_bytes.specs.Rows.{Row}
use Rattle.fork_change.specs.Rows.{id_of, is_at}
use Rattle.fork_change.specs.declared.row.ResourceId.{ResourceId}
use Rattle.fork_change.proofs.Known.{known_replaced}
use Rattle.fork_change.proofs.Told.{at_own}
use Rattle.fork_change.proofs.copying.copy_row.Goals as goal

pub returns-in_ok-same_row-in-Replace-clause-ids : goal.returns-in_ok-same_row-in-Replace-clause-ids
returns-in_ok-same_row-in-Replace-clause-ids c =
    let row = c.args.row.now in let new = c.in_ok-same_row-in-Replace.field-0 in
    let at = ap (λ (what : ResourceId). is_at what new) c.id_of-what.ensures ∙ ap (λ (r : Row). is_at (id_of row) r) c.in_ok-same_row-in-Replace.ensures ∙ at_own row in
    known_replaced c.args.ids.now c.args.rows.now.items c.replace_row.new.rows.items c.id_of-what.result new at c.requires c.replace_row.ensures

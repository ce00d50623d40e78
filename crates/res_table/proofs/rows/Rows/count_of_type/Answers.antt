use Rattle.std.proofs.Common.{ap, ◌∙◌}
use Rattle.res_table.specs.Rows.{count_of_type}
use Rattle.res_table.specs.Kinds.{count_of}
use Rattle.res_table.proofs.RowKinds.{count_is}
use Rattle.res_table.proofs.rows.Rows.count_of_type.Goals as goal

pub returns : goal.returns
returns g c = c.count.ensures ∙ ap (count_of c.args.kind) c.self.invariant.2 ∙ count_is c.args.kind c.self.inside.rows.items ∙ ap (count_of_type c.args.kind) c.self.view_is

use Rattle.std.proofs.Common.{ℕ, ap, ◌∙◌}
use Rattle.res_table.specs.After.{last_of_type, end_of_type}
use Rattle.res_table.specs.Kinds.{end_of}
use Rattle.res_table.proofs.RowKinds.{end_is}
use Rattle.res_table.proofs.rows.Rows.end_of_type.Goals as goal

pub returns : goal.returns
returns g c =
    let rows = c.self.inside.rows in let kind = c.args.kind in
    c.end.ensures ∙ ap (end_of kind c.len.result 0) c.self.invariant.2 ∙ end_is kind c.len.result 0 rows.items
    ∙ ap (λ (n : ℕ). last_of_type kind n 0 rows.items) (c.len.ensures ∙ rows.ok.0) ∙ ap (end_of_type kind) c.self.view_is

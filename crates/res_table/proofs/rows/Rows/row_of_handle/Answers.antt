use Rattle.std.proofs.Common.{ℕ, ap, ◌∙◌, position}
use Rattle.res_table.specs.Rows.{has_handle}
use Rattle.res_table.specs.Keyed.{key_of_handle, first_place}
use Rattle.res_table.specs.Indexed.{handle_key}
use Rattle.res_table.proofs.RowPairs.{order_kept, by_handle}
use Rattle.res_table.proofs.rows.Rows.row_of_handle.Goals as goal

pub find-requires : goal.find-requires
find-requires g c = order_kept handle_key c.self.inside.handles.pairs c.self.inside.rows.items c.self.invariant.0

pub returns : goal.returns
returns g c =
    c.find.ensures ∙ ap (λ (k : ℕ). first_place k c.self.inside.handles.pairs) c.key_of_handle.ensures
    ∙ ap (first_place (key_of_handle c.args.handle)) c.self.invariant.0 ∙ by_handle c.args.handle c.self.inside.rows.items
    ∙ ap (position (has_handle c.args.handle)) c.self.view_is

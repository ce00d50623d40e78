use Rattle.std.proofs.Common.{ℕ, List, ap, ◌∙◌}
use Rattle.res_table.specs.Rows.{ith, index_of_ith}
use Rattle.res_table.specs.Kinds.{places_of}
use Rattle.res_table.proofs.RowKinds.{places_are}
use Rattle.res_table.proofs.rows.Rows.index_of_ith.Goals as goal

pub returns : goal.returns
returns g c =
    c.ith.ensures ∙ ap (λ (ks : List (List ℕ)). ith c.args.i (places_of 0 c.args.kind ks)) c.self.invariant.2
    ∙ ap (ith c.args.i) (places_are c.args.kind 0 c.self.inside.rows.items) ∙ ap (index_of_ith c.args.kind c.args.i) c.self.view_is

use Rattle.std.proofs.Common.{sym, ap, ◌∙◌}
use Rattle.res_table.specs.Rows.{forgotten}
use Rattle.res_table.proofs.Forgetting.{past_end, none_forgets, forget_found}
use Rattle.res_table.proofs.rows.Rows.forget.Goals as goal

pub loop-index-smaller : goal.loop-index-smaller
loop-index-smaller g c =
    rw c.set_handle.ensures ((forget_found c.args.handle c.loop-index.self c.in-Some.index (sym c.row_of_handle.ensures ∙ c.in-Some.is)).1)

pub loop-index-preserved : goal.loop-index-preserved
loop-index-preserved g c =
    ap (forgotten c.args.handle) c.set_handle.ensures
    ∙ (forget_found c.args.handle c.loop-index.self c.in-Some.index (sym c.row_of_handle.ensures ∙ c.in-Some.is)).0
    ∙ c.loop-index.invariant

pub returns : goal.returns
returns g c =
    let none = past_end _ c.loop-index.self (sym c.row_of_handle.ensures ∙ c.in_default.is) in
    sym (none_forgets c.args.handle c.loop-index.self none) ∙ c.loop-index.invariant

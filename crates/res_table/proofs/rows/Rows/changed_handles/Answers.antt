use Rattle.std.proofs.Common.{List, length, ◌≡◌, ap, ◌∙◌, map, subst}
use Rattle.std.specs.List.{AllByRecursion}
use Rattle.res_table.specs.declared.row.Row.{Row}
use Rattle.res_table.specs.Rows.{changed_handle}
use Rattle.res_table.proofs.ChangedHandles.{kinds_are_four}
use Rattle.res_table.proofs.rows.Rows.changed_handles.Goals as goal

pub returns-clause-handles : goal.returns-clause-handles
returns-clause-handles g c = c.deref.ensures.value ∙ c.self.invariant.6 ∙ ap (map changed_handle) c.self.view_is

pub returns-clause-four : goal.returns-clause-four
returns-clause-four g c = subst (λ (rs : List (Row _)). AllByRecursion (λ r. length r.resource.kind ≡ 4) rs) c.self.view_is (kinds_are_four c.self.inside.rows.items c.self.invariant.5)

use Rattle.std.proofs.Common.{List, map, sym, ap, ◌∙◌}
use Rattle.fork_bytes.specs.declared.layout.TypeCount.{TypeCount}
use Rattle.res_table.specs.declared.row.Row.{Row}
use Rattle.res_table.specs.Kinds.{expanded}
use Rattle.res_table.specs.Rows.{ith}
use Rattle.res_table.specs.Saved.{kind_of, row_types}
use Rattle.res_table.proofs.TypeRuns.{runs_are}
use Rattle.res_table.proofs.rows.Rows.type_of_ith.Goals as goal

pub returns-in-Some : goal.returns-in-Some
returns-in-Some g c =
    let same = runs_are c.self.inside.rows.items c.in-Some.types.now c.in-Some.ensures.1 (ap (λ (runs : List TypeCount). expanded runs) c.in-Some.ensures.0 ∙ c.self.invariant.2) in
    c.ith_type.ensures ∙ ap (λ (types : List TypeCount). ith c.args.i (map kind_of types)) (sym same)
    ∙ ap (λ (rs : List (Row _)). ith c.args.i (map kind_of (row_types rs))) c.self.view_is

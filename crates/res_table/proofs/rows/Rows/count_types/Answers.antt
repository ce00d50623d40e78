use Rattle.std.proofs.Common.{List, length, ap, sym, ◌∙◌, arith, None}
use Rattle.fork_bytes.specs.declared.layout.TypeCount.{TypeCount}
use Rattle.res_table.specs.declared.row.Row.{Row}
use Rattle.res_table.specs.Kinds.{expanded, changes}
use Rattle.res_table.specs.Indexed.{kinds_of}
use Rattle.res_table.specs.Saved.{row_types}
use Rattle.res_table.proofs.RowKinds.{as_many}
use Rattle.res_table.proofs.TypeRuns.{runs_are}
use Rattle.res_table.proofs.Types.{types_are}
use Rattle.res_table.proofs.RunTypes.{few_changes}
use Rattle.res_table.proofs.rows.Rows.count_types.Goals as goal

pub returns-in-None-clause-types : goal.returns-in-None-clause-types
returns-in-None-clause-types g c =
    c.count_types.ensures ∙ ap (changes None) c.self.invariant.2 ∙ types_are c.self.inside.rows.items ∙ ap (λ (rs : List (Row _)). length (row_types rs)) c.self.view_is

pub returns-in-None-clause-few : goal.returns-in-None-clause-few
returns-in-None-clause-few g c =
    let rows = c.self.inside.rows.items in
    let told = c.count_types.ensures ∙ ap (changes None) c.self.invariant.2 in
    let few = few_changes None (kinds_of rows) in let many = as_many rows in
    let long = ap (λ (rs : List (Row _)). length rs) c.self.view_is in omega arith

pub returns-in-Some-clause-types : goal.returns-in-Some-clause-types
returns-in-Some-clause-types g c =
    let same = runs_are c.self.inside.rows.items c.in-Some.types.now c.in-Some.ensures.1 (ap (λ (runs : List TypeCount). expanded runs) c.in-Some.ensures.0 ∙ c.self.invariant.2) in
    sym (ap (λ (types : List TypeCount). length types) same) ∙ ap (λ (rs : List (Row _)). length (row_types rs)) c.self.view_is

pub returns-in-Some-clause-few : goal.returns-in-Some-clause-few
returns-in-Some-clause-few g c =
    let rows = c.self.inside.rows.items in
    let same = runs_are rows c.in-Some.types.now c.in-Some.ensures.1 (ap (λ (runs : List TypeCount). expanded runs) c.in-Some.ensures.0 ∙ c.self.invariant.2) in
    let told = sym (ap (λ (types : List TypeCount). length types) same) ∙ sym (types_are rows) in
    let few = few_changes None (kinds_of rows) in let many = as_many rows in
    let long = ap (λ (rs : List (Row _)). length rs) c.self.view_is in omega arith

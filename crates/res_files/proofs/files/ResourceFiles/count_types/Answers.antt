use Rattle.std.proofs.Common.{refl, sym, ap, ◌∙◌, List, [], length, map, arith}
use Rattle.fork_bytes.specs.Written.{types_of}
use Rattle.res_table.specs.declared.row.Row.{Row}
use Rattle.res_table.specs.Saved.{kind_of, row_types}
use Rattle.std.proofs.lemmas.List.{length-map}
use Rattle.res_files.proofs.Mapped.{bare-mapped}
use Rattle.res_files.proofs.Stands.{current_small}
use Rattle.res_files.proofs.On.{asked_current}
use Rattle.res_files.proofs.files.ResourceFiles.count_types.Goals as goal

pub overflow_cast-result : goal.overflow_cast-result
overflow_cast-result g c =
    let few = current_small g.S.ForkStore.fork g.S.ForkStore.is_ready g.S.ForkStore.is_honest c.self.inside.stores.items c.self.inside.chain c.self.invariant in let same = ap (λ (rows : List (Row _)). length rows) c.in-Some.ensures.some in let less = c.count_types.ensures.few in omega arith

pub returns-in-Some : goal.returns-in-Some
returns-in-Some g c =
    asked_current g.S.ForkStore.fork c.self.inside.chain c.self.inside.loads c.self.inside.stores.items c.args.self.now c.self.view_is (λ rows. length (map kind_of (row_types rows))) (λ rows. length (row_types rows))
    (λ h rows. ap (λ (saved : List _). length (map kind_of (types_of saved))) (bare-mapped h rows) ∙ length-map (row_types rows) kind_of)
    _ c.in-Some.rows.now c.count_types.ensures.types c.in-Some.ensures.some

pub returns-in-None : goal.returns-in-None
returns-in-None g c =
    asked_current g.S.ForkStore.fork c.self.inside.chain c.self.inside.loads c.self.inside.stores.items c.args.self.now c.self.view_is (λ rows. length (map kind_of (row_types rows))) (λ rows. length (row_types rows))
    (λ h rows. ap (λ (saved : List _). length (map kind_of (types_of saved))) (bare-mapped h rows) ∙ length-map (row_types rows) kind_of)
    0 [] refl (sym c.in-None.ensures.none)

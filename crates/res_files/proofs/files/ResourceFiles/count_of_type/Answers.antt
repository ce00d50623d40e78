use Rattle.std.proofs.Common.{refl, sym, ap, List, [], length, arith}
use Rattle.res_table.specs.declared.row.Row.{Row}
use Rattle.res_table.specs.Rows.{count_of_type}
use Rattle.res_files.proofs.Mapped.{count_of_type-mapped, few_of_type}
use Rattle.res_files.proofs.Stands.{current_small}
use Rattle.res_files.proofs.On.{asked_current}
use Rattle.res_files.proofs.files.ResourceFiles.count_of_type.Goals as goal

pub overflow_cast-result : goal.overflow_cast-result
overflow_cast-result g c =
    let few = current_small g.S.ForkStore.fork g.S.ForkStore.is_ready g.S.ForkStore.is_honest c.self.inside.stores.items c.self.inside.chain c.self.invariant in let same = ap (λ (rows : List (Row _)). length rows) c.in-Some.ensures.some in
    let is = c.count_of_type.ensures in let less = few_of_type c.args.kind c.in-Some.rows.now in omega arith

pub returns-in-Some : goal.returns-in-Some
returns-in-Some g c =
    asked_current g.S.ForkStore.fork c.self.inside.chain c.self.inside.loads c.self.inside.stores.items c.args.self.now c.self.view_is (count_of_type c.args.kind) (count_of_type c.args.kind) (λ h rows. count_of_type-mapped h c.args.kind rows) _ c.in-Some.rows.now c.count_of_type.ensures c.in-Some.ensures.some

pub returns-in-None : goal.returns-in-None
returns-in-None g c =
    asked_current g.S.ForkStore.fork c.self.inside.chain c.self.inside.loads c.self.inside.stores.items c.args.self.now c.self.view_is (count_of_type c.args.kind) (count_of_type c.args.kind) (λ h rows. count_of_type-mapped h c.args.kind rows) 0 [] refl (sym c.in-None.ensures.none)

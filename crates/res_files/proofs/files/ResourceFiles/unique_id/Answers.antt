use Rattle.std.proofs.Common.{refl, sym, ap, ◌∙◌, List, [], length, arith, rules, FitsSigned, w16}
use Rattle.std.proofs.Math.IntN.{nat_abs}
use Rattle.std.proofs.lemmas.Int.{to_z-of_z}
use Rattle.res_table.specs.declared.row.Row.{Row}
use Rattle.res_table.specs.Rows.{unique_id}
use Rattle.res_files.proofs.Mapped.{unique_id-mapped}
use Rattle.res_files.proofs.Stands.{current_small}
use Rattle.res_files.proofs.On.{asked_current}
use Rattle.res_files.proofs.files.ResourceFiles.unique_id.Goals as goal

pub unique_id-requires : goal.unique_id-requires
unique_id-requires g c =
    let few = current_small g.S.ForkStore.fork g.S.ForkStore.is_ready g.S.ForkStore.is_honest c.self.inside.stores.items c.self.inside.chain c.self.invariant in let same = ap (λ (rows : List (Row _)). length rows) c.in-Some.ensures.some in omega arith

pub returns-in-Some : goal.returns-in-Some
returns-in-Some g c =
    let fits : FitsSigned w16 c.unique_id.result = search rules in
    asked_current g.S.ForkStore.fork c.self.inside.chain c.self.inside.loads c.self.inside.stores.items c.args.self.now c.self.view_is (unique_id c.args.kind) (unique_id c.args.kind) (λ h rows. unique_id-mapped h c.args.kind rows) _ c.in-Some.rows.now
    (ap nat_abs (to_z-of_z w16 c.unique_id.result fits ∙ c.unique_id.ensures)) c.in-Some.ensures.some

pub returns-in-None : goal.returns-in-None
returns-in-None g c =
    asked_current g.S.ForkStore.fork c.self.inside.chain c.self.inside.loads c.self.inside.stores.items c.args.self.now c.self.view_is (unique_id c.args.kind) (unique_id c.args.kind) (λ h rows. unique_id-mapped h c.args.kind rows) 128 [] refl (sym c.in-None.ensures.none)

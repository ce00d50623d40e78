use Rattle.std.proofs.Common.{sym, ap, ◌∙◌, subst, [], Option, None, option_map, IfSome, IsSome}
use Rattle.res_table.specs.declared.chain.RowPlace.{RowPlace}
use Rattle.res_table.specs.OpenFiles.{row_at}
use Rattle.res_files.proofs.Found.{ith_there}
use Rattle.res_files.proofs.On.{asked_ith, ith_none}
use Rattle.res_files.proofs.files.ResourceFiles.find_ith.Goals as goal

pub returns-in_err-rows-clause-value : goal.returns-in_err-rows-clause-value
returns-in_err-rows-clause-value g c =
    c.from_residual-in_err-rows.ensures ∙ asked_ith g.S.ForkStore.fork c.self.inside.chain c.self.inside.loads c.self.inside.stores.items c.args.self.now c.self.view_is c.args.kind c.args.index c.in_ok-file.file (sym c.current.ensures ∙ c.in_ok-file.was) [] (sym c.in_err-rows.ensures.none)
    None (ap (option_map (λ at. let place : RowPlace = record { file = c.in_ok-file.file; index = at } in place)) (sym (ith_none c.args.index)))

pub returns-in_err-index-clause-value : goal.returns-in_err-index-clause-value
returns-in_err-index-clause-value g c =
    c.from_residual-in_err-index.ensures ∙ asked_ith g.S.ForkStore.fork c.self.inside.chain c.self.inside.loads c.self.inside.stores.items c.args.self.now c.self.view_is c.args.kind c.args.index c.in_ok-file.file (sym c.current.ensures ∙ c.in_ok-file.was) c.in_ok-rows.rows.now c.in_ok-rows.ensures.some
    None (ap (option_map (λ at. let place : RowPlace = record { file = c.in_ok-file.file; index = at } in place)) (sym c.in_err-index.was ∙ c.index_of_ith.ensures))

pub returns-clause-value : goal.returns-clause-value
returns-clause-value g c =
    asked_ith g.S.ForkStore.fork c.self.inside.chain c.self.inside.loads c.self.inside.stores.items c.args.self.now c.self.view_is c.args.kind c.args.index c.in_ok-file.file (sym c.current.ensures ∙ c.in_ok-file.was) c.in_ok-rows.rows.now c.in_ok-rows.ensures.some
    _ (ap (option_map (λ at. let place : RowPlace = record { file = c.in_ok-file.file; index = at } in place)) (sym c.in_ok-index.was ∙ c.index_of_ith.ensures))

pub returns-clause-there : goal.returns-clause-there
returns-clause-there g c =
    subst (λ (found : Option RowPlace). IfSome found (λ place. IsSome (row_at place c.args.self.now.files))) (sym (returns-clause-value g c)) (ith_there c.args.kind c.args.index c.args.self.now.files)

use Rattle.std.proofs.Common.{sym, ap, ◌∙◌, Option, ℕ, option_and_then, option_map, get_or, position, w16}
use Rattle.std.proofs.lemmas.Int.{to_z-of_z}
use Rattle.res_table.proofs.Forgetting.{past_end}
use Rattle.res_table.specs.declared.chain.RowPlace.{RowPlace}
use Rattle.res_table.specs.Rows.{is_resource}
use Rattle.res_table.specs.OpenFiles.{OpenFiles, place_in}
use Rattle.res_table.proofs.Files.{file_found, none_open}
use Rattle.res_table.proofs.chain.Chain.find_in.Goals as goal

pub returns-in_err-at : goal.returns-in_err-at
returns-in_err-at g c =
    c.from_residual.ensures ∙ sym (ap (option_and_then (place_in (is_resource c.args.kind c.args.id))) ((none_open c.args.number c.args.self.now.files (past_end _ _ (sym c.position_of.ensures ∙ c.in_err-at.was))).1))

pub returns-in_err-index : goal.returns-in_err-index
returns-in_err-index g c =
    let f = c.index-file.result.now in let id = to_z-of_z w16 c.args.id c.ranges.id in
    let read = c.index-file.ensures ∙ ap (λ (chain : OpenFiles _). get_or chain.files c.in_ok-at.at f) c.self.view_is in
    let found = file_found c.args.number c.args.self.now.files c.in_ok-at.at f (sym c.position_of.ensures ∙ c.in_ok-at.was) read in
    let none = ap (λ z. position (is_resource c.args.kind z) f.table.rows) (sym id) ∙ sym c.find.ensures ∙ c.in_err-index.was in
    c.from_residual-in_err-index.ensures ∙ sym (ap (option_and_then (place_in (is_resource c.args.kind c.args.id))) found.file
    ∙ ap (λ (at : Option ℕ). option_map (λ i. let place : RowPlace = record { file = f.number; index = i } in place) at) none)

pub returns : goal.returns
returns g c =
    let f = c.index-file.result.now in let id = to_z-of_z w16 c.args.id c.ranges.id in
    let read = c.index-file.ensures ∙ ap (λ (chain : OpenFiles _). get_or chain.files c.in_ok-at.at f) c.self.view_is in
    let found = file_found c.args.number c.args.self.now.files c.in_ok-at.at f (sym c.position_of.ensures ∙ c.in_ok-at.was) read in
    let some = ap (λ z. position (is_resource c.args.kind z) f.table.rows) (sym id) ∙ sym c.find.ensures ∙ c.in_ok-index.was in
    sym (ap (option_and_then (place_in (is_resource c.args.kind c.args.id))) found.file
    ∙ ap (λ (at : Option ℕ). option_map (λ i. let place : RowPlace = record { file = f.number; index = i } in place) at) some)

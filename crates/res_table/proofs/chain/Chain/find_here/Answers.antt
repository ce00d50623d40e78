use Rattle.std.proofs.Common.{sym, ap, ◌∙◌, option_and_then, w16}
use Rattle.std.proofs.lemmas.Int.{to_z-of_z}
use Rattle.res_table.specs.OpenFiles.{OpenFiles, place_in_file}
use Rattle.res_table.proofs.chain.Chain.find_here.Goals as goal

pub returns : goal.returns
returns g c =
    let id = to_z-of_z w16 c.args.id c.ranges.id in
    c.find_in.ensures ∙ ap (λ z. place_in_file c.args.kind z c.args.self.now c.in_ok-self.field-0) id
    ∙ ap (option_and_then (place_in_file c.args.kind c.args.id c.args.self.now)) (sym c.in_ok-self.was ∙ ap (λ (chain : OpenFiles _). chain.current) c.self.view_is)

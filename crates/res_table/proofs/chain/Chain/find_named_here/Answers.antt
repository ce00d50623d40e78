use Rattle.std.proofs.Common.{sym, ap, ◌∙◌, option_and_then}
use Rattle.res_table.specs.OpenFiles.{OpenFiles, named_in_file}
use Rattle.res_table.proofs.chain.Chain.find_named_here.Goals as goal

pub returns : goal.returns
returns g c =
    c.find_named_in.ensures
    ∙ ap (option_and_then (named_in_file c.args.kind c.args.name.now c.args.self.now)) (sym c.in_ok-self.was ∙ ap (λ (chain : OpenFiles _). chain.current) c.self.view_is)

use Rattle.std.proofs.Common.{◌≡◌, ◌∙◌, List, map, sym, subst, ap}
use Rattle.res_files.specs.FilesOn.{FilesOn}
use Rattle.res_files.specs.Standing.{StandOn, files_on}
use Rattle.res_files.proofs.files.ResourceFiles.chain.Goals as goal

pub returns-clause-files : goal.returns-clause-files
returns-clause-files g c =
    ap (λ (v : FilesOn _). v.files) (sym c.self.view_is)
    ∙ ap (λ (xs : List _). files_on (map g.S.ForkStore.fork xs) c.self.inside.chain) (ap (λ (v : FilesOn _). v.stores) c.self.view_is)

pub returns-clause-stands : goal.returns-clause-stands
returns-clause-stands g c =
    subst (λ (xs : List _). StandOn g.S.ForkStore.fork g.S.ForkStore.is_ready g.S.ForkStore.is_honest xs c.self.inside.chain) (ap (λ (v : FilesOn _). v.stores) c.self.view_is) c.self.invariant

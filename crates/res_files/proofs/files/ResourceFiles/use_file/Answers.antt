use Rattle.std.proofs.Common.{sym, subst}
use Rattle.fork_bytes.specs.declared.place.Place.{Place}
use Rattle.res_table.specs.OpenFiles.{OpenFiles}
use Rattle.res_files.proofs.Stands.{stand_used}
use Rattle.res_files.specs.Standing.{StandOn}
use Rattle.res_files.proofs.On.{open_there}
use Rattle.res_files.proofs.files.ResourceFiles.use_file.Goals as goal

pub invariant_of-self : goal.invariant_of-self
invariant_of-self g c =
    subst (λ (chain : OpenFiles Place). StandOn g.S.ForkStore.fork g.S.ForkStore.is_ready g.S.ForkStore.is_honest c.self.inside.stores.items chain) (sym c.use_file.ensures)
    (stand_used g.S.ForkStore.fork g.S.ForkStore.is_ready g.S.ForkStore.is_honest c.self.inside.stores.items c.args.number c.self.inside.chain (open_there g.S.ForkStore.fork c.self.inside.chain c.self.inside.loads c.self.inside.stores.items c.args.self.now c.self.view_is c.args.number c.requires) c.self.invariant)

use Rattle.std.proofs.Common.{sym, subst, map}
use Rattle.fork_bytes.specs.declared.place.Place.{Place}
use Rattle.res_table.specs.OpenFiles.{OpenFiles, handle_forgotten}
use Rattle.res_files.proofs.Mapped.{handle_forgotten-mapped}
use Rattle.res_files.proofs.Stands.{stand_forgotten}
use Rattle.res_files.specs.Standing.{StandOn}
use Rattle.res_files.proofs.On.{bytes_in, changed}
use Rattle.res_files.proofs.files.ResourceFiles.forget.Goals as goal

pub invariant_of-self : goal.invariant_of-self
invariant_of-self g c =
    subst (λ (chain : OpenFiles Place). StandOn g.S.ForkStore.fork g.S.ForkStore.is_ready g.S.ForkStore.is_honest c.self.inside.stores.items chain) (sym c.forget.ensures) (stand_forgotten g.S.ForkStore.fork g.S.ForkStore.is_ready g.S.ForkStore.is_honest c.self.inside.stores.items c.args.handle c.self.inside.chain c.self.invariant)

pub returns : goal.returns
returns g c = changed g.S.ForkStore.fork c.self.inside.chain c.self.inside.loads c.self.inside.stores.items c.args.self.now c.self.view_is c.forget.new.self (handle_forgotten c.args.handle) (handle_forgotten c.args.handle) c.forget.ensures (handle_forgotten-mapped (bytes_in (map g.S.ForkStore.fork c.self.inside.stores.items)) c.args.handle c.self.inside.chain)

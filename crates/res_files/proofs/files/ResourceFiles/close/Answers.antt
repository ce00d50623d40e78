use Rattle.std.proofs.Common.{sym, subst, map}
use Rattle.fork_bytes.specs.declared.place.Place.{Place}
use Rattle.res_table.specs.OpenFiles.{OpenFiles, file_closed}
use Rattle.res_files.proofs.Mapped.{closed-mapped}
use Rattle.res_files.proofs.Stands.{stand_closed}
use Rattle.res_files.specs.Standing.{StandOn}
use Rattle.res_files.proofs.On.{bytes_in, changed}
use Rattle.res_files.proofs.files.ResourceFiles.close.Goals as goal

pub invariant_of-self : goal.invariant_of-self
invariant_of-self g c =
    subst (λ (chain : OpenFiles Place). StandOn g.S.ForkStore.fork g.S.ForkStore.is_ready g.S.ForkStore.is_honest c.self.inside.stores.items chain) (sym c.close.ensures.closed) (stand_closed g.S.ForkStore.fork g.S.ForkStore.is_ready g.S.ForkStore.is_honest c.self.inside.stores.items c.args.number c.self.inside.chain c.self.invariant)

pub returns : goal.returns
returns g c = changed g.S.ForkStore.fork c.self.inside.chain c.self.inside.loads c.self.inside.stores.items c.args.self.now c.self.view_is c.close.new.self (file_closed c.args.number) (file_closed c.args.number) c.close.ensures.closed (closed-mapped (bytes_in (map g.S.ForkStore.fork c.self.inside.stores.items)) c.args.number c.self.inside.chain)

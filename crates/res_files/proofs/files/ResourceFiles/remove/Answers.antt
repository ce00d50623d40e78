use Rattle.std.proofs.Common.{sym, subst, map}
use Rattle.fork_bytes.specs.declared.place.Place.{Place}
use Rattle.res_table.specs.OpenFiles.{OpenFiles, rows_changed}
use Rattle.res_table.specs.Rows.{removed_at}
use Rattle.res_files.proofs.Mapped.{removed-mapped, rows_changed-mapped}
use Rattle.res_files.proofs.Stands.{keeps_removed, stand_changed}
use Rattle.res_files.specs.Standing.{StandOn}
use Rattle.res_files.proofs.On.{bytes_in, row_there, changed}
use Rattle.res_files.proofs.files.ResourceFiles.remove.Goals as goal

pub remove-requires : goal.remove-requires
remove-requires g c = row_there g.S.ForkStore.fork c.self.inside.chain c.self.inside.loads c.self.inside.stores.items c.args.self.now c.self.view_is c.args.place c.requires

pub invariant_of-self : goal.invariant_of-self
invariant_of-self g c =
    subst (λ (chain : OpenFiles Place). StandOn g.S.ForkStore.fork g.S.ForkStore.is_ready g.S.ForkStore.is_honest c.self.inside.stores.items chain) (sym c.remove.ensures.rows)
    (stand_changed g.S.ForkStore.fork g.S.ForkStore.is_ready g.S.ForkStore.is_honest c.self.inside.stores.items c.args.place.file (removed_at c.args.place.index) c.self.inside.chain (keeps_removed c.args.place.index) c.self.invariant)

pub returns : goal.returns
returns g c =
    changed g.S.ForkStore.fork c.self.inside.chain c.self.inside.loads c.self.inside.stores.items c.args.self.now c.self.view_is c.remove.new.self (rows_changed c.args.place.file (removed_at c.args.place.index)) (rows_changed c.args.place.file (removed_at c.args.place.index)) c.remove.ensures.rows
    (rows_changed-mapped (bytes_in (map g.S.ForkStore.fork c.self.inside.stores.items)) c.args.place.file (removed_at c.args.place.index) (removed_at c.args.place.index) (λ rows. removed-mapped ((bytes_in (map g.S.ForkStore.fork c.self.inside.stores.items)) c.args.place.file) c.args.place.index rows) c.self.inside.chain)

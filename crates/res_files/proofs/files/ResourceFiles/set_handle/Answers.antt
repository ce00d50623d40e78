use Rattle.std.proofs.Common.{refl}
use Rattle.res_table.specs.Rows.{with_handle}
use Rattle.res_files.proofs.On.{changed_row, row_there}
use Rattle.res_files.proofs.Stands.{stand_row_changed}
use Rattle.res_files.proofs.files.ResourceFiles.set_handle.Goals as goal

pub set_handle-requires : goal.set_handle-requires
set_handle-requires g c = row_there g.S.ForkStore.fork c.self.inside.chain c.self.inside.loads c.self.inside.stores.items c.args.self.now c.self.view_is c.args.place c.requires

pub invariant_of-self : goal.invariant_of-self
invariant_of-self g c = stand_row_changed g.S.ForkStore.fork g.S.ForkStore.is_ready g.S.ForkStore.is_honest c.self.inside.stores.items c.args.place.file c.args.place.index (with_handle c.args.handle) c.self.inside.chain c.set_handle.new.self c.set_handle.ensures (λ r. refl) (λ r. refl) c.self.invariant

pub returns : goal.returns
returns g c = changed_row g.S.ForkStore.fork c.self.inside.chain c.self.inside.loads c.self.inside.stores.items c.args.self.now c.self.view_is c.set_handle.new.self c.args.place (with_handle c.args.handle) (with_handle c.args.handle) (λ f r. refl) c.set_handle.ensures

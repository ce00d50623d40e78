use Rattle.std.proofs.Common.{refl}
use Rattle.res_table.specs.Rows.{with_attributes}
use Rattle.res_files.proofs.On.{changed_row, row_there}
use Rattle.res_files.proofs.Stands.{stand_row_changed}
use Rattle.res_files.proofs.files.ResourceFiles.set_attributes.Goals as goal

pub set_attributes-requires : goal.set_attributes-requires
set_attributes-requires g c = row_there g.S.ForkStore.fork c.self.inside.chain c.self.inside.loads c.self.inside.stores.items c.args.self.now c.self.view_is c.args.place c.requires

pub invariant_of-self : goal.invariant_of-self
invariant_of-self g c = stand_row_changed g.S.ForkStore.fork g.S.ForkStore.is_ready g.S.ForkStore.is_honest c.self.inside.stores.items c.args.place.file c.args.place.index (with_attributes c.args.attributes) c.self.inside.chain c.set_attributes.new.self c.set_attributes.ensures (λ r. refl) (λ r. refl) c.self.invariant

pub returns : goal.returns
returns g c = changed_row g.S.ForkStore.fork c.self.inside.chain c.self.inside.loads c.self.inside.stores.items c.args.self.now c.self.view_is c.set_attributes.new.self c.args.place (with_attributes c.args.attributes) (with_attributes c.args.attributes) (λ f r. refl) c.set_attributes.ensures

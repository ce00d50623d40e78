use Rattle.std.proofs.Common.{sym, ap, ◌∙◌, map, w16}
use Rattle.std.proofs.lemmas.Int.{to_z-of_z}
use Rattle.res_table.specs.OpenFiles.{place_of_resource}
use Rattle.res_files.proofs.Mapped.{resource-mapped}
use Rattle.res_files.proofs.Found.{resource_there}
use Rattle.res_files.proofs.On.{bytes_in, asked}
use Rattle.res_files.proofs.files.ResourceFiles.find.Goals as goal

pub returns-clause-value : goal.returns-clause-value
returns-clause-value g c =
    let id = to_z-of_z w16 c.args.id c.ranges.id in
    asked g.S.ForkStore.fork c.self.inside.chain c.self.inside.loads c.self.inside.stores.items c.args.self.now c.self.view_is (place_of_resource c.args.kind c.args.id) c.find.result
    (c.find.ensures ∙ ap (λ z. place_of_resource c.args.kind z c.self.inside.chain) id ∙ sym (resource-mapped (bytes_in (map g.S.ForkStore.fork c.self.inside.stores.items)) c.args.kind c.args.id c.self.inside.chain))

pub returns-clause-there : goal.returns-clause-there
returns-clause-there g c =
    let id = to_z-of_z w16 c.args.id c.ranges.id in
    resource_there g.S.ForkStore.fork g.S.ForkStore.is_ready g.S.ForkStore.is_honest c.self.inside.chain c.self.inside.loads c.self.inside.stores.items c.args.self.now c.self.view_is c.self.invariant
    c.args.kind c.args.id c.find.result (c.find.ensures ∙ ap (λ z. place_of_resource c.args.kind z c.self.inside.chain) id)

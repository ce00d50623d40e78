use Rattle.std.proofs.Common.{sym, ◌∙◌, map}
use Rattle.res_table.specs.OpenFiles.{place_of_name}
use Rattle.res_files.proofs.Mapped.{name-mapped}
use Rattle.res_files.proofs.Found.{name_there}
use Rattle.res_files.proofs.On.{bytes_in, asked}
use Rattle.res_files.proofs.files.ResourceFiles.find_named.Goals as goal

pub returns-clause-value : goal.returns-clause-value
returns-clause-value g c =
    asked g.S.ForkStore.fork c.self.inside.chain c.self.inside.loads c.self.inside.stores.items c.args.self.now c.self.view_is (place_of_name c.args.kind c.args.name.now) c.find_named.result
    (c.find_named.ensures ∙ sym (name-mapped (bytes_in (map g.S.ForkStore.fork c.self.inside.stores.items)) c.args.kind c.args.name.now c.self.inside.chain))

pub returns-clause-there : goal.returns-clause-there
returns-clause-there g c =
    name_there g.S.ForkStore.fork g.S.ForkStore.is_ready g.S.ForkStore.is_honest c.self.inside.chain c.self.inside.loads c.self.inside.stores.items c.args.self.now c.self.view_is c.self.invariant
    c.args.kind c.args.name.now c.find_named.result c.find_named.ensures

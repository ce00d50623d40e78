use Rattle.std.proofs.Common.{sym, ◌∙◌, map}
use Rattle.res_table.specs.OpenFiles.{is_open}
use Rattle.res_files.proofs.Mapped.{open-mapped}
use Rattle.res_files.proofs.On.{bytes_in, asked}
use Rattle.res_files.proofs.files.ResourceFiles.is_open.Goals as goal

pub returns : goal.returns
returns g c = asked g.S.ForkStore.fork c.self.inside.chain c.self.inside.loads c.self.inside.stores.items c.args.self.now c.self.view_is (is_open c.args.number) c.is_open.result (c.is_open.ensures ∙ sym (open-mapped (bytes_in (map g.S.ForkStore.fork c.self.inside.stores.items)) c.args.number c.self.inside.chain))

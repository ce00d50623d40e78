use Rattle.std.proofs.Common.{map, sym, ap, ◌∙◌}
use Rattle.res_table.specs.AllFiles.{free_in_all}
use Rattle.res_files.proofs.AllMapped.{free_in_all-mapped}
use Rattle.res_files.proofs.On.{bytes_in, asked}
use Rattle.res_files.proofs.files.ResourceFiles.free_id_in_all.Goals as goal

pub returns : goal.returns
returns g c =
    asked g.S.ForkStore.fork c.self.inside.chain c.self.inside.loads c.self.inside.stores.items c.args.self.now c.self.view_is (λ files. free_in_all c.args.kind files.files) c.free_id.result
    (c.free_id.ensures ∙ ap (free_in_all c.args.kind) c.files.ensures ∙ sym (free_in_all-mapped (bytes_in (map g.S.ForkStore.fork c.self.inside.stores.items)) c.args.kind c.self.inside.chain.files))

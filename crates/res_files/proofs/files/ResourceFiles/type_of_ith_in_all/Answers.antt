use Rattle.std.proofs.Common.{List, map, sym, ap, ◌∙◌}
use Rattle.res_table.specs.declared.chain.OpenFile.{OpenFile}
use Rattle.res_table.specs.AllFiles.{all_types}
use Rattle.res_table.specs.Rows.{ith}
use Rattle.res_files.proofs.AllMapped.{all_types-mapped}
use Rattle.res_files.proofs.On.{bytes_in, asked}
use Rattle.res_files.proofs.files.ResourceFiles.type_of_ith_in_all.Goals as goal

pub returns : goal.returns
returns g c =
    asked g.S.ForkStore.fork c.self.inside.chain c.self.inside.loads c.self.inside.stores.items c.args.self.now c.self.view_is (λ files. ith c.args.index (all_types files.files)) c.type_of_ith.result
    (c.type_of_ith.ensures ∙ ap (λ (files : List (OpenFile _)). ith c.args.index (all_types files)) c.files.ensures ∙ ap (ith c.args.index) (sym (all_types-mapped (bytes_in (map g.S.ForkStore.fork c.self.inside.stores.items)) c.self.inside.chain.files)))

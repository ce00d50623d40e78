use Rattle.std.proofs.Common.{List, map, sym, ap, ◌∙◌, arith}
use Rattle.res_table.specs.declared.chain.OpenFile.{OpenFile}
use Rattle.res_table.specs.AllFiles.{all_rows}
use Rattle.res_table.specs.Rows.{count_of_type, is_of_type}
use Rattle.res_table.proofs.AllFiles.{filter_few}
use Rattle.res_files.proofs.AllMapped.{all_counts-mapped, few_read}
use Rattle.res_files.proofs.On.{bytes_in, asked}
use Rattle.res_files.proofs.files.ResourceFiles.count_in_all.Goals as goal

pub count_of_type-requires : goal.count_of_type-requires
count_of_type-requires g c = omega (arith, few_read g.S.ForkStore.fork g.S.ForkStore.is_ready g.S.ForkStore.is_honest c.self.inside.stores.items c.self.inside.chain c.self.invariant c.files.result.now c.files.ensures)

pub overflow_cast-result : goal.overflow_cast-result
overflow_cast-result g c =
    let less = filter_few (is_of_type c.args.kind) (all_rows c.files.result.now) in
    omega (arith, few_read g.S.ForkStore.fork g.S.ForkStore.is_ready g.S.ForkStore.is_honest c.self.inside.stores.items c.self.inside.chain c.self.invariant c.files.result.now c.files.ensures, c.count_of_type.ensures, less)

pub returns : goal.returns
returns g c =
    asked g.S.ForkStore.fork c.self.inside.chain c.self.inside.loads c.self.inside.stores.items c.args.self.now c.self.view_is (λ files. count_of_type c.args.kind (all_rows files.files)) c.count_of_type.result
    (c.count_of_type.ensures ∙ ap (λ (files : List (OpenFile _)). count_of_type c.args.kind (all_rows files)) c.files.ensures ∙ sym (all_counts-mapped (bytes_in (map g.S.ForkStore.fork c.self.inside.stores.items)) c.args.kind c.self.inside.chain.files))

use Rattle.std.proofs.Common.{List, ℕ, length, map, sym, ap, ◌∙◌, arith}
use Rattle.res_table.specs.declared.chain.OpenFile.{OpenFile}
use Rattle.res_table.specs.AllFiles.{all_types}
use Rattle.res_table.proofs.AllFiles.{all_types_few}
use Rattle.res_files.proofs.AllMapped.{all_types-mapped, few_read}
use Rattle.res_files.proofs.On.{bytes_in, asked}
use Rattle.res_files.proofs.files.ResourceFiles.count_types_in_all.Goals as goal

pub count_types-requires : goal.count_types-requires
count_types-requires g c = omega (arith, few_read g.S.ForkStore.fork g.S.ForkStore.is_ready g.S.ForkStore.is_honest c.self.inside.stores.items c.self.inside.chain c.self.invariant c.files.result.now c.files.ensures)

pub overflow_cast-result : goal.overflow_cast-result
overflow_cast-result g c =
    let less = all_types_few c.files.result.now in
    omega (arith, few_read g.S.ForkStore.fork g.S.ForkStore.is_ready g.S.ForkStore.is_honest c.self.inside.stores.items c.self.inside.chain c.self.invariant c.files.result.now c.files.ensures, c.count_types.ensures, less)

pub returns : goal.returns
returns g c =
    asked g.S.ForkStore.fork c.self.inside.chain c.self.inside.loads c.self.inside.stores.items c.args.self.now c.self.view_is (λ files. length (all_types files.files)) c.count_types.result
    (c.count_types.ensures ∙ ap (λ (files : List (OpenFile _)). length (all_types files)) c.files.ensures ∙ ap (λ (types : List (List ℕ)). length types) (sym (all_types-mapped (bytes_in (map g.S.ForkStore.fork c.self.inside.stores.items)) c.self.inside.chain.files)))

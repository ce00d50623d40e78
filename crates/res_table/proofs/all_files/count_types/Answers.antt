use Rattle.std.proofs.Common.{List, ℕ, refl, ap, ◌∙◌, arith, drop, length, ◌+◌, length-append, get_or}
use Rattle.res_table.specs.declared.chain.OpenFile.{OpenFile}
use Rattle.res_table.specs.AllFiles.{all_types, new_types}
use Rattle.res_table.proofs.FreeKeys.{part_is}
use Rattle.res_table.proofs.AllFiles.{all_types_few, types_here}
use Rattle.res_table.proofs.all_files.count_types.Goals as goal

pub overflow_add-count : goal.overflow_add-count
overflow_add-count g c =
    let files = c.args.files.now in let index = c.loop-index.index in let file = c.index-files-index.result in let rows = (get_or files index file).table.rows in
    let is = c.count_new_types-count.ensures ∙ ap (λ (later : List (OpenFile _)). length (new_types rows later)) (part_is (index + 1) files files refl) in
    let here = ap (λ (ts : List (List ℕ)). length ts) (types_here files index file c.loop-index-test.true) ∙ length-append (all_types (drop (index + 1) files)) (new_types rows (drop (index + 1) files)) in
    let sum = c.loop-index.invariant in let all = all_types_few files in let few = c.requires in omega (arith, is, here, sum, all, few)

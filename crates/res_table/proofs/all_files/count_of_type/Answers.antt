use Rattle.std.proofs.Common.{ap, ◌∙◌, arith}
use Rattle.res_table.specs.declared.chain.OpenFile.{OpenFile}
use Rattle.res_table.specs.AllFiles.{all_rows}
use Rattle.res_table.specs.Rows.{count_of_type, is_of_type}
use Rattle.res_table.proofs.AllFiles.{filter_few, counts_here}
use Rattle.res_table.proofs.all_files.count_of_type.Goals as goal

pub overflow_add-count : goal.overflow_add-count
overflow_add-count g c =
    let file = c.file-item.result in let files = c.args.files.now in
    let is = c.count_of_type-count.ensures ∙ ap (λ (f : OpenFile _). count_of_type c.args.kind f.table.rows) c.file-item.is in
    let here = counts_here c.args.kind files c.loop-file.file-index file c.loop-file-test.true in
    let all = filter_few (is_of_type c.args.kind) (all_rows files) in let few = c.requires in let sum = c.loop-file.invariant in omega (arith, is, here, all, few, sum)

use Rattle.std.proofs.Common.{◌<◌, length, ap, ◌∙◌, arith, List, set}
use Rattle.std.proofs.lemmas.List.{length-set}
use Rattle.std.proofs.lemmas.List.Edits.{map_over_more}
use Rattle.res_table.specs.declared.row.Row.{Row}
use Rattle.res_table.specs.declared.chain.OpenFile.{OpenFile}
use Rattle.res_table.specs.OpenFiles.{file_forgotten}
use Rattle.res_table.proofs.chain.Chain.forget.Goals as goal

pub loop-at-preserved : goal.loop-at-preserved
loop-at-preserved g c =
    let xs = c.args.self.now.files in let ys = c.loop-at.self-inside.files.items in let at = c.loop-at.at in let f = c.index_mut.result.now in
    let long = c.loop-at.invariant.2 in let n = c.len.ensures in let test = c.loop-at-test.true in let ok = c.loop-at.self-inside.files.ok.0 in
    let within : at < length xs = omega arith in
    let new : OpenFile _ = record { number = f.number; table = record { rows = c.forget.new.self; extra = f.table.extra; map_attributes = f.table.map_attributes } } in (
      ap (λ (rows : List (Row _)). set ys at (let file : OpenFile _ = record { number = f.number; table = record { rows = rows; extra = f.table.extra; map_attributes = f.table.map_attributes } } in file)) c.forget.ensures
          ∙ map_over_more (file_forgotten c.args.handle) xs ys at f within c.loop-at.invariant.0 c.index_mut.ensures.value,
      c.loop-at.invariant.1,
      length-set ys at new ∙ long,
      omega arith,
    )

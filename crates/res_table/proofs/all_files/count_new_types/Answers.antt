use Rattle.std.proofs.Common.{◌<◌, sym, ◌∙◌, arith, length, true, false}
use Rattle.std.proofs.lemmas.List.{length-map}
use Rattle.res_table.specs.Saved.{kind_of, row_types}
use Rattle.res_table.specs.AllFiles.{types_in}
use Rattle.res_table.proofs.AllFiles.{passed}
use Rattle.res_table.proofs.all_files.count_new_types.Goals.{then-is_some, else-is_some}
use Rattle.res_table.proofs.all_files.count_new_types.Goals as goal

pub loop-index-preserved : goal.loop-index-preserved
loop-index-preserved g c =
    let test = c.loop-index-test.true in let many = c.count_types-index-end.ensures.types in let same = length-map (row_types c.args.rows.now) kind_of in
    let within : c.loop-index.index < length (types_in c.args.rows.now) = omega (arith, test, many, same) in
    let less = c.loop-index.invariant.1 in
    elim c.if-is_some.branch [
      | then-is_some w ↦
          let now = w.count-is in
          (passed _ (types_in c.args.rows.now) c.loop-index.index c.loop-index.count c.if-is_some.count _ c.new_type.result true within c.new_type.ensures (sym c.is_some.ensures ∙ w.if-is_some.true) now c.loop-index.invariant.0, omega (arith, now, less))
      | else-is_some w ↦
          let now = w.count-is in
          (passed _ (types_in c.args.rows.now) c.loop-index.index c.loop-index.count c.if-is_some.count _ c.new_type.result false within c.new_type.ensures (sym c.is_some.ensures ∙ w.if-is_some.false) now c.loop-index.invariant.0, omega (arith, now, less))
    ]

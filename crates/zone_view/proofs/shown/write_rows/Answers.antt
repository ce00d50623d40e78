use Rattle.std.proofs.Common.{◌++◌, ◌∙◌, List, ap₂, sym, take-append-drop}
use Rattle.mac_base.specs.declared.block.Block.{Block}
use Rattle.zone_view.specs.Shown.{row_text}
use Rattle.zone_view.proofs.Written.{all_are, fails, rows_cut, rows_more}
use Rattle.zone_view.proofs.shown.write_rows.Goals as goal

pub returns-in_err-write_shown : goal.returns-in_err-write_shown
returns-in_err-write_shown g c =
    let was = c.loop-rest.invariant in
    let parts = sym (ap₂ (λ (xs ys : List Block). xs ++ ys) c.split_at.ensures.front c.split_at.ensures.back ∙ take-append-drop c.min.result c.loop-rest.rest.now) in
    fails _ _ _ _ _ c.from_residual.ensures.1
    (rows_cut (row_text c.args.is_json) c.args.blocks.now was.0 c.loop-rest.rest.now c.split_at.result.0.now c.split_at.result.1.now was.1 parts _ _ _ was.2 c.in_err-write_shown.ensures)

pub loop-rest-preserved : goal.loop-rest-preserved
loop-rest-preserved g c =
    let was = c.loop-rest.invariant in
    let chunk = c.split_at.result.0.now in
    let parts = sym (ap₂ (λ (xs ys : List Block). xs ++ ys) c.split_at.ensures.front c.split_at.ensures.back ∙ take-append-drop c.min.result c.loop-rest.rest.now) in (
      was.0 ++ chunk,
      all_are (row_text c.args.is_json) c.args.blocks.now was.0 c.loop-rest.rest.now chunk c.split_at.result.1.now was.1 parts,
      rows_more (row_text c.args.is_json) c.args.blocks.now was.0 c.loop-rest.rest.now chunk c.split_at.result.1.now was.1 parts _ _ _ was.2 c.in_ok-write_shown.ensures,
    )

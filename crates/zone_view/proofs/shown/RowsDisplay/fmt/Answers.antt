use Rattle.std.proofs.Common.{◌++◌, ◌∙◌, sym, ap, refl, true, take, List, [], ◌∷◌}
use Rattle.std.specs.List.{flat_map}
use Rattle.std.proofs.Output.{has_written_append, has_written_of_eq, writes_in_calls_nil}
use Rattle.std.proofs.lemmas.List.{take_more, flat_map_more}
use Rattle.mac_base.specs.declared.block.Block.{Block}
use Rattle.zone_view.specs.Shown.{row_text}
use Rattle.zone_view.proofs.shown.RowsDisplay.fmt.Goals as goal

pub loop-block-init : goal.loop-block-init
loop-block-init g c plain = record { wrote = writes_in_calls_nil _ _; plain = plain }

pub loop-block-preserved : goal.loop-block-preserved
loop-block-preserved g c plain =
    let so_far = c.loop-block.invariant plain in
    let blocks = c.args.self.now.blocks.now in
    let line = row_text c.args.self.now.is_json in
    let block = c.block-item.result in
    let before = take c.loop-block.block-index blocks in
    let more = take_more blocks c.loop-block.block-index block c.loop-block-test.true in
    has_written_of_eq _ _ _ _ _
    (flat_map_more line [] before block ∙ ap (λ (shown : List Block). flat_map line shown) (ap (λ (last : Block). before ++ last ∷ []) c.block-item.is ∙ sym more))
    (has_written_append _ _ _ _ _ _ so_far (c.in_ok-write.ensures.writes so_far.plain (refl {a = true})))

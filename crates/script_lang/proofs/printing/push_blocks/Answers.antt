use Rattle.std.proofs.Common.{arith}
use Rattle.std.proofs.lemmas.Grind.{common_steps}
use Rattle.std.proofs.lemmas.List.Folds.{length-flat_map-take}
use Rattle.script_lang.specs.Text.{block_text}
use Rattle.script_lang.proofs.printing.push_blocks.Goals as goal

pub returns-in_err-push_block : goal.returns-in_err-push_block
returns-in_err-push_block c =
    let within = length-flat_map-take block_text c.args.blocks.now c.loop-block.block-index c.block-item.result c.loop-block-test.true in
    grind (arith, common_steps, within, c.block-item.is)

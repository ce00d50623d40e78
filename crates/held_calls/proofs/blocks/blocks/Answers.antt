use Rattle.std.proofs.Common.{arith, sym}
use Rattle.zone_laws.proofs.Walk.{block_ends, HasWalked-step, HasWalked-end}
use Rattle.held_calls.proofs.blocks.blocks.Goals as goal

pub overflow_add-at : goal.overflow_add-at
overflow_add-at c =
    let ends = block_ends _ _ _ _ c.in-Some.block c.loop-block.invariant c.first_block-at.ensures.sound (sym c.in-Some.ensures) in
    let within = c.first_block-at.ensures.sound.within in
    let reach = c.first_block-at.ensures.reach in
    omega arith

pub loop-block-smaller : goal.loop-block-smaller
loop-block-smaller c =
    let ends = block_ends _ _ _ _ c.in-Some.block c.loop-block.invariant c.first_block-at.ensures.sound (sym c.in-Some.ensures) in
    omega arith

pub loop-block-preserved : goal.loop-block-preserved
loop-block-preserved c = rw c.in_ok-push.ensures.items (HasWalked-step _ _ _ _ c.in-Some.block c.loop-block.invariant c.first_block-at.ensures.sound (sym c.in-Some.ensures))

pub returns : goal.returns
returns c = HasWalked-end _ _ _ _ c.loop-block.invariant c.first_block-at.ensures.sound (sym c.in_default.ensures)

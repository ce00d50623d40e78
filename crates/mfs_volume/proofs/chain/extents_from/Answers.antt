use Rattle.std.proofs.Common.{◌≡◌, ◌+◌, ◌-◌, suc, true, false, ◌&&◌, not, sym, ◌∙◌, refl, arith}
use Rattle.std.specs.List.{list_any}
use Rattle.mfs_volume.specs.Chain.{has_block, is_extent_of}
use Rattle.mfs_volume.proofs.Chained.{stops, goes_on, ends}
use Rattle.mfs_volume.proofs.chain.extents_from.Goals.{then-not-has_block-via-then-not-has_block, then-not-has_block-via-else-not-has_block+then-has_extent}
use Rattle.mfs_volume.proofs.chain.extents_from.Goals as goal

pub returns-then-not-has_block : goal.returns-then-not-has_block
returns-then-not-has_block c =
    let map = c.args.map.now in
    let block = c.loop-step.block in
    let before = c.loop-step.extents.items in
    let left : c.args.needed - c.loop-step.step ≡ suc (c.args.needed - (c.loop-step.step + 1)) = omega (arith, c.loop-step-test.true) in
    let none : (has_block map block && not (list_any (is_extent_of (block - 2)) before)) ≡ false = elim c.then-not-has_block.branch [
      | then-not-has_block-via-then-not-has_block w ↦ rw (sym c.has_block.ensures ∙ w.if-not-has_block.true) refl
      | then-not-has_block-via-else-not-has_block+then-has_extent w ↦
          rw (sym c.has_block.ensures ∙ w.if-not-has_block.false, sym (rw w.deref.ensures.value at w.has_extent.ensures) ∙ w.if-has_extent.true) refl
    ] in
    sym (c.loop-step.invariant ∙ stops map before block (c.args.needed - c.loop-step.step) (c.args.needed - (c.loop-step.step + 1)) left none)

pub loop-step-preserved : goal.loop-step-preserved
loop-step-preserved c =
    let map = c.args.map.now in
    let block = c.loop-step.block in
    let before = c.loop-step.extents.items in
    let left : c.args.needed - c.loop-step.step ≡ suc (c.args.needed - (c.loop-step.step + 1)) = omega (arith, c.loop-step-test.true) in
    let some : (has_block map block && not (list_any (is_extent_of (block - 2)) before)) ≡ true =
    rw (sym c.has_block.ensures ∙ c.if-not-has_block.false, sym (rw c.deref.ensures.value at c.has_extent.ensures) ∙ c.if-has_extent.false) refl in
    rw (c.in_ok-push.ensures.items, c.next_of-block.ensures)
    (c.loop-step.invariant ∙ goes_on map before block (c.args.needed - c.loop-step.step) (c.args.needed - (c.loop-step.step + 1)) left some)

pub returns : goal.returns
returns c =
    sym (c.loop-step.invariant ∙ ends c.args.map.now c.loop-step.extents.items c.loop-step.block (c.args.needed - c.loop-step.step) (omega (arith, c.loop-step-test.false)))

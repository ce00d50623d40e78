use Rattle.std.proofs.Common.{arith}
use Rattle.disk_ranges.proofs.Parts.{no_parts, part_past, part_here, parts_are}
use Rattle.disk_ranges.proofs.nested.parts_of.Goals as goal
use Rattle.disk_ranges.proofs.nested.parts_of.Goals.{then-skipped-range, else-skipped-range+in_ok-push}

pub loop-range-init : goal.loop-range-init
loop-range-init c = rw c.new-parts.ensures.items (no_parts c.args.outer.now c.args.inner)

pub loop-range-preserved : goal.loop-range-preserved
loop-range-preserved c =
    let so_far = c.loop-range.invariant in
    let at = c.loop-range-test.true in
    elim c.if-skipped-range.branch [
      | then-skipped-range w ↦ rw (w.parts-is, w.skipped-is, w.left-is)
          (part_past c.args.outer.now c.args.inner c.loop-range.parts.items c.loop-range.range-index c.loop-range.skipped c.loop-range.left at w.if-skipped-range.true so_far)
      | else-skipped-range+in_ok-push w ↦ rw (w.parts-is, w.skipped-is, w.left-is, w.in_ok-push.ensures.items)
          (part_here c.args.outer.now c.args.inner c.loop-range.parts.items c.loop-range.range-index c.loop-range.skipped c.loop-range.left w.min-length.result at
          w.if-skipped-range.false (omega (arith, w.min-length.ensures)) c.requires so_far)
    ]

pub returns : goal.returns
returns c = parts_are c.args.outer.now c.args.inner c.loop-range.parts.items c.loop-range.range-index c.loop-range.skipped c.loop-range.left c.loop-range-test.false c.loop-range.invariant

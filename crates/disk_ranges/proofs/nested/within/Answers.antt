use Rattle.disk_ranges.proofs.Parts.{no_ranges, more_ranges}
use Rattle.disk_ranges.proofs.nested.within.Goals as goal

pub loop-range-init : goal.loop-range-init
loop-range-init c = rw c.new-ranges.ensures.items (no_ranges c.args.outer.now)

pub loop-range-preserved : goal.loop-range-preserved
loop-range-preserved c = rw (c.in_ok-extend_from_slice.ensures.items, c.deref.ensures.value)
    (more_ranges c.args.outer.now c.args.inner.now c.loop-range.ranges.items c.loop-range.range-index c.in_ok-parts.parts.items c.loop-range-test.true c.loop-range.invariant c.in_ok-parts.ensures)

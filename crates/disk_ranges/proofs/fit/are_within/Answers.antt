use Rattle.std.proofs.Common.{arith}
use Rattle.disk_ranges.specs.Ranges.{IsShort, IsInDisk}
use Rattle.disk_ranges.proofs.Whole.{total_at, total_end, all_at, all_end}
use Rattle.disk_ranges.proofs.fit.are_within.Goals as goal

pub loop-range-preserved : goal.loop-range-preserved
loop-range-preserved c =
    let at = c.loop-range-test.true in
    let here = total_at c.args.ranges.now c.loop-range.range-index at in
    let inv = c.loop-range.invariant in (
      λ rest. inv.0 (all_at IsShort c.args.ranges.now c.loop-range.range-index at (omega arith) rest),
      λ rest. inv.1 (all_at (IsInDisk c.args.size) c.args.ranges.now c.loop-range.range-index at (omega arith) rest),
      omega (arith, here, inv.2),
    )

pub returns : goal.returns
returns c =
    let past = c.loop-range-test.false in
    let none = total_end c.args.ranges.now c.loop-range.range-index past in
    let inv = c.loop-range.invariant in
    λ _. record {
      short = inv.0 (all_end IsShort c.args.ranges.now c.loop-range.range-index past);
      few = omega (arith, none, inv.2, c.loop-range.auto);
      inside = inv.1 (all_end (IsInDisk c.args.size) c.args.ranges.now c.loop-range.range-index past);
    }

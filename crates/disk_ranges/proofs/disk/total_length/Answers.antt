use Rattle.std.proofs.Common.{arith}
use Rattle.disk_ranges.proofs.Whole.{total_at, total_end}
use Rattle.disk_ranges.proofs.disk.total_length.Goals as goal

pub overflow_add-sum : goal.overflow_add-sum
overflow_add-sum c = let here = total_at c.args.ranges.now c.loop-range.range-index c.loop-range-test.true in omega (arith, here, c.loop-range.invariant, c.requires)

pub loop-range-preserved : goal.loop-range-preserved
loop-range-preserved c = let here = total_at c.args.ranges.now c.loop-range.range-index c.loop-range-test.true in omega (arith, here, c.loop-range.invariant)

pub returns : goal.returns
returns c = let none = total_end c.args.ranges.now c.loop-range.range-index c.loop-range-test.false in omega (arith, none, c.loop-range.invariant)

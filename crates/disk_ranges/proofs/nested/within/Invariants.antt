use Rattle.std.proofs.Common.{take}
use Rattle.disk_ranges.specs.Ranges.{HasRanges}
use Rattle.disk_ranges.proofs.nested.within.Given as goal

abbrev pub invariant-loop-range : goal.invariant-loop-range
invariant-loop-range l = HasRanges l.outer (take l.range-index l.inner) l.ranges.items

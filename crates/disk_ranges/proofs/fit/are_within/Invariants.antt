use Rattle.std.proofs.Common.{◌≡◌, ◌+◌, drop}
use Rattle.std.specs.List.{AllByRecursion}
use Rattle.disk_ranges.specs.Ranges.{total, IsShort, IsInDisk}
use Rattle.disk_ranges.proofs.fit.are_within.Given as goal

-- all ranges lie within the disk if those from here on do, and the sum is of those before
abbrev pub invariant-loop-range : goal.invariant-loop-range
invariant-loop-range l = (AllByRecursion IsShort (drop l.range-index l.ranges) → AllByRecursion IsShort l.ranges)
    × (AllByRecursion (IsInDisk l.fn.size) (drop l.range-index l.ranges) → AllByRecursion (IsInDisk l.fn.size) l.ranges)
    × (l.sum + total (drop l.range-index l.ranges) ≡ total l.ranges)

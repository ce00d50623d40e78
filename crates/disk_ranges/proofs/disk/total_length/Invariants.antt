use Rattle.std.proofs.Common.{◌≡◌, ◌+◌, drop}
use Rattle.disk_ranges.specs.Ranges.{total}
use Rattle.disk_ranges.proofs.disk.total_length.Given as goal

-- the sum so far, and what the ranges from here on have, is what all have
abbrev pub invariant-loop-range : goal.invariant-loop-range
invariant-loop-range l = l.sum + total (drop l.range-index l.ranges) ≡ total l.ranges

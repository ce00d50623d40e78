use Rattle.std.proofs.Common.{◌≡◌, ◌++◌, drop}
use Rattle.hfs_volume.specs.Forks.{ranges_in}
use Rattle.hfs_volume.proofs.ranges.ranges_in.Given as goal

-- the ranges so far, and those of the extents from here on, are all
abbrev pub invariant-loop-extent : goal.invariant-loop-extent
invariant-loop-extent l = l.ranges.items ++ ranges_in l.layout l.left (drop l.extent-index l.extents) ≡ ranges_in l.layout l.fn.size l.extents

use Rattle.std.proofs.Common.{◌≡◌, ◌++◌, drop}
use Rattle.hfs_volume.specs.Forks.{cut_to}
use Rattle.hfs_volume.proofs.ranges.cut_to.Given as goal

-- what was cut, and the extents from here on, are all of it
abbrev pub invariant-loop-extent : goal.invariant-loop-extent
invariant-loop-extent l = l.cut.items ++ cut_to l.left (drop l.extent-index l.extents) ≡ cut_to l.fn.blocks l.extents

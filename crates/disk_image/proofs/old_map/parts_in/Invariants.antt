use Rattle.std.proofs.Common.{◌≡◌, ◌-◌, ◌++◌}
use Rattle.disk_image.specs.Maps.{old_parts_from}
use Rattle.disk_image.proofs.old_map.parts_in.Given as goal

-- the partitions so far, and those of the entries from here on, are all
abbrev pub invariant-loop-index : goal.invariant-loop-index
invariant-loop-index l = l.parts.items ++ old_parts_from l.block l.index (42 - l.index) ≡ old_parts_from l.block 0 42

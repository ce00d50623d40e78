use Rattle.std.proofs.Common.{◌≡◌, ◌-◌, ◌++◌}
use Rattle.disk_image.specs.Devices.{sectors}
use Rattle.disk_image.proofs.device.sector_ranges.Given as goal

-- the ranges so far, and those of the sectors from here on, are all
abbrev pub invariant-loop-sector : goal.invariant-loop-sector
invariant-loop-sector l = l.ranges.items ++ sectors l.head l.sector (l.count - l.sector) ≡ sectors l.head 0 l.count

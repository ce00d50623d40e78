use Rattle.std.proofs.Common.{◌-◌}
use Rattle.mac_base.specs.ZoneMap.{address_after}
use Rattle.zone_index.proofs.FreeWalk.{NoneLarge}
use Rattle.zone_index.proofs.free.lowest_from.Given as goal

abbrev pub invariant-loop-at : goal.invariant-loop-at
invariant-loop-at l = NoneLarge l.zone l.needed l.from

-- the bytes that are left
abbrev pub decreases-loop-at : goal.decreases-loop-at
decreases-loop-at l = address_after l.zone.shape l.zone.heap.map - l.from

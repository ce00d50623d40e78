use Rattle.std.proofs.Common.{length, []}
use Rattle.mac_base.specs.Request.{candidates_in}
use Rattle.zone_heap.proofs.Purging.{StillTo, purged_to_zone}
use Rattle.zone_heap.proofs.zone.Zone.purge_to.Given as goal

-- as much is left to purge as was to do in all
abbrev pub invariant-loop-self : goal.invariant-loop-self
invariant-loop-self l = StillTo (purged_to_zone l.needed) l.fn.self l.self-inside.pointers

-- the handles that may still be purged
abbrev pub decreases-loop-self : goal.decreases-loop-self
decreases-loop-self l = length (candidates_in l.self-inside.pointers.heap.table [] l.self-inside.pointers.heap.map)

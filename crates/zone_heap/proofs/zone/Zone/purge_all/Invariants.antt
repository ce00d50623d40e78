use Rattle.std.proofs.Common.{length, []}
use Rattle.mac_base.specs.Request.{candidates_in}
use Rattle.zone_heap.proofs.Purging.{StillTo, all_purged_zone}
use Rattle.zone_heap.proofs.zone.Zone.purge_all.Given as goal

-- as much is left to purge as was to do in all
abbrev pub invariant-loop-handle : goal.invariant-loop-handle
invariant-loop-handle l = StillTo all_purged_zone l.fn.self l.self-inside.pointers

-- the handles that may still be purged
abbrev pub decreases-loop-handle : goal.decreases-loop-handle
decreases-loop-handle l = length (candidates_in l.self-inside.pointers.heap.table [] l.self-inside.pointers.heap.map)

use Rattle.std.proofs.Common.{length}
use Rattle.mac_base.specs.Request.{candidates}
use Rattle.zone_heap.specs.Attempts.{CanAsk}
use Rattle.zone_heap.proofs.Purging.{StillTo, purged_zone}
use Rattle.zone_heap.proofs.zone.Zone.purge_for.Given as goal

-- as much is left to purge for the request as was to do in all
abbrev pub invariant-loop-request : goal.invariant-loop-request
invariant-loop-request l = StillTo (purged_zone l.protected l.request) l.fn.self l.self-inside.pointers × CanAsk l.self-inside.pointers l.request

-- the handles that may still be purged
abbrev pub decreases-loop-request : goal.decreases-loop-request
decreases-loop-request l = length (candidates l.self-inside.pointers.heap.table l.protected l.request l.self-inside.pointers.heap.map)

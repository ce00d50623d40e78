use Rattle.std.proofs.Common.{◌-◌}
use Rattle.zone_heap.specs.Purge.{BlocksAt}
use Rattle.zone_heap.proofs.Candidates.{Left}
use Rattle.zone_heap.proofs.purge.next_between.Given as goal

-- none of the blocks below may be purged
abbrev pub invariant-loop-next : goal.invariant-loop-next
invariant-loop-next l = (blocks : BlocksAt l.zone l.start l.end) → Left l.zone l.protected blocks l.at

-- the bytes that are left
abbrev pub decreases-loop-next : goal.decreases-loop-next
decreases-loop-next l = l.end - l.at

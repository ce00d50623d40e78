use Rattle.std.proofs.Common.{◌-◌}
use Rattle.linked_zone.specs.Following.{Misplaced}
use Rattle.linked_zone.proofs.EndsRun.{Telling}
use Rattle.linked_zone.proofs.changes.follow_run.Given as goal

-- the slots of the handles whose blocks are below the next say where these are
abbrev pub invariant-loop-next : goal.invariant-loop-next
invariant-loop-next l = (run : Misplaced l.fn.records l.start l.end) → Telling run l.records l.next

-- the bytes that are left
abbrev pub decreases-loop-next : goal.decreases-loop-next
decreases-loop-next l = l.end - l.next

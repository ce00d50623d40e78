use Rattle.std.proofs.Common.{◌-◌}
use Rattle.zone_heap.specs.Runs.{RunAt}
use Rattle.zone_heap.proofs.Pressing.{Pressing}
use Rattle.zone_heap.proofs.run.press_down.Given as goal

-- what lies below is pressed
abbrev pub invariant-loop-next : goal.invariant-loop-next
invariant-loop-next l = (run : RunAt l.fn.zone l.start l.end) → Pressing l.fn.zone run l.zone l.free l.next

-- the bytes that are left
abbrev pub decreases-loop-next : goal.decreases-loop-next
decreases-loop-next l = l.end - l.next

use Rattle.zone_heap.specs.Runs.{RunAt}
use Rattle.zone_heap.proofs.Lifting.{Lifting}
use Rattle.zone_heap.proofs.run.press_up.Given as goal

-- what lies above is pressed
abbrev pub invariant-loop-low : goal.invariant-loop-low
invariant-loop-low l = (run : RunAt l.fn.zone l.start l.end) → Lifting l.fn.zone run l.zone l.low

-- the bytes below
abbrev pub decreases-loop-low : goal.decreases-loop-low
decreases-loop-low l = l.low

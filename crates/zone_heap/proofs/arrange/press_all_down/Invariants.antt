use Rattle.std.proofs.Common.{◌-◌}
use Rattle.zone_heap.proofs.Sweeping.{Swept}
use Rattle.zone_heap.proofs.arrange.press_all_down.Given as goal

-- the gaps below are pressed down
abbrev pub invariant-loop-at : goal.invariant-loop-at
invariant-loop-at l = Swept l.fn.zone l.zone l.at

-- the bytes that are left
abbrev pub decreases-loop-at : goal.decreases-loop-at
decreases-loop-at l = l.top - l.at

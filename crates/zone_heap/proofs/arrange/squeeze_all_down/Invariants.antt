use Rattle.zone_heap.proofs.Around.{Partly}
use Rattle.zone_heap.proofs.arrange.squeeze_all_down.Given as goal

-- some gaps are arranged down
abbrev pub invariant-gaps : goal.invariant-gaps
invariant-gaps l = Partly l.fn.zone l.zone

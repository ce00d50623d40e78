use Rattle.std.proofs.Common.{◌-◌}
use Rattle.zone_index.specs.Pages.{ArePages}
use Rattle.zone_index.proofs.OutOfOrder.{Passing}
use Rattle.zone_index.proofs.disorder.first_by_pages.Given as goal

-- the blocks below are in order, and what is remembered of pages stays true
abbrev pub invariant-loop-at : goal.invariant-loop-at
invariant-loop-at l = Passing l.zone l.at l.free × ArePages l.zone l.pages

-- the bytes that are left
abbrev pub decreases-loop-at : goal.decreases-loop-at
decreases-loop-at l = l.end - l.at

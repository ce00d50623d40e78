use Rattle.std.proofs.Common.{◌-◌}
use Rattle.zone_index.specs.Pages.{ArePages}
use Rattle.zone_index.proofs.Walking.{Walked}
use Rattle.zone_index.proofs.zone.all_pages.Given as goal

-- the blocks below are summed, and what is remembered of pages stays true
abbrev pub invariant-loop-at : goal.invariant-loop-at
invariant-loop-at l = Walked l.zone l.at l.all × ArePages l.zone l.pages

-- the bytes that are left
abbrev pub decreases-loop-at : goal.decreases-loop-at
decreases-loop-at l = l.end - l.at

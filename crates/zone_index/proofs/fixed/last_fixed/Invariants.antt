use Rattle.std.proofs.Common.{◌≤◌, length}
use Rattle.zone_index.proofs.Searching.{Back}
use Rattle.zone_index.proofs.fixed.last_fixed.Given as goal

-- the blocks at the places above are passed
abbrev pub invariant-loop-found : goal.invariant-loop-found
invariant-loop-found l = (l.place ≤ length l.marks) × Back l.zone l.end l.place

-- the places that are left
abbrev pub decreases-loop-found : goal.decreases-loop-found
decreases-loop-found l = l.place

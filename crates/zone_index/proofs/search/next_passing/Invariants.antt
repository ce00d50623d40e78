use Rattle.std.proofs.Common.{◌-◌, length}
use Rattle.zone_index.proofs.Searching.{Ahead}
use Rattle.zone_index.proofs.search.next_passing.Given as goal

-- the blocks at the places below are passed
abbrev pub invariant-loop-found : goal.invariant-loop-found
invariant-loop-found g l = Ahead g.T.BlockTest.test l.zone l.from l.place

-- the places that are left
abbrev pub decreases-loop-found : goal.decreases-loop-found
decreases-loop-found g l = length l.marks - l.place

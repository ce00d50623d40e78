use Rattle.std.proofs.Common.{◌≤◌, length}
use Rattle.fork_salvage.specs.Plans.{IsCursor, left_of}
use Rattle.fork_salvage.proofs.DataFaults.{IsSum}
use Rattle.fork_salvage.proofs.first.find_sum.Given as goal

-- those before the cursor have so many bytes, and the others are left
abbrev pub invariant-loop-reference : goal.invariant-loop-reference
invariant-loop-reference l = IsCursor l.plan l.cursor × IsSum l.fork (left_of l.fork l.plan l.cursor) l.total × (l.total ≤ l.most)

abbrev pub decreases-loop-reference : goal.decreases-loop-reference
decreases-loop-reference l = length (left_of l.fork l.plan l.cursor)

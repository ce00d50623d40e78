use Rattle.std.proofs.Common.{length}
use Rattle.fork_bytes.specs.Fork.{map_of}
use Rattle.fork_bytes.specs.Reading.{HasName}
use Rattle.fork_salvage.specs.Plans.{IsCursor, left_of}
use Rattle.fork_salvage.proofs.Faults.{IsLoop}
use Rattle.fork_salvage.proofs.first.find_bad_name.Given as goal

-- those before the cursor hold, and the others are left
abbrev pub invariant-loop-reference : goal.invariant-loop-reference
invariant-loop-reference l = IsCursor l.plan l.cursor × IsLoop (HasName (map_of l.fork)) (map_of l.fork) (left_of l.fork l.plan l.cursor)

abbrev pub decreases-loop-reference : goal.decreases-loop-reference
decreases-loop-reference l = length (left_of l.fork l.plan l.cursor)

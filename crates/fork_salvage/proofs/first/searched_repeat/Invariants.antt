use Rattle.fork_salvage.specs.Plans.{AreDistinct}
use Rattle.fork_salvage.proofs.first.searched_repeat.Given as goal

-- no two entries so far have one type
abbrev pub invariant-loop-i : goal.invariant-loop-i
invariant-loop-i l = AreDistinct l.map l.types l.i

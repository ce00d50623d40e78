use Rattle.fork_salvage.specs.Plans.{AreDistinct, AreFirsts}
use Rattle.fork_salvage.proofs.first.noted_repeat.Given as goal

-- the entries so far are noted, and no two have one type
abbrev pub invariant-loop-i : goal.invariant-loop-i
invariant-loop-i l = record { firsts : AreFirsts l.firsts l.map l.types l.i; distinct : AreDistinct l.map l.types l.i }

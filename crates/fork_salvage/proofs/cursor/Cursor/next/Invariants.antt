use Rattle.std.proofs.Common.{◌≡◌, ◌-◌}
use Rattle.fork_salvage.specs.Plans.{IsCursor, left_of}
use Rattle.fork_salvage.proofs.cursor.Cursor.next.Given as goal

-- what is left stays
abbrev pub invariant-loop-self : goal.invariant-loop-self
invariant-loop-self l = IsCursor l.plan l.self × (left_of l.fork l.plan l.initial.self ≡ left_of l.fork l.plan l.self)

abbrev pub decreases-loop-self : goal.decreases-loop-self
decreases-loop-self l = l.plan.types.count - l.self.next

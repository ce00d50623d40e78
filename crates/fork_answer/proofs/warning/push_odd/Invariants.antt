use Rattle.std.proofs.Common.{◌≡◌, ◌++◌, [], drop, take}
use Rattle.fork_answer.specs.Warnings.{furthest, odd_after}
use Rattle.fork_answer.proofs.warning.push_odd.Given as goal

-- what is odd so far, and about those that are left; of those before them this ends last
abbrev pub invariant-loop-next : goal.invariant-loop-next
invariant-loop-next l =
    (l.warnings.items ++ odd_after l.pool (take l.next-index l.extents) (drop l.next-index l.extents) ≡ l.initial.warnings.items ++ odd_after l.pool [] l.extents)
    × (l.furthest ≡ furthest (take l.next-index l.extents))

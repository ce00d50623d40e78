use Rattle.std.proofs.Common.{◌≡◌, ◌≤◌, length, drop, false}
use Rattle.fork_change.specs.Rows.{has_kind}
use Rattle.fork_change.proofs.search.end_of_type.Given as goal

-- the rows that were looked at have other types
abbrev pub invariant-loop-end : goal.invariant-loop-end
invariant-loop-end l = (l.end ≤ length l.rows) × (has_kind l.kind (drop l.end l.rows) ≡ false)

abbrev pub decreases-loop-end : goal.decreases-loop-end
decreases-loop-end l = l.end

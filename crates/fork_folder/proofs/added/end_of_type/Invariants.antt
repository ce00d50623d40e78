use Rattle.std.proofs.Common.{◌≡◌, ◌≤◌, length, drop, false}
use Rattle.fork_folder.specs.Added.{has_kind}
use Rattle.fork_folder.proofs.added.end_of_type.Given as goal

-- the entries that were looked at have other types
abbrev pub invariant-loop-end : goal.invariant-loop-end
invariant-loop-end l = (l.end ≤ length l.entries) × (has_kind l.kind (drop l.end l.entries) ≡ false)

abbrev pub decreases-loop-end : goal.decreases-loop-end
decreases-loop-end l = l.end

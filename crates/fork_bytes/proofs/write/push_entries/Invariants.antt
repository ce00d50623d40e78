use Rattle.std.proofs.Common.{◌≡◌, ◌≤◌, ◌+◌, ◌*◌, ◌-◌, ◌++◌, length, drop}
use Rattle.fork_bytes.specs.Written.{types_of, entries_text}
use Rattle.fork_bytes.proofs.write.push_entries.Given as goal

-- what was there, and all entries, once those of the other types follow
abbrev pub invariant-loop-at : goal.invariant-loop-at
invariant-loop-at g l = (l.fork.items ++ entries_text (l.first + 12 * l.at) (types_of (drop l.at l.rows)) ≡ l.fn.fork.items ++ entries_text l.first (types_of l.rows))
    × (l.at ≤ length l.rows)

abbrev pub decreases-loop-at : goal.decreases-loop-at
decreases-loop-at g l = length l.rows - l.at

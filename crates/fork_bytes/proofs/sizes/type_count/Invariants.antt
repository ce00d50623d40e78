use Rattle.std.proofs.Common.{length, ◌-◌, ◌+◌, ◌≡◌, ◌≤◌, drop}
use Rattle.fork_bytes.specs.Written.{types_of}
use Rattle.fork_bytes.proofs.Lengths.{AreFour}
use Rattle.fork_bytes.proofs.sizes.type_count.Given as goal

-- the types so far and those of the other rows are all, and no more than the rows; all have four bytes if the others do
abbrev pub invariant-loop-at : goal.invariant-loop-at
invariant-loop-at g l = (l.count + length (types_of (drop l.at l.rows)) ≡ length (types_of l.rows)) × (l.count ≤ l.at) × (l.at ≤ length l.rows)
    × (AreFour (types_of (drop l.at l.rows)) → AreFour (types_of l.rows))

abbrev pub decreases-loop-at : goal.decreases-loop-at
decreases-loop-at g l = length l.rows - l.at

use Rattle.std.proofs.Common.{length, ◌-◌, ◌≡◌, ◌<◌, ◌≤◌, drop}
use Rattle.fork_bytes.specs.Written.{counted_before, types_of}
use Rattle.fork_bytes.proofs.sizes.run_end.Given as goal

-- the rows so far have the type of the first
abbrev pub invariant-loop-end : goal.invariant-loop-end
invariant-loop-end g l = (l.start < l.end) × (l.end ≤ length l.rows)
    × (types_of (drop l.start l.rows) ≡ counted_before l.kind (l.end - l.start) (types_of (drop l.end l.rows)))

abbrev pub decreases-loop-end : goal.decreases-loop-end
decreases-loop-end g l = length l.rows - l.end

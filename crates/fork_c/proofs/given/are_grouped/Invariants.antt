use Rattle.std.proofs.Common.{◌≡◌, drop}
use Rattle.fork_c.specs.Given.{are_grouped}
use Rattle.fork_c.proofs.given.are_grouped.Given as goal

-- the rows so far may be before those that are left
abbrev pub invariant-loop-at : goal.invariant-loop-at
invariant-loop-at l = are_grouped l.rows ≡ are_grouped (drop l.at l.rows)

use Rattle.std.proofs.Common.{◌≡◌, ◌+◌, ◌≤◌, drop}
use Rattle.fork_change.specs.Copies.{lacking}
use Rattle.fork_change.proofs.choosing.lacking.Given as goal

-- those so far and those among what is left are all, and no more than the rows so far
abbrev pub invariant-loop-row : goal.invariant-loop-row
invariant-loop-row l = (l.count + lacking l.others (drop l.row-index l.rows) ≡ lacking l.others l.rows) × (l.count ≤ l.row-index)

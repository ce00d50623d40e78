use Rattle.std.proofs.Common.{◌≡◌, ◌≤◌, ◌++◌, length}
use Rattle.std.specs.Prelude.{filter_map}
use Rattle.fork_answer.specs.Salvaged.{found_in, readable}
use Rattle.fork_answer.proofs.table.readable.Given as goal

-- those so far and those that are left are all
abbrev pub invariant-loop-item : goal.invariant-loop-item
invariant-loop-item l = (l.rows.items ++ filter_map found_in l.salvage ≡ readable l.fork) × (length l.rows.items ≤ 4194304)

abbrev pub decreases-loop-item : goal.decreases-loop-item
decreases-loop-item l = length l.salvage

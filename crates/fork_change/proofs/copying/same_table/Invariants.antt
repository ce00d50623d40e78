use Rattle.std.proofs.Common.{◌≡◌, take}
use Rattle.fork_change.proofs.copying.same_table.Given as goal

-- the rows so far are the table's first
abbrev pub invariant-loop-row : goal.invariant-loop-row
invariant-loop-row l = l.rows.items ≡ take l.row-index l.row-items

use Rattle.std.proofs.Common.{◌≡◌, take}
use Rattle.fork_texts.proofs.table.rows_of.Given as goal

-- the rows so far
abbrev pub invariant-loop-row : goal.invariant-loop-row
invariant-loop-row l = l.made.items ≡ take l.row-index l.rows

use Rattle.std.proofs.Common.{◌≡◌, map, take}
use Rattle.fork_salvage.specs.Laws.{row_of}
use Rattle.fork_answer.proofs.table.rows_of.Given as goal

abbrev pub invariant-loop-row : goal.invariant-loop-row
invariant-loop-row l = l.found.items ≡ map (row_of l.fork) (take l.row-index l.rows)

use Rattle.std.proofs.Common.{drop}
use Rattle.fork_texts.proofs.Rows.{IsAt}
use Rattle.fork_texts.proofs.table.put_lines.Given as goal

-- what becomes of the rows so far, and of those that are left
abbrev pub invariant-loop-row : goal.invariant-loop-row
invariant-loop-row l = IsAt l.types l.rows l.lines (drop l.row-index l.rows) l.left l.changed.items

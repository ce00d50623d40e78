use Rattle.std.proofs.Common.{◌≡◌, take}
use Rattle.fork_bytes.specs.Written.{plain_rows}
use Rattle.fork_rez.proofs.table.rows_of.Given as goal

-- the rows so far
abbrev pub invariant-loop-row : goal.invariant-loop-row
invariant-loop-row l = l.made.items ≡ plain_rows (λ v. v.items) (take l.row-index l.rows)

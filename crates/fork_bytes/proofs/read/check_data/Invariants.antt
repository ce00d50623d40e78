use Rattle.std.proofs.Common.{◌≡◌, ◌+◌, take, length}
use Rattle.std.specs.Prelude.{sum_by}
use Rattle.fork_bytes.specs.Rows.{Row}
use Rattle.fork_bytes.proofs.read.check_data.Given as goal

-- the bytes of the rows so far, and how many more there may be
abbrev pub invariant-loop-row : goal.invariant-loop-row
invariant-loop-row l = sum_by (λ (r : Row). 4 + length r.datum) (take l.row-index l.rows) + l.left ≡ l.most

use Rattle.std.proofs.Common.{◌≡◌, ◌+◌, take}
use Rattle.std.specs.Prelude.{sum_by}
use Rattle.fork_bytes.specs.Reading.{PlacedRow}
use Rattle.fork_bytes.proofs.data.check_bytes.Given as goal

-- the bytes of the rows so far, and how many more there may be
abbrev pub invariant-loop-row : goal.invariant-loop-row
invariant-loop-row l = sum_by (λ (r : PlacedRow). 4 + r.datum.length) (take l.row-index l.rows) + l.left ≡ l.most

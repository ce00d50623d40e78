use Rattle.std.proofs.Common.{◌≡◌, ℕ, List, take}
use Rattle.std.specs.Prelude.{bytes_eq, count_by}
use Rattle.fork_list.specs.Counts.{count_of}
use Rattle.fork_list.proofs.counts.counts_of.Given as goal

-- the rows so far are counted
abbrev pub invariant-loop-row : goal.invariant-loop-row
invariant-loop-row g l = (kind : List ℕ) → count_of l.counts kind ≡ count_by (λ row. bytes_eq row.kind kind) (take l.row-index l.rows)

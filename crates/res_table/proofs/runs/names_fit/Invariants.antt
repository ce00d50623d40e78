use Rattle.std.proofs.Common.{◌≤◌, ◌↔◌, drop}
use Rattle.fork_bytes.specs.Written.{NamesFit}
use Rattle.res_table.specs.Saved.{bare}
use Rattle.res_table.proofs.runs.names_fit.Given as goal

-- the offsets fit where those of the other rows do
abbrev pub invariant-loop-row : goal.invariant-loop-row
invariant-loop-row g l = (NamesFit 0 (bare l.rows) ↔ NamesFit l.next (drop l.row-index (bare l.rows))) × (l.next ≤ 65790)

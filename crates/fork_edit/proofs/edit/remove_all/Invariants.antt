use Rattle.std.proofs.Common.{◌≡◌, drop}
use Rattle.fork_change.specs.Rows.{with_rows}
use Rattle.fork_edit.specs.Edits.{removed_from}
use Rattle.fork_edit.proofs.edit.remove_all.Given as goal

-- without the others, the rows are those without all; the rest of the table stays
abbrev pub invariant-loop-what : goal.invariant-loop-what
invariant-loop-what l = (removed_from (drop l.what-index l.whats) l.table.rows ≡ removed_from l.whats l.fn.table.rows) × (l.table ≡ with_rows l.fn.table l.table.rows)

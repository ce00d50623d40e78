use Rattle.std.proofs.Common.{◌≡◌, ◌≤◌, ◌++◌, length, drop}
use Rattle.fork_bytes.specs.Written.{data_text, plain_rows}
use Rattle.fork_bytes.proofs.write.push_data.Given as goal

-- what was there, and all data, once the data of the other rows follow
abbrev pub invariant-loop-row : goal.invariant-loop-row
invariant-loop-row g l = (l.fork.items ++ data_text (plain_rows g.D.Datum.text (drop l.row-index l.rows)) ≡ l.fn.fork.items ++ data_text (plain_rows g.D.Datum.text l.rows))
    × (length (data_text (plain_rows g.D.Datum.text (drop l.row-index l.rows))) ≤ length (data_text (plain_rows g.D.Datum.text l.rows)))

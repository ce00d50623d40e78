use Rattle.std.proofs.Common.{◌≡◌, ◌<◌, ◌+◌, ◌^◌, ◌++◌, length, drop}
use Rattle.fork_bytes.specs.Written.{data_text, references_text, plain_rows, NamesFit}
use Rattle.fork_bytes.proofs.write.push_references.Given as goal

-- what was there, and all references, once those of the other rows follow, whose names and data still fit
abbrev pub invariant-loop-row : goal.invariant-loop-row
invariant-loop-row g l = (l.fork.items ++ references_text l.name l.datum (plain_rows g.D.Datum.text (drop l.row-index l.rows)) ≡ l.fn.fork.items ++ references_text 0 0 (plain_rows g.D.Datum.text l.rows))
    × NamesFit l.name (drop l.row-index l.rows) × (l.datum + length (data_text (plain_rows g.D.Datum.text (drop l.row-index l.rows))) < 2 ^ 32)

use Rattle.std.proofs.Common.{◌≡◌, take}
use Rattle.fork_texts.specs.Tables.{lines_of, odd_of}
use Rattle.fork_texts.proofs.table.texts_of.Given as goal

-- the lines so far, and the rows that aren't of their type
abbrev pub invariant-loop-row : goal.invariant-loop-row
invariant-loop-row l = (l.out.items ≡ lines_of l.types (take l.row-index l.rows)) × (l.odd.items ≡ odd_of l.types (take l.row-index l.rows))

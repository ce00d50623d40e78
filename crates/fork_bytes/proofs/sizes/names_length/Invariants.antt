use Rattle.std.proofs.Common.{length, ◌+◌, ◌≡◌, ◌≤◌, ◌↔◌, drop}
use Rattle.std.specs.List.{AllByRecursion}
use Rattle.fork_bytes.specs.Laws.{IsRow}
use Rattle.fork_bytes.specs.Written.{names_text, NamesFit}
use Rattle.fork_bytes.proofs.sizes.names_length.Given as goal

-- the names so far and those of the other rows are all, and the offsets fit where those of the other rows do; each row
-- is one where the others are
abbrev pub invariant-loop-row : goal.invariant-loop-row
invariant-loop-row g l = (l.next + length (names_text (drop l.row-index l.rows)) ≡ length (names_text l.rows))
    × (NamesFit 0 l.rows ↔ NamesFit l.next (drop l.row-index l.rows)) × (l.next ≤ 65790)
    × (AllByRecursion IsRow (drop l.row-index l.rows) → AllByRecursion IsRow l.rows)

use Rattle.std.proofs.Common.{◌≡◌, ◌+◌, ◌-◌, ◌*◌, ◌++◌, ◌↔◌, map}
use Rattle.std.specs.List.{AllByRecursion}
use Rattle.fork_bytes.specs.Fork.{map_row, references_in}
use Rattle.fork_bytes.specs.Reading.{HasName, entry_of, rows_in}
use Rattle.fork_bytes.proofs.Lists.{references_at}
use Rattle.fork_bytes.proofs.map.push_rows.Given as goal

-- the rows so far and those that are left are all, and all have their names where those that are left do
abbrev pub invariant-loop-i : goal.invariant-loop-i
invariant-loop-i l =
    (l.rows.items ++ map (map_row l.map) (references_at l.fn.entry.kind (l.fn.entry.count - l.i) (l.fn.entry.start + 12 * l.i)) ≡ l.fn.rows.items ++ rows_in l.map (entry_of l.fn.entry))
    × (AllByRecursion (HasName l.map) (references_in (entry_of l.fn.entry)) ↔ AllByRecursion (HasName l.map) (references_at l.fn.entry.kind (l.fn.entry.count - l.i) (l.fn.entry.start + 12 * l.i)))

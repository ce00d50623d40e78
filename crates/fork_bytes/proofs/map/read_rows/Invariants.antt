use Rattle.std.proofs.Common.{◌≡◌, ◌+◌, ◌-◌, ◌*◌, ◌++◌, ◌↔◌, length, map}
use Rattle.std.specs.List.{AllByRecursion}
use Rattle.fork_bytes.specs.Fork.{map_row, map_rows, HasNames}
use Rattle.fork_bytes.specs.Reading.{HasName}
use Rattle.fork_bytes.proofs.Lists.{references_rest, Ends}
use Rattle.fork_bytes.proofs.map.read_rows.Given as goal

-- the rows so far and those that are left are all, and all have their names where those that are left do, which end
-- within the map
abbrev pub invariant-loop-i : goal.invariant-loop-i
invariant-loop-i l =
    (l.rows.items ++ map (map_row l.map) (references_rest l.map (l.list.count - l.i) (l.list.offset + 2 + 8 * l.i)) ≡ map_rows l.map)
    × (HasNames l.map ↔ AllByRecursion (HasName l.map) (references_rest l.map (l.list.count - l.i) (l.list.offset + 2 + 8 * l.i)))
    × AllByRecursion (Ends (length l.map)) (references_rest l.map (l.list.count - l.i) (l.list.offset + 2 + 8 * l.i))

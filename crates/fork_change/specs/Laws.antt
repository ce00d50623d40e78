-- What changes are to each other.
use Rattle.std.specs.Prelude.{◌≡◌, ◌↔◌, true, false, not, List, [], ◌∷◌, drop, bytes_eq, Some}
use Rattle.std.specs.List.{AllByRecursion, filter, find}
use Rattle.fork_bytes.specs.Rows.{Row}
use Rattle.fork_bytes.specs.declared.table.Table.{Table}
use Rattle.fork_bytes.specs.Laws.{IsRow, IsTable}
use Rattle.fork_change.specs.declared.row.ResourceId.{ResourceId}
use Rattle.fork_change.specs.declared.copying.Collision.{Collision}
use Rattle.fork_change.specs.Copies.{copied}
use Rattle.fork_change.specs.Differences.{applied, diff, rows_at}
use Rattle.fork_change.specs.Rows.{id_of, is_at, is_there, put, removed, changed_to, added, with_rows}

-- what is found of its type and id is the row that was put; any others with them stay after it
abbrev pub IsFoundPut : Type 0
IsFoundPut = (new : Row) (rows : List Row) → filter (is_at (id_of new)) (put new rows) ≡ new ∷ drop 1 (filter (is_at (id_of new)) rows)

-- all rows of other types and ids stay, in their order
abbrev pub KeepsOthers : Type 0
KeepsOthers = (new : Row) (rows : List Row) →
    filter (λ row. not (is_at (id_of new) row)) (put new rows) ≡ filter (λ row. not (is_at (id_of new) row)) rows

-- a row that is put where there was none, and removed again
abbrev pub IsRemovedPut : Type 0
IsRemovedPut = (new : Row) (rows : List Row) → is_there (id_of new) rows ≡ false → removed (id_of new) (put new rows) ≡ rows

-- a row that becomes another of its type, which wasn't there, and becomes itself again: the rows are as they were
abbrev pub IsSetBack : Type 0
IsSetBack = (what : ResourceId) (old new : Row) (rows : List Row) → find (is_at what) rows ≡ Some old →
    bytes_eq new.kind what.kind ≡ true → is_there (id_of new) rows ≡ false → changed_to (id_of new) old (changed_to what new rows) ≡ rows

-- a row that becomes one of another type, and becomes itself again: it is the last of its type then
abbrev pub IsMovedBack : Type 0
IsMovedBack = (what : ResourceId) (old new : Row) (rows : List Row) → find (is_at what) rows ≡ Some old →
    bytes_eq new.kind what.kind ≡ false → is_there (id_of new) rows ≡ false → changed_to (id_of new) old (changed_to what new rows) ≡ added old (removed what rows)

-- no row differs exactly where each type and id has the same rows, in the same order
abbrev pub IsNoDifference : Type 0
IsNoDifference = (first second : List Row) → (diff first second ≡ []) ↔ ((what : ResourceId) → rows_at what first ≡ rows_at what second)

-- and what differs, applied to the first, gives each type and id the rows that it has in the second
abbrev pub IsApplied : Type 0
IsApplied = (first second : List Row) (what : ResourceId) → rows_at what (applied (diff first second) first) ≡ rows_at what second

-- what comes of a table is one, so that it can be written and read again
pub record KeepsTables : Type 0 where
  pub puts : (new : Row) (table : Table) → IsRow new → IsTable table → IsTable (with_rows table (put new table.rows))
  pub removes : (what : ResourceId) (table : Table) → IsTable table → IsTable (with_rows table (removed what table.rows))
  pub sets : (what : ResourceId) (new : Row) (table : Table) → IsRow new → IsTable table → IsTable (with_rows table (changed_to what new table.rows))
  pub copies : (how : Collision) (chosen rows : List Row) (table : Table) → AllByRecursion IsRow chosen → IsTable table →
      copied how chosen table.rows ≡ Some rows → IsTable (with_rows table rows)

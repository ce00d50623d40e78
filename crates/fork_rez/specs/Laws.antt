-- A table's text says that table.
use Rattle.std.specs.Prelude.{◌≡◌, ◌<◌, ◌≤◌, length, IfSome, FitsSigned, Ok}
use Rattle.std.specs.List.{AllByRecursion}
use Rattle.std.specs.Int.{w16}
use Rattle.fork_list.specs.Roman.{AreBytes}
use Rattle.fork_bytes.specs.Rows.{Row}
use Rattle.fork_bytes.specs.declared.table.Table.{Table}
use Rattle.fork_rez.specs.Text.{text_of}
use Rattle.fork_rez.specs.Reading.{table_at}

-- what each row is: four bytes of type, an id and attributes in range, a name of 255 bytes at most, and bytes
pub record IsRow (row : Row) : Type 0 where
  pub four : length row.kind ≡ 4
  pub kind : AreBytes row.kind
  pub id : FitsSigned w16 row.id
  pub short : IfSome row.name (λ name. length name ≤ 255)
  pub name : IfSome row.name (λ name. AreBytes name)
  pub attributes : row.attributes.0 < 256
  pub datum : AreBytes row.datum

-- what each table is
pub record IsTable (table : Table) : Type 0 where
  pub rows : AllByRecursion IsRow table.rows
  pub count : length table.extra ≡ 240
  pub extra : AreBytes table.extra
  pub map_attributes : table.map_attributes < 65536

-- the text of a table is read as that table
abbrev pub IsReadAgain : Type 0
IsReadAgain = (table : Table) → IsTable table → table_at (text_of table) ≡ Ok table

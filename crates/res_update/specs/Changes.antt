-- The open files, looked up and changed.
use Rattle.std.specs.Prelude.{ℕ, List, [], map, fold, Option, option_and_then}
use Rattle.std.specs.Option.{option_map_or}
use Rattle.fork_bytes.specs.declared.table.Table.{Table}
use Rattle.res_table.specs.declared.row.Row.{Row}
use Rattle.res_table.specs.declared.chain.ResourceTable.{ResourceTable}
use Rattle.res_table.specs.declared.chain.RowPlace.{RowPlace}
use Rattle.res_table.specs.OpenFiles.{OpenFiles, table_of, place_of_handle, handle_forgotten, row_at, rows_changed}
use Rattle.res_table.specs.Rows.{changed_at, opened_row}
use Rattle.res_table.specs.Saved.{saved}

-- a row whose bytes on the disk are known
abbrev pub FileRow : Type 0
FileRow = Row (List ℕ)

-- the table of an open file, with the bytes that each row has on the disk
abbrev pub FileTable : Type 0
FileTable = ResourceTable (List ℕ)

-- the open files, with the bytes that each row has on the disk
abbrev pub Files : Type 0
Files = OpenFiles (List ℕ)

-- the rows of a table
abbrev pub rows_in : FileTable → List FileRow
rows_in table = table.rows

-- the rows of the file of a number, and none where it isn't open
abbrev pub rows_of : ℕ → Files → List FileRow
rows_of k files = option_map_or rows_in (table_of k files) []

-- the rows of the current file, and none where no file is open
abbrev pub current_rows : Files → List FileRow
current_rows files = option_map_or (λ k. rows_of k files) files.current []

-- the row with the handle
abbrev pub row_of_handle : ℕ → Files → Option FileRow
row_of_handle h files = option_and_then (λ p. row_at p files) (place_of_handle h files)

-- a table with its rows changed so
abbrev pub with_changed_rows : (List FileRow → List FileRow) → FileTable → FileTable
with_changed_rows change table = record table { rows = change table.rows }

-- the files with the row at a place changed so
abbrev pub row_changed : RowPlace → (FileRow → FileRow) → Files → Files
row_changed p change files = rows_changed p.file (changed_at p.index change) files

-- the files, in which no row has any of these handles
abbrev pub handles_forgotten : List ℕ → Files → Files
handles_forgotten hs files = fold (λ others h. handle_forgotten h others) files hs

-- the fork's table as it is saved: without handles, and nothing changed
abbrev pub saved_table : FileTable → Table
saved_table table = saved (λ (bytes : List ℕ). bytes) table.extra table.map_attributes table.rows

-- the table of a fork that was read: no row has a handle, and none is changed
abbrev pub opened_table : Table → FileTable
opened_table fork = record { rows = map opened_row fork.rows; extra = fork.extra; map_attributes = fork.map_attributes }

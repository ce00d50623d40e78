-- What comes of a change of a file's table.
use Rattle.std.specs.Prelude.{◌≡◌, ◌≢◌, ℕ, ◌⊎◌, List, Option, None, Some, Result, Ok, Err, ⊤}
use Rattle.fork_bytes.specs.Rows.{Row}
use Rattle.fork_bytes.specs.declared.table.Table.{Table}
use Rattle.fork_answer.specs.Answer.{IsReadOf, IsTableOf}
use Rattle.fork_answer.specs.declared.answer.Failure.TheVariants as failure
use Rattle.fork_change.specs.Rows.{with_rows}
use Rattle.fork_change.specs.declared.refusal.Refusal.TheVariants as why
use Rattle.fork_edit.specs.Edits.{edited}
use Rattle.fork_edit.specs.Files.{HasTable, IsNoSourceIn, IsSourceOf, Refuses}
use Rattle.fork_edit.specs.declared.edit.Edit.{Edit}
use Rattle.fork_edit.specs.declared.change.NewFile.{NewFile}
use Rattle.fork_edit.specs.declared.change.NotChanged.{NotChanged}
use Rattle.fork_edit.specs.declared.change.NotChanged.TheVariants as unchanged

-- the table of the resource fork in a file; without a fork, one without resources
abbrev pub IsTableIn : List ℕ → Table → Type 0
IsTableIn file table = (fork : List ℕ) × IsSourceOf file fork × IsTableOf fork table

-- a change gives a file's table these rows, which aren't those that it has
abbrev pub Differs : List ℕ → List Row → Edit → Table → List Row → Type 0
Differs file from edit table rows = IsTableIn file table × (edited edit from table.rows ≡ Ok rows) × (rows ≢ table.rows)

-- what comes of a change of a file: nothing where its table stays as it is, else the file with the new table; or it is
-- refused, as the change is, or since the file has no table, or exactly as the file is refused the new one. The host
-- may have no memory.
abbrev pub Comes : List ℕ → List Row → Edit → Result (Option NewFile) NotChanged → Type 0
Comes file from edit (Ok None) = (table : Table) × IsTableIn file table × (edited edit from table.rows ≡ Ok table.rows)
Comes file from edit (Ok (Some new)) = (table : Table) × (rows : List Row) × Differs file from edit table rows × HasTable file (with_rows table rows) new.file.items × Refuses file (with_rows table rows) None
Comes file from edit (Err (unchanged.Edit fault)) = (table : Table) × IsTableIn file table × ((fault ≡ why.HostFull) ⊎ (edited edit from table.rows ≡ Err fault))
Comes file from edit (Err (unchanged.Write fault)) = (table : Table) × (rows : List Row) × Differs file from edit table rows × Refuses file (with_rows table rows) (Some fault)
Comes file from edit (Err (unchanged.Read (failure.NoFork fault))) = IsNoSourceIn file fault
Comes file from edit (Err (unchanged.Read (failure.Fork fault))) = (fork : List ℕ) × IsSourceOf file fork × IsReadOf fork (Err fault)
Comes file from edit (Err (unchanged.Read other)) = ⊥
Comes file from edit (Err unchanged.HostFull) = ⊤

-- What the rows of open files have of their resource forks.
use Rattle.std.specs.Prelude.{◌≡◌, ◌⊎◌, ℕ, true, List, [], Some}
use Rattle.std.specs.List.{Any}
use Rattle.mac_base.specs.declared.resource.Resource.{Resource}
use Rattle.fork_bytes.specs.declared.table.Table.{Table}
use Rattle.fork_bytes.specs.Fork.{StandsFor}
use Rattle.res_table.specs.OpenFiles.{row_at}
use Rattle.res_table.specs.Rows.{is_changed}
use Rattle.res_table.specs.declared.chain.RowPlace.{RowPlace}
use Rattle.res_update.specs.Changes.{FileRow}
use Rattle.res_update.specs.Device.{Disk}
use Rattle.res_update.specs.Files.{ResState, disk_of}

-- a resource of a fork has the type, the ID, the name and the bytes of a row
abbrev pub IsOfRow : FileRow → Resource (List ℕ) → Type 0
IsOfRow r q = (q.kind ≡ r.resource.kind) × (q.id ≡ r.resource.id) × (q.name ≡ r.resource.name) × (q.datum ≡ r.resource.datum)

-- A row has the type, ID, name and bytes of a resource of its file's fork; or it is changed and has no bytes there, as
-- an added one.
abbrev pub HasBytes : Disk → FileRow → Type 0
HasBytes fork r = ((r.resource.datum ≡ []) × (is_changed r ≡ true)) ⊎ ((table : Table) × StandsFor fork table × Any (IsOfRow r) table.rows)

-- all rows of each open file whose device is honest have such bytes
abbrev pub ReadOffForks : (ℕ → Type 0) → ResState → Type 0
ReadOffForks honest state = (p : RowPlace) (r : FileRow) → honest p.file → row_at p state.files ≡ Some r → HasBytes (disk_of p.file state) r

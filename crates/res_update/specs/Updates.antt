-- Updates of resource files: what is written, and what they leave.
use Rattle.std.specs.Prelude.{ℕ, ℤ, Bool, true, ◌&&◌, nat_le, List, [], length, map, filter_map, Option, Some, None, option_map, option_and_then, if◌then◌else◌, Ok}
use Rattle.std.specs.Option.{option_map_or}
use Rattle.mac_base.specs.declared.error.OsErr.TheVariants.{IoErr}
use Rattle.mac_base.specs.HandleTable.{HandleTable}
use Rattle.mac_base.specs.Heap.{Heap}
use Rattle.mac_base.specs.HeadKind.{Shape}
use Rattle.fork_bytes.specs.Fork.{max_fork}
use Rattle.fork_bytes.specs.Written.{written}
use Rattle.res_table.specs.Attributes.{unmarked, res_changed}
use Rattle.res_table.specs.Rows.{is_changed, with_datum, with_attributes, contents, changed_at}
use Rattle.res_table.specs.declared.chain.RowPlace.{RowPlace}
use Rattle.res_table.specs.OpenFiles.{table_of, place_of_handle, file_closed, rows_changed}
use Rattle.res_update.specs.Changes.{Files, FileRow, FileTable, rows_of, row_of_handle, with_changed_rows, saved_table}
use Rattle.mac_base.specs.declared.resource_call.ResourceCall.{ResourceCall}
use Rattle.mac_base.specs.declared.resource_call.ResourceCall.TheVariants.{Writing}
use Rattle.mac_base.specs.declared.resource_call.WritingCall.TheVariants.{CloseResFile}
use Rattle.mac_base.specs.declared.reply.Results.TheVariants.{Nothing}
use Rattle.mac_base.specs.declared.memory_call.MemoryCall.TheVariants.{OnBlock}
use Rattle.mac_base.specs.declared.memory_call.BlockCall.TheVariants.{DisposeHandle}
use Rattle.mac_base.specs.ExactStep.{heap_after}
use Rattle.res_update.specs.Fitting.{rows_fit}
use Rattle.res_update.specs.Device.{Device, Works, FailsBefore, FailsWriting}
use Rattle.res_update.specs.Files.{ResState, ResourceEnd, refused_with, with_heap, with_files, with_disk, file_named}

-- whether a row passes a test, if some row has the handle
abbrev pub row_passes : (FileRow → Bool) → ℕ → Files → Bool
row_passes test h files = option_map_or test (row_of_handle h files) true

-- the row once its contents are its bytes on the disk: it is no longer changed
abbrev pub updated_row : HandleTable → FileRow → FileRow
updated_row t r = with_attributes (unmarked r.resource.attributes) (with_datum (contents t r) r)

-- the same of a row that is changed; any other stays
abbrev pub updated_if_changed : HandleTable → FileRow → FileRow
updated_if_changed t r = if is_changed r then updated_row t r else r

-- the table once each changed row is updated
abbrev pub updated_table : HandleTable → FileTable → FileTable
updated_table t table = with_changed_rows (map (updated_if_changed t)) table

-- the table once the row at an index is updated
abbrev pub updated_at : HandleTable → ℕ → FileTable → FileTable
updated_at t index table = with_changed_rows (changed_at index (updated_row t)) table

-- the row that AddResource makes: changed, and without bytes on the disk
abbrev pub new_row : ℕ → List ℕ → ℤ → Option (List ℕ) → FileRow
new_row h kind id name = record { resource = record { kind = kind; id = id; name = name; attributes = record { 0 = res_changed }; datum = [] }; handle = Some h }

-- an update: the number of a file, and the table that it has then, which is written
pub record Update : Type 0 where
  pub file : ℕ
  pub table : FileTable

-- the update of a file whose table is changed so, if it is open
abbrev pub update_of : ℕ → (FileTable → FileTable) → Files → Option Update
update_of k change files = option_map (λ table. record { file = k; table = change table }) (table_of k files)

-- the update of a file, of all its changed rows
abbrev pub file_update : ResState → Option ℕ → Option Update
file_update state named = option_and_then (λ k. update_of k (updated_table state.heap.table) state.files) (file_named named state.files)

-- the update of a handle's row alone, where it is changed
abbrev pub row_update : ResState → ℕ → Option Update
row_update state h = if row_passes is_changed h state.files
    then option_map_or (λ (p : RowPlace). update_of p.file (updated_at state.heap.table p.index) state.files) (place_of_handle h state.files) None
    else None

-- whether a fork can hold a table as it is saved
abbrev pub fits_fork : FileTable → Bool
fits_fork table = rows_fit (saved_table table).rows && nat_le (length (written (saved_table table))) max_fork

-- whether a fork can hold what an update writes
abbrev pub can_be_made : Option Update → Bool
can_be_made update = option_map_or (λ (u : Update). fits_fork u.table) update true

-- the handles of rows, in order
abbrev pub handles_of : List FileRow → List ℕ
handles_of rows = filter_map (λ (r : FileRow). r.handle) rows

-- the heap once these handles are disposed of, in order
abbrev pub disposed : Shape → List ℕ → Heap → Heap
disposed s hs heap = heap_after s heap (map (λ (h : ℕ). OnBlock (DisposeHandle h)) hs)

-- the state after an update: CloseResFile disposes of the handles of the file's rows, in order, and closes it
abbrev pub after_update : ResourceCall → ℕ → ResState → ResState
after_update (Writing (CloseResFile named)) k state = with_heap (disposed state.shape (handles_of (rows_of k state.files)) state.heap) (with_files (file_closed k state.files) state)
after_update _ k state = state

-- The end of a call that makes an update. A fault before the first write changes nothing; a later one closes the file,
-- and its handles live on.
abbrev pub update_end : Device → ResourceCall → Update → ResState → ResourceEnd
update_end Works call u state = record {
  outcome = Ok Nothing;
  state = after_update call u.file (with_disk u.file (written (saved_table u.table)) (with_files (rows_changed u.file (λ _. u.table.rows) state.files) state));
}
update_end FailsBefore call u state = refused_with IoErr state
update_end (FailsWriting left) call u state = refused_with IoErr (with_disk u.file left (with_files (file_closed u.file state.files) state))

-- Loads: the bytes of a row on the disk, put into the block of a handle.
use Rattle.std.specs.Prelude.{ℕ, ◌==◌, Bool, true, not, ◌&&◌, ◌||◌, length, Option, Some, None, is_some, unwrap_or, if◌then◌else◌, Ok, Err, option_map, option_and_then}
use Rattle.std.specs.Option.{option_map_or}
use Rattle.mac_base.specs.declared.block.Flags.{Flags}
use Rattle.mac_base.specs.declared.error.OsErr.TheVariants.{IoErr}
use Rattle.mac_base.specs.declared.releasing.ReleasingCall.TheVariants.{DisposesHandle}
use Rattle.mac_base.specs.HandleTable.{HandleTable, FullHandle, is_full, with_live}
use Rattle.mac_base.specs.Heap.{Heap, with_table, with_emptied}
use Rattle.mac_base.specs.Releasing.{heap_released}
use Rattle.mac_base.specs.declared.memory_call.MemoryCall.{MemoryCall}
use Rattle.mac_base.specs.declared.memory_call.MemoryCall.TheVariants.{Requesting}
use Rattle.mac_base.specs.declared.memory_call.RequestingCall.TheVariants.{ReallocateHandle, NewHandle, NewEmptyHandle}
use Rattle.mac_base.specs.declared.reply.Results.TheVariants as results
use Rattle.mac_base.specs.Outcomes.{Outcome}
use Rattle.res_update.specs.Attributes.{has_bit, res_locked, res_purgeable}
use Rattle.res_table.specs.Rows.{with_handle, index_of_ith}
use Rattle.res_table.specs.declared.chain.RowPlace.{RowPlace}
use Rattle.res_table.specs.OpenFiles.{place_of_handle, place_of_resource, place_here}
use Rattle.res_update.specs.Changes.{FileRow, current_rows, row_changed}
use Rattle.mac_base.specs.declared.resource_call.ResourceCall.{ResourceCall}
use Rattle.mac_base.specs.declared.resource_call.ResourceCall.TheVariants.{Getting}
use Rattle.mac_base.specs.declared.resource_call.GettingCall.TheVariants.{GetResource, Get1Resource, GetIndResource, LoadResource}
use Rattle.mac_base.specs.declared.reply.Results.{Results}
use Rattle.mac_base.specs.declared.reply.Results.TheVariants.{Nothing, Handle}
use Rattle.res_update.specs.Device.{Device, device_works}
use Rattle.res_update.specs.Files.{ResState, ResourceEnd, refused_with, with_heap, with_files}

-- the row that a call gets or loads, if it does
abbrev pub row_wanted : ResState → ResourceCall → Option RowPlace
row_wanted state (Getting (GetResource kind id)) = place_of_resource kind id state.files
row_wanted state (Getting (Get1Resource kind id)) = place_here kind id state.files
row_wanted state (Getting (GetIndResource kind i)) = option_and_then (λ k. option_map (λ at. record { file = k; index = at }) (index_of_ith kind i (current_rows state.files))) state.files.current
row_wanted state (Getting (LoadResource h)) = place_of_handle h state.files
row_wanted state call = None

-- whether such a call loads the row's bytes: LoadResource always does
abbrev pub loads_bytes : ResState → ResourceCall → Bool
loads_bytes state (Getting (LoadResource h)) = true
loads_bytes state call = state.loads

-- the call of the Memory Manager that makes the place for a row's bytes. A row with a block needs none, nor one with an
-- empty handle where nothing is to be loaded.
abbrev pub placing : HandleTable → Bool → FileRow → Option MemoryCall
placing t loads r = option_map_or
    (λ h. if is_full t h || not loads then None else Some (Requesting (ReallocateHandle h (length r.resource.datum))))
    r.handle
    (Some (if loads then Requesting (NewHandle (length r.resource.datum)) else (Requesting NewEmptyHandle)))

-- the flags of a loaded row's handle
abbrev pub loaded_flags : FileRow → Flags
loaded_flags r = record { lock = has_bit res_locked r.resource.attributes; purge = has_bit res_purgeable r.resource.attributes; resource = true }

-- the heap once a row is loaded into a handle
abbrev pub loaded : ℕ → FileRow → Heap → Heap
loaded h r heap = with_table (with_live h (FullHandle (loaded_flags r) r.resource.datum) heap.table) heap

-- the heap once a load into a handle is undone: the row's own is empty again, a new one is gone
abbrev pub unloaded : ℕ → FileRow → Heap → Heap
unloaded h r heap = if is_some r.handle then with_emptied heap h else heap_released (DisposesHandle h) heap

-- whether the load reads the disk, and fails there: it reads the row's bytes, where there are any
abbrev pub read_fails : Device → Bool → FileRow → Bool
read_fails device loads r = loads && (not (length r.resource.datum == 0) && not (device_works device))

-- what a call gives that got or loaded the row with this handle
abbrev pub loaded_results : ResourceCall → ℕ → Results
loaded_results (Getting (LoadResource h)) g = Nothing
loaded_results _ g = Handle g

-- the handle that a row has once its place is made
abbrev pub handle_made : FileRow → Outcome → ℕ
handle_made r (Ok (results.Handle h)) = h
handle_made r _ = unwrap_or r.handle 0

-- the end of a load of the row at a place, whose bytes have their place under this handle
abbrev pub load_end : Device → Bool → ResourceCall → RowPlace → FileRow → ℕ → ResState → ResourceEnd
load_end device loads call p r h state = if read_fails device loads r
    then refused_with IoErr (with_heap (unloaded h r state.heap) state)
    else record {
      outcome = Ok (loaded_results call h);
      state = with_files (row_changed p (with_handle (Some h)) state.files) (if loads then with_heap (loaded h r state.heap) state else state);
    }

-- the end of a load for whose place the Memory Manager's call ended so
abbrev pub placed_end : Device → Bool → ResourceCall → RowPlace → FileRow → Outcome → ResState → ResourceEnd
placed_end device loads call p r (Err code) state = refused_with code state
placed_end device loads call p r outcome state = load_end device loads call p r (handle_made r outcome) state

-- the end of a call that gets a row whose place is there already
abbrev pub found_end : ResourceCall → FileRow → ResState → ResourceEnd
found_end call r state = record { outcome = Ok (loaded_results call (unwrap_or r.handle 0)); state = state }

-- The Resource Manager's calls that need neither room in the zone nor a disk.
use Rattle.std.specs.Prelude.{ℕ, ◌==◌, not, [], ◌∷◌, length, unwrap_or, if◌then◌else◌, Ok}
use Rattle.std.specs.Option.{option_map_or}
use Rattle.mac_base.specs.HeadKind.{Shape}
use Rattle.mac_base.specs.Heap.{Heap}
use Rattle.mac_base.specs.declared.resource.ResAttrs.{ResAttrs}
use Rattle.res_update.specs.Attributes.{marked, replaced_attributes}
use Rattle.res_table.specs.Rows.{is_changed, with_attributes, added, removed_at, ith, count_of_type, unique_id}
use Rattle.res_table.specs.declared.chain.RowPlace.{RowPlace}
use Rattle.res_table.specs.OpenFiles.{place_of_handle, handle_forgotten, file_used, rows_changed}
use Rattle.res_update.specs.Changes.{Files, FileRow, current_rows, row_of_handle, row_changed}
use Rattle.mac_base.specs.declared.memory_call.MemoryCall.TheVariants.{OnBlock}
use Rattle.mac_base.specs.declared.memory_call.BlockCall.TheVariants.{HSetRBit, HClrRBit}
use Rattle.mac_base.specs.ExactStep.{heap_after}
use Rattle.mac_base.specs.declared.resource_call.ResourceCall.{ResourceCall}
use Rattle.mac_base.specs.declared.resource_call.ResourceCall.TheVariants.{Looking, Changing, OpenResFile, AddResource, GetResInfo}
use Rattle.mac_base.specs.declared.resource_call.LookingCall.TheVariants.{GetResAttrs, SizeResource, HomeResFile, UniqueID, CountTypes, CountResources, GetIndType, CurResFile}
use Rattle.mac_base.specs.declared.resource_call.ChangingCall.TheVariants.{ReleaseResource, DetachResource, RemoveResource, ChangedResource, SetResAttrs, SetResLoad, UseResFile}
use Rattle.mac_base.specs.declared.reply.Results.{Results}
use Rattle.mac_base.specs.declared.reply.Results.TheVariants.{Nothing, Number, Info, Kind}
use Rattle.res_update.specs.Files.{ResState, ResourceEnd, with_heap, with_files, current_types}
use Rattle.res_update.specs.Updates.{row_passes, disposed, new_row}

-- the heap with the resource flag of a handle set; an empty one has none
abbrev pub flagged : Shape → ℕ → Heap → Heap
flagged s h heap = heap_after s heap (OnBlock (HSetRBit h) ∷ [])

-- the heap with it cleared
abbrev pub unflagged : Shape → ℕ → Heap → Heap
unflagged s h heap = heap_after s heap (OnBlock (HClrRBit h) ∷ [])

-- the files with the attributes of a handle's row changed so
abbrev pub attributes_changed : (ResAttrs → ResAttrs) → ℕ → Files → Files
attributes_changed change h files = option_map_or (λ p. row_changed p (λ r. with_attributes (change r.resource.attributes) r) files) (place_of_handle h files) files

-- the files without the row of a handle
abbrev pub row_removed : ℕ → Files → Files
row_removed h files = option_map_or (λ (p : RowPlace). rows_changed p.file (removed_at p.index) files) (place_of_handle h files) files

-- what the call makes of the state
abbrev pub quiet_state : ResourceCall → ResState → ResState
quiet_state (Changing (ReleaseResource h)) state = if row_passes is_changed h state.files then state else with_heap (disposed state.shape (h ∷ []) state.heap) (with_files (handle_forgotten h state.files) state)
quiet_state (Changing (DetachResource h)) state = with_heap (unflagged state.shape h state.heap) (with_files (handle_forgotten h state.files) state)
quiet_state (Changing (RemoveResource h)) state = with_heap (unflagged state.shape h state.heap) (with_files (row_removed h state.files) state)
quiet_state (AddResource h kind id name) state = with_heap (flagged state.shape h state.heap) (with_files (option_map_or (λ k. rows_changed k (added (new_row h kind id name)) state.files) state.files.current state.files) state)
quiet_state (Changing (ChangedResource h)) state = with_files (attributes_changed marked h state.files) state
quiet_state (Changing (SetResAttrs h n)) state = with_files (attributes_changed (replaced_attributes n) h state.files) state
quiet_state (Changing (SetResLoad n)) state = record state { loads = not (n == 0) }
quiet_state (Changing (UseResFile k)) state = with_files (file_used k state.files) state
quiet_state _ state = state

-- what is read off the row of a handle
abbrev pub row_results : (FileRow → Results) → ℕ → Files → Results
row_results given h files = option_map_or given (row_of_handle h files) Nothing

-- what the call gives
abbrev pub quiet_results : ResState → ResourceCall → Results
quiet_results state (Looking (GetResAttrs h)) = row_results (λ r. Number r.resource.attributes.0) h state.files
quiet_results state (GetResInfo h) = row_results (λ r. Info (record { id = r.resource.id; kind = r.resource.kind; name = r.resource.name })) h state.files
quiet_results state (Looking (SizeResource h)) = row_results (λ r. Number (length r.resource.datum)) h state.files
quiet_results state (Looking (HomeResFile h)) = option_map_or (λ (p : RowPlace). Number p.file) (place_of_handle h state.files) Nothing
quiet_results state (Looking (UniqueID kind)) = Number (unique_id kind (current_rows state.files))
quiet_results state (Looking (CountResources kind)) = Number (count_of_type kind (current_rows state.files))
quiet_results state (Looking CountTypes) = Number (length (current_types state.files))
quiet_results state (Looking (GetIndType i)) = option_map_or Kind (ith i (current_types state.files)) Nothing
quiet_results state (Looking CurResFile) = Number (unwrap_or state.files.current 0)
quiet_results state (OpenResFile k) = Number k
quiet_results state _ = Nothing

-- the end of a call that needs neither room in the zone nor a disk
abbrev pub quiet_end : ResourceCall → ResState → ResourceEnd
quiet_end call state = record { outcome = Ok (quiet_results state call); state = quiet_state call state }

-- Loads of a row's bytes, step by step.
use Rattle.std.specs.Prelude.{◌≡◌, ℕ, Bool, true, false, ◌==◌, List, length, Option, Some, None, unwrap_or, Result, Ok, Err, IfSome, MatchBool}
use Rattle.mac_base.specs.declared.error.OsErr.{OsErr}
use Rattle.mac_base.specs.declared.releasing.ReleasingCall.TheVariants.{DisposesHandle}
use Rattle.mac_base.specs.HandleTable.{Live, FullHandle, live_at, is_lent, no_flags, with_live, zeros}
use Rattle.mac_base.specs.Heap.{Heap, with_table}
use Rattle.mac_base.specs.Releasing.{heap_released}
use Rattle.mac_base.specs.ZoneState.{ZoneState}
use Rattle.mac_base.specs.declared.memory_call.MemoryCall.{MemoryCall}
use Rattle.mac_base.specs.declared.memory_call.MemoryCall.TheVariants.{Requesting}
use Rattle.mac_base.specs.declared.memory_call.RequestingCall.TheVariants.{ReallocateHandle, NewHandle, NewEmptyHandle}
use Rattle.mac_base.specs.declared.reply.Results.TheVariants as results
use Rattle.mac_base.specs.declared.resource_call.ResourceCall.{ResourceCall}
use Rattle.mac_base.specs.GrowZone.{Ask}
use Rattle.mac_base.specs.Outcomes.{Outcome}
use Rattle.res_table.specs.declared.chain.RowPlace.{RowPlace}
use Rattle.res_table.specs.OpenFiles.{row_at}
use Rattle.mac_base.specs.declared.block.Flags.{Flags}
use Rattle.mac_base.specs.declared.resource.ResAttrs.{ResAttrs}
use Rattle.res_update.specs.Attributes.{has_bit, res_locked, res_purgeable}
use Rattle.res_update.specs.Changes.{FileRow}
use Rattle.res_update.specs.Device.{Device, DiskRelations, device_works}
use Rattle.res_update.specs.Files.{ResState}
use Rattle.res_update.specs.Answered.{IsAnswered, answered_disks}
use Rattle.res_update.specs.Loads.{loads_bytes, loaded_results}
use Rattle.res_update.specs.Steps.{GetsPlace, Memory}
use Rattle.fork_disk.specs.declared.store.ForkStore.{Ghosts}
use Rattle.res_files.specs.FilesOn.{FailedAt, FilesOn, HonestAt, NoneFailed}
use Rattle.res_manager.specs.Steps.{state_of}

-- the outcome of a call that gets or loads a row, by the row's handle or the code of its refusal
abbrev pub loaded_outcome : ResourceCall → Result ℕ OsErr → Outcome
loaded_outcome call (Ok h) = Ok (loaded_results call h)
loaded_outcome call (Err code) = Err code

-- From the old state, each call that gets or loads the row at a place, and loads its bytes or not, may ask so, end so
-- and leave the new one.
abbrev pub LoadsTo : (ℕ → DiskRelations) → Device → ResState → RowPlace → Bool → List Ask → Result ℕ OsErr → ResState → Type 0
LoadsTo disks device old place loads asks result new = (call : ResourceCall) → loads_bytes old call ≡ loads
    → GetsPlace Memory disks device old call asks (record { outcome = loaded_outcome call result; state = new }) place (row_at place old.files)

-- So it is by what the devices answered; a device failed just where the count of failures of the row's file rose.
pub record LoadSteps {S : Type 0} (store : Ghosts S) (old : ZoneState) (old_files : FilesOn S) (place : RowPlace) (loads : Bool) (asks : List Ask) (result : Result ℕ OsErr) (new : ZoneState) (new_files : FilesOn S) : Type 0 where
  pub device : Device
  pub before : ResState
  pub after : ResState
  pub was : IsAnswered (HonestAt store.is_honest new_files.stores) (state_of store.fork old old_files) before
  pub becomes : IsAnswered (HonestAt store.is_honest new_files.stores) (state_of store.fork new new_files) after
  pub step : LoadsTo (answered_disks (HonestAt store.is_honest new_files.stores) store.may_leave) device before place loads asks result after
  pub cause : MatchBool (device_works device) (NoneFailed store.failures old_files.stores new_files.stores) (FailedAt store.failures place.file old_files.stores new_files.stores)

-- the call of the Memory Manager that makes the place for so many bytes: under the row's own handle, or a new one
abbrev pub place_call : Option ℕ → ℕ → Bool → MemoryCall
place_call (Some h) n loads = Requesting (ReallocateHandle h n)
place_call None n true = Requesting (NewHandle n)
place_call None n false = (Requesting NewEmptyHandle)

-- the handle of the place that such a call made, or the code of its refusal
abbrev pub handle_placed : Option ℕ → Outcome → Result ℕ OsErr
handle_placed own (Err code) = Err code
handle_placed own (Ok (results.Handle h)) = Ok h
handle_placed own (Ok _) = Ok (unwrap_or own 0)

-- h is a handle with a new block of n bytes, which isn't lent
pub record IsPlaced (heap : Heap) (h n : ℕ) : Type 0 where
  pub some : (h == 0) ≡ false
  pub block : live_at heap.table h ≡ Some (FullHandle no_flags (zeros n))
  pub here : is_lent heap.table h ≡ false

-- the row that is shown at a place has so many bytes on the disk
abbrev pub HasBytes : ℕ → Option FileRow → Type 0
HasBytes n row = IfSome row (λ r. n ≡ length r.resource.datum)

-- The heap has a handle's block with these bytes, without flags and not lent, and is else as it was: with anything
-- given to the handle, and with the handle gone, the two heaps are the same.
pub record IsFilled (h : ℕ) (bytes : List ℕ) (old new : Heap) : Type 0 where
  pub some : (h == 0) ≡ false
  pub block : live_at new.table h ≡ Some (FullHandle no_flags bytes)
  pub here : is_lent new.table h ≡ false
  pub given : (l : Live) → with_table (with_live h l new.table) new ≡ with_table (with_live h l old.table) old
  pub gone : heap_released (DisposesHandle h) new ≡ heap_released (DisposesHandle h) old

-- the flags of the handle of a loaded row with these attributes
abbrev pub flags_for : ResAttrs → Flags
flags_for attributes = record { lock = has_bit res_locked attributes; purge = has_bit res_purgeable attributes; resource = true }

-- the heap once these bytes are loaded into the block of a handle, with these flags
abbrev pub loaded_with : ℕ → Flags → List ℕ → Heap → Heap
loaded_with h flags bytes heap = with_table (with_live h (FullHandle flags bytes) heap.table) heap

-- bytes with which a device answers the read of a row: as many as it has, and where the device is honest, its own
pub record AreAnswered (honest : Type 0) (size : ℕ) (row : Option FileRow) (bytes : List ℕ) : Type 0 where
  pub long : length bytes ≡ size
  pub own : honest → IfSome row (λ r. bytes ≡ r.resource.datum)

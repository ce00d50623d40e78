-- The zone and the resource files, as the Resource Manager's calls see them.
use Rattle.std.specs.Prelude.{ℕ, ◌-◌, Bool, List, [], map, set, slice_get, Option, unwrap_or, Err}
use Rattle.std.specs.Option.{option_or}
use Rattle.mac_base.specs.declared.error.OsErr.{OsErr}
use Rattle.mac_base.specs.HeadKind.{Shape}
use Rattle.mac_base.specs.Heap.{Heap}
use Rattle.res_table.specs.Saved.{row_types, kind_of}
use Rattle.mac_base.specs.Outcomes.{Outcome}
use Rattle.res_update.specs.Changes.{Files, current_rows}
use Rattle.res_update.specs.Device.{Disk}

-- the zone and its heap, the open files, whether calls load what they get, and the disk of each file in the order of
-- numbers
pub record ResState : Type 0 where
  pub shape : Shape
  pub heap : Heap
  pub files : Files
  pub loads : Bool
  pub disks : List Disk

-- the end of a call
pub record ResourceEnd : Type 0 where
  pub outcome : Outcome
  pub state : ResState

-- a call's refusal, with this state after it
abbrev pub refused_with : OsErr → ResState → ResourceEnd
refused_with code state = record { outcome = Err code; state = state }

-- the state with another heap
abbrev pub with_heap : Heap → ResState → ResState
with_heap heap state = record state { heap = heap }

-- the state with other files
abbrev pub with_files : Files → ResState → ResState
with_files files state = record state { files = files }

-- the disk of a file
abbrev pub disk_of : ℕ → ResState → Disk
disk_of file state = unwrap_or (slice_get state.disks (file - 1)) []

-- the state with another disk of a file
abbrev pub with_disk : ℕ → Disk → ResState → ResState
with_disk file disk state = record state { disks = set state.disks (file - 1) disk }

-- the types of the current file
abbrev pub current_types : Files → List (List ℕ)
current_types files = map kind_of (row_types (current_rows files))

-- the number of the file that is named, or else of the current one, if one is open
abbrev pub file_named : Option ℕ → Files → Option ℕ
file_named named files = option_or named files.current

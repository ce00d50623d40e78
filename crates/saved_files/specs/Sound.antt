-- Which resource files can be saved over a zone.
use Rattle.std.specs.Prelude.{◌≡◌, ℕ, List, [], length, slice_get, Some, IfSome, IsTrue, MatchOption, ⊤}
use Rattle.std.specs.List.{AllByRecursion}
use Rattle.fork_bytes.specs.declared.place.Place.{Place}
use Rattle.fork_disk.specs.declared.mem_disk.MemDisk.{MemDisk}
use Rattle.fork_disk.specs.declared.store.PlainStore.{PlainStore}
use Rattle.mac_base.specs.HandleTable.{is_handle}
use Rattle.mac_base.specs.ZoneState.{ZoneState}
use Rattle.res_table.specs.declared.row.Row.{Row}
use Rattle.res_table.specs.declared.chain.OpenFile.{OpenFile}
use Rattle.res_table.specs.OpenFiles.{OpenFiles, place_of_handle}
use Rattle.res_update.specs.Device.{Disk}
use Rattle.res_files.specs.Standing.{StandOn, most_files}
use Rattle.row_image.specs.Images.{HasImages}
use Rattle.saved_files.specs.Addresses.{has_address}
use Rattle.saved_files.specs.Saved.{Saved, saved_text}

-- where the row of a file at an index has a handle, that is live, if it is in the zone, and it is the row that is found by
-- it: so no other row has it
abbrev pub IsSoundAt : ZoneState → OpenFiles Place → ℕ → ℕ → Row Place → Type 0
IsSoundAt zone chain number index r =
    IfSome r.handle (λ h. (IsTrue (has_address zone.shape h) → IsTrue (is_handle zone.heap.table h)) × (place_of_handle h chain ≡ Some (record { file = number; index = index })))

-- so it is of each row of a file
abbrev pub IsSoundFile : ZoneState → OpenFiles Place → OpenFile Place → Type 0
IsSoundFile zone chain f = (index : ℕ) (r : Row Place) → slice_get f.table.rows index ≡ Some r → IsSoundAt zone chain f.number index r

-- the open files are on their forks
abbrev pub StandOnForks : List Disk → OpenFiles Place → Type 0
StandOnForks disks chain = StandOn (λ (fork : Disk). fork) (λ _. ⊤) (λ _. ⊤) disks chain

-- a file is the current one, where any is open
abbrev pub HasCurrent : OpenFiles Place → Type 0
HasCurrent chain = MatchOption chain.current (chain.files ≡ []) (λ _. ⊤)

-- The files can be saved over a zone: the rows of each can be said as a fork, each handle of a row is live, if it is in
-- the zone, and no other row has it, and a file is the current one, where any is open.
pub record CanBeSaved (zone : ZoneState) (s : Saved) : Type 0 where
  pub count : length s.disks ≡ most_files
  pub stands : StandOnForks s.disks s.chain
  pub images : AllByRecursion HasImages s.chain.files
  pub current : HasCurrent s.chain
  pub handles : AllByRecursion (IsSoundFile zone s.chain) s.chain.files

-- the fork of a store in memory
abbrev pub disk_of : PlainStore MemDisk → Disk
disk_of store = store.disk.bytes.items

-- these files can be saved over a zone, and these are the bytes
abbrev pub IsSavedAs : ZoneState → Saved → List ℕ → Type 0
IsSavedAs zone s bytes = CanBeSaved zone s × (bytes ≡ saved_text s)

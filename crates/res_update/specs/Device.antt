-- The disks of the resource files: how a device may fail, what an update leaves on a disk, and what opening reads.
use Rattle.std.specs.Prelude.{◌≡◌, ℕ, ◌<◌, ◌≤◌, Bool, true, false, List, [], length, replicate, Result, Ok, Err, ⊤}
use Rattle.mac_base.specs.declared.error.OsErr.{OsErr}
use Rattle.mac_base.specs.declared.error.OsErr.TheVariants.{EofErr, MapReadErr, IoErr}
use Rattle.fork_bytes.specs.declared.table.Table.{Table}
use Rattle.fork_bytes.specs.Fork.{IsFork, StandsFor}
use Rattle.res_update.specs.Changes.{FileTable, opened_table}

-- a disk: the bytes that reads give
abbrev pub Disk : Type 0
Disk = List ℕ

-- How the device goes in a call: it works, or fails before it writes, or fails later and leaves the disk so.
pub data Device : Type 0 where
  Works FailsBefore : Device
  FailsWriting : Disk → Device

-- whether the device works
abbrev pub device_works : Device → Bool
device_works Works = true
device_works FailsBefore = false
device_works (FailsWriting left) = false

-- the table of a file without resources
abbrev pub empty_table : FileTable
empty_table = record { rows = []; extra = replicate 240 0; map_attributes = 0 }

-- What opening reads of a disk, or why it can't be opened. No bytes are a file without resources; else they are a fork,
-- or they end within its header, or they are none.
pub data Reads (disk : Disk) : Result (FileTable) OsErr → Type 0 where
  empty : disk ≡ [] → Reads disk (Ok empty_table)
  fork : (table : Table) → StandsFor disk table → Reads disk (Ok (opened_table table))
  short : 0 < length disk → length disk < 16 → Reads disk (Err EofErr)
  damaged : 16 ≤ length disk → (IsFork disk → ⊥) → Reads disk (Err MapReadErr)

-- what a replacement that failed may leave: by the new fork and the old one
abbrev pub LeaveRelation : Type 1
LeaveRelation = Disk → Disk → Disk → Type 0

-- a device may leave anything
abbrev pub Anything : LeaveRelation
Anything new old left = ⊤

-- What may become of a disk: what a replacement that failed may leave, and what an opening may read.
pub record DiskRelations : Type 1 where
  pub may_leave : LeaveRelation
  pub may_read : Disk → Result FileTable OsErr → Type 0

-- an opening reads what the disk has, of whichever file
abbrev pub read_truly : LeaveRelation → ℕ → DiskRelations
read_truly may_leave k = record { may_leave = may_leave; may_read = Reads }

-- what opening reads where the device goes so
abbrev pub ReadsBy : DiskRelations → Device → Disk → Result FileTable OsErr → Type 0
ReadsBy relations Works disk read = relations.may_read disk read
ReadsBy relations _ disk read = read ≡ Err IoErr

-- What a call of the Resource Manager does.
use Rattle.std.specs.Prelude.{◌≡◌, ℕ, List, [], Option, Some, None, IfSome, if◌then◌else◌, Result, Ok, Err, OnOk, ⊤}
use Rattle.std.specs.Option.{option_map_or}
use Rattle.mac_base.specs.declared.error.OsErr.{OsErr}
use Rattle.mac_base.specs.HeadKind.{Shape}
use Rattle.mac_base.specs.Heap.{Heap}
use Rattle.mac_base.specs.declared.memory_call.MemoryCall.{MemoryCall}
use Rattle.mac_base.specs.ExactStep.{IsExactStep}
use Rattle.mac_base.specs.GrowZone.{Ask}
use Rattle.mac_base.specs.MemoryStep.{MemoryStep}
use Rattle.mac_base.specs.Outcomes.{Outcome}
use Rattle.mac_base.specs.Released.{disposed_in}
use Rattle.fork_bytes.specs.Fork.{StandsFor}
use Rattle.fork_bytes.specs.Written.{written}
use Rattle.res_table.specs.declared.chain.RowPlace.{RowPlace}
use Rattle.res_table.specs.OpenFiles.{is_open, file_opened, row_at}
use Rattle.res_update.specs.Changes.{FileRow, FileTable, saved_table, handles_forgotten}
use Rattle.mac_base.specs.declared.resource_call.ResourceCall.{ResourceCall}
use Rattle.mac_base.specs.declared.resource_call.ResourceCall.TheVariants.{Writing, OpenResFile}
use Rattle.mac_base.specs.declared.resource_call.WritingCall.TheVariants.{WriteResource, UpdateResFile, CloseResFile}
use Rattle.mac_base.specs.declared.reply.Results.TheVariants.{Number}
use Rattle.res_update.specs.Device.{Device, FailsWriting, Disk, DiskRelations, ReadsBy}
use Rattle.res_update.specs.Files.{ResState, ResourceEnd, refused_with, with_heap, with_files, disk_of}
use Rattle.res_update.specs.Tests.{resource_refusal}
use Rattle.res_update.specs.Loads.{row_wanted, loads_bytes, placing, placed_end, found_end}
use Rattle.res_update.specs.Updates.{Update, file_update, row_update, update_end}
use Rattle.res_update.specs.Quiet.{quiet_end}

-- What a call does that is not refused: it gets the row at a place, makes an update, opens a file, or needs neither the
-- zone's room nor a disk.
pub data Work : Type 0 where
  Gets : RowPlace → Work
  Updates : Update → Work
  Opens : ℕ → Work
  Quiet : Work

-- the work of making an update, if there is one
abbrev pub updating : Option Update → Work
updating update = option_map_or Updates update Quiet

-- the work of a call
abbrev pub work_of : ResState → ResourceCall → Work
work_of state (Writing (WriteResource h)) = updating (row_update state h)
work_of state (Writing (UpdateResFile named)) = updating (file_update state named)
work_of state (Writing (CloseResFile named)) = updating (file_update state named)
work_of state (OpenResFile k) = if is_open k state.files then Quiet else Opens k
work_of state call = option_map_or Gets (row_wanted state call) Quiet

-- the state after a call of the Memory Manager that asked so and left this heap: rows have forgotten what answers
-- disposed of
abbrev pub after_memory : List Ask → Heap → ResState → ResState
after_memory asks heap state = with_heap heap (with_files (handles_forgotten (disposed_in asks) state.files) state)

-- the end of a call that opens a file, of which this was read
abbrev pub opened_end : ℕ → ResState → Result (FileTable) OsErr → ResourceEnd
opened_end k state (Ok table) = record { outcome = Ok (Number k); state = with_files (file_opened k table state.files) state }
opened_end k state (Err code) = refused_with code state

-- how a call of the Memory Manager may step
abbrev pub MemoryRelation : Type 1
MemoryRelation = Shape → Heap → MemoryCall → List Ask → Outcome → Heap → Type 0

-- how a call of the Memory Manager steps: as it may, and just so
abbrev pub Memory : MemoryRelation
Memory shape old call asks outcome new = MemoryStep shape old call asks outcome new × IsExactStep shape old call asks outcome new

-- by what may become of the disk of each file
module _ (Memory : MemoryRelation) (disks : ℕ → DiskRelations) where
  -- what an update may leave on the disk where the device goes so
  abbrev pub LeavesDisk : Device → Update → Disk → Type 0
  LeavesDisk (FailsWriting left) u disk = (disks u.file).may_leave (written (saved_table u.table)) disk left
  LeavesDisk device u disk = ⊤

  -- The call gets the row at a place; this call of the Memory Manager makes the place for its bytes, if one is needed.
  abbrev pub GetsRow : Device → ResState → ResourceCall → List Ask → ResourceEnd → RowPlace → FileRow → Option MemoryCall → Type 0
  GetsRow device old call asks end p r None = (asks ≡ []) × (end ≡ found_end call r old)
  GetsRow device old call asks end p r (Some inner) = (outcome : Outcome) × (heap : Heap)
      × Memory old.shape old.heap inner asks outcome heap
      × (end ≡ placed_end device (loads_bytes old call) call p r outcome (after_memory asks heap old))

  -- the same for the row that is there
  abbrev pub GetsPlace : Device → ResState → ResourceCall → List Ask → ResourceEnd → RowPlace → Option FileRow → Type 0
  GetsPlace device old call asks end p (Some r) = GetsRow device old call asks end p r (placing old.heap.table (loads_bytes old call) r)
  GetsPlace device old call asks end p None = ⊥

  -- A call that is not refused, by its work.
  abbrev pub Works : Device → ResState → ResourceCall → List Ask → ResourceEnd → Work → Type 0
  Works device old call asks end (Gets p) = GetsPlace device old call asks end p (row_at p old.files)
  Works device old call asks end (Updates u) = (asks ≡ []) × LeavesDisk device u (disk_of u.file old) × (end ≡ update_end device call u old)
  Works device old call asks end (Opens k) = (asks ≡ []) × (read : Result (FileTable) OsErr)
      × ReadsBy (disks k) device (disk_of k old) read × (end ≡ opened_end k old read)
  Works device old call asks end Quiet = (asks ≡ []) × (end ≡ quiet_end call old)

  -- a call by its refusal, if it is refused before anything is asked or changed
  abbrev pub StepsUnless : Option OsErr → Device → ResState → ResourceCall → List Ask → ResourceEnd → Type 0
  StepsUnless (Some code) device old call asks end = (asks ≡ []) × (end ≡ refused_with code old)
  StepsUnless None device old call asks end = Works device old call asks end (work_of old call)

  -- From the old state, and with the device going so, the call may ask so and end so, where the Memory Manager steps
  -- so, and this may become of disks.
  abbrev pub ResourceStepBy : Device → ResState → ResourceCall → List Ask → ResourceEnd → Type 0
  ResourceStepBy device old call asks end = StepsUnless (resource_refusal old call) device old call asks end

-- the update that such work makes
abbrev pub update_in : Work → Option Update
update_in (Updates u) = Some u
update_in (Gets p) = None
update_in (Opens k) = None
update_in Quiet = None

-- The file of an update stands for the table as it was saved, if there was an update and its device is honest: read
-- again, it gives that table and no other.
abbrev pub IsSaved : (ℕ → Type 0) → Option Update → ResState → Type 0
IsSaved honest update state = IfSome update (λ u. honest u.file → StandsFor (disk_of u.file state) (saved_table u.table))

-- Where a call that updates a file succeeds, the file reads back as the table that was saved.
abbrev pub ReadsBack : (ℕ → Type 0) → ResState → ResourceCall → Outcome → ResState → Type 0
ReadsBack honest old call outcome new = OnOk outcome (IsSaved honest (update_in (work_of old call)) new)

-- Calls by what the devices answered in them: a store need not be honest.
use Rattle.std.specs.Prelude.{◌≡◌, ◌⊎◌, ℕ, suc, Bool, if◌then◌else◌, IsTrue, List, [], ◌∷◌, length, map, Option, Some, None, MatchBool, Result, Ok, Err}
use Rattle.std.specs.Option.{IsSomeAnd}
use Rattle.mac_base.specs.declared.error.OsErr.{OsErr}
use Rattle.mac_base.specs.declared.error.OsErr.TheVariants.{EofErr, MapReadErr}
use Rattle.mac_base.specs.HandleTable.{zeros}
use Rattle.fork_bytes.specs.declared.table.Table.{Table}
use Rattle.mac_base.specs.declared.resource_call.ResourceCall.{ResourceCall}
use Rattle.mac_base.specs.declared.resource_call.ResourceCall.TheVariants.{Getting}
use Rattle.mac_base.specs.GrowZone.{Ask}
use Rattle.mac_base.specs.Outcomes.{Outcome}
use Rattle.res_table.specs.declared.chain.OpenFile.{OpenFile}
use Rattle.res_update.specs.Changes.{Files, FileRow, FileTable, opened_table}
use Rattle.res_update.specs.Device.{Device, Disk, DiskRelations, LeaveRelation, Reads, device_works}
use Rattle.res_update.specs.Files.{ResState}
use Rattle.res_update.specs.Steps.{MemoryRelation, ResourceStepBy, Work, Gets, Updates, Opens, Quiet, work_of}

-- bytes, or where they aren't known a zero for each
abbrev pub known_bytes : Bool → List ℕ → List ℕ
known_bytes known bytes = if known then bytes else zeros (length bytes)

-- a row with its bytes on the disk, where they are known
abbrev pub known_row : Bool → FileRow → FileRow
known_row known r = record {
  resource = record { kind = r.resource.kind; id = r.resource.id; name = r.resource.name; attributes = r.resource.attributes; datum = known_bytes known r.resource.datum };
  handle = r.handle;
}

-- a table of such rows
abbrev pub known_table : Bool → FileTable → FileTable
known_table known table = record { rows = map (known_row known) table.rows; extra = table.extra; map_attributes = table.map_attributes }

-- an open file with such a table, where this says of which files the bytes are known
abbrev pub known_file : (ℕ → Bool) → OpenFile (List ℕ) → OpenFile (List ℕ)
known_file known file = record { number = file.number; table = known_table (known file.number) file.table }

-- the open files so: each row is there, and has as many bytes
abbrev pub known_files : (ℕ → Bool) → Files → Files
known_files known files = record { files = map (known_file known) files.files; current = files.current }

-- the disks in the order of numbers, of which those of other files have no bytes
abbrev pub known_disks : (ℕ → Bool) → List Disk → List Disk
known_disks known [] = []
known_disks known (disk ∷ disks) = (if known 1 then disk else []) ∷ known_disks (λ k. known (suc k)) disks

-- the state where the bytes of these files alone are known
abbrev pub known_state : (ℕ → Bool) → ResState → ResState
known_state known state = record { shape = state.shape; heap = state.heap; files = known_files known state.files; loads = state.loads; disks = known_disks known state.disks }

-- each of these files has an honest device
abbrev pub AreHonest : (ℕ → Type 0) → (ℕ → Bool) → Type 0
AreHonest honest these = (k : ℕ) → IsTrue (these k) → honest k

-- These files are those as the devices answered: but for the bytes of rows they are the same, and of each file whose
-- device is honest, these too.
abbrev pub AnswersFor : (ℕ → Type 0) → Files → Files → Type 0
AnswersFor honest files answered = (known : ℕ → Bool) → AreHonest honest known → known_files known answered ≡ known_files known files

-- This state is that one as the devices answered: but for bytes on disks it is the same, and of each file whose device
-- is honest, these too.
abbrev pub IsAnswered : (ℕ → Type 0) → ResState → ResState → Type 0
IsAnswered honest state answered = (known : ℕ → Bool) → AreHonest honest known → known_state known answered ≡ known_state known state

-- what an opening may give where nothing is known of the disk: rows without handles of which none is changed, or one of
-- two refusals
abbrev pub IsOpening : Result FileTable OsErr → Type 0
IsOpening (Ok table) = (fork : Table) × (table ≡ opened_table fork)
IsOpening (Err code) = (code ≡ EofErr) ⊎ (code ≡ MapReadErr)

-- What may become of the disk of a file: what is said of bytes, where its device is honest; and else an opening may
-- read anything that it may give.
abbrev pub answered_disks : (ℕ → Type 0) → LeaveRelation → ℕ → DiskRelations
answered_disks honest may_leave k = record {
  may_leave = λ new old left. honest k → may_leave new old left;
  may_read = λ disk read. IsOpening read × (honest k → Reads disk read);
}

-- the file on whose store such work is done
abbrev pub file_of_work : Work → Option ℕ
file_of_work (Gets p) = Some p.file
file_of_work (Updates u) = Some u.file
file_of_work (Opens k) = Some k
file_of_work Quiet = None

-- before the step of a call that gets or loads a resource the state is as the devices answered, and else the old one
abbrev pub WasAnswered : (ℕ → Type 0) → ResState → ResourceCall → ResState → Type 0
WasAnswered honest old (Getting call) before = IsAnswered honest old before
WasAnswered honest old _ before = before ≡ old

-- From the old state, the call with these asks may have this outcome and leave the new one, by what the devices
-- answered: from the state as they answered before it, it is a step to the state as they answered after it. Only a call
-- that gets or loads a resource reads bytes of a row before its step. A device failed in it just where a count of
-- failures rose, that of the store of the file that the call reads or writes.
pub record AnswersStep (honest : ℕ → Type 0) (worked : Type 0) (Failed : ℕ → Type 0) (Memory : MemoryRelation) (may_leave : LeaveRelation)
    (old : ResState) (call : ResourceCall) (asks : List Ask) (outcome : Outcome) (new : ResState) : Type 0 where
  pub device : Device
  pub before : ResState
  pub after : ResState
  pub was : WasAnswered honest old call before
  pub becomes : IsAnswered honest new after
  pub step : ResourceStepBy Memory (answered_disks honest may_leave) device before call asks (record { outcome = outcome; state = after })
  pub cause : MatchBool (device_works device) worked (IsSomeAnd (file_of_work (work_of before call)) Failed)

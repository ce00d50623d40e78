-- Runs of calls in which every device works and nobody answers, computed.
use Rattle.std.proofs.Common.{ℕ, List, [], ◌∷◌, Some, None, Option}
use Rattle.std.specs.Prelude.{Result, true}
use Rattle.mac_base.specs.declared.error.OsErr.{OsErr}
use Rattle.mac_base.specs.HeadKind.{Shape}
use Rattle.mac_base.specs.Heap.{new_heap}
use Rattle.mac_base.specs.declared.memory_call.MemoryCall.{MemoryCall}
use Rattle.mac_base.specs.Outcomes.{Outcome}
use Rattle.mac_base.specs.ExactStep.{exact_step}
use Rattle.res_table.specs.declared.chain.RowPlace.{RowPlace}
use Rattle.res_table.specs.OpenFiles.{no_files, row_at}
use Rattle.res_update.specs.Changes.{FileRow, FileTable}
use Rattle.mac_base.specs.declared.resource_call.ResourceCall.{ResourceCall}
use Rattle.res_update.specs.Device.{Device, Disk}
use Rattle.res_update.specs.Device as device
use Rattle.res_update.specs.Files.{ResState, ResourceEnd, refused_with, with_heap, disk_of}
use Rattle.res_update.specs.Loads.{placing, loads_bytes, placed_end, found_end}
use Rattle.res_update.specs.Quiet.{quiet_end}
use Rattle.res_update.specs.Steps.{Work, Gets, Updates, Opens, Quiet, work_of, after_memory, opened_end}
use Rattle.res_update.specs.Tests.{resource_refusal}
use Rattle.res_update.specs.Updates.{update_end}

-- what opening reads of each disk
abbrev pub Reading : Type 0
Reading = Disk → Result (FileTable) OsErr

-- the end of a call that gets a row whose place is made so, while nobody answers
abbrev pub got : ResState → ResourceCall → RowPlace → FileRow → Option MemoryCall → ResourceEnd
got old call p r None = found_end call r old
got old call p r (Some inner) =
    let e = exact_step old.shape [] old.heap inner in
    placed_end device.Works (loads_bytes old call) call p r e.outcome (after_memory e.asks e.heap old)

-- the same for the row that is at a place
abbrev pub got_at : ResState → ResourceCall → RowPlace → Option FileRow → ResourceEnd
got_at old call p (Some r) = got old call p r (placing old.heap.table (loads_bytes old call) r)
got_at old call p None = quiet_end call old

-- the end of a call that isn't refused, by its work
abbrev pub worked : Reading → ResState → ResourceCall → Work → ResourceEnd
worked reading old call (Gets p) = got_at old call p (row_at p old.files)
worked reading old call (Updates u) = update_end device.Works call u old
worked reading old call (Opens k) = opened_end k old (reading (disk_of k old))
worked reading old call Quiet = quiet_end call old

-- the end of a call by its refusal, if it is refused
abbrev pub ended : Reading → ResState → ResourceCall → Option OsErr → ResourceEnd
ended reading old call (Some code) = refused_with code old
ended reading old call None = worked reading old call (work_of old call)

-- the end of a call
abbrev pub resource_end : Reading → ResState → ResourceCall → ResourceEnd
resource_end reading old call = ended reading old call (resource_refusal old call)

-- a call of either manager
pub data AnyCall : Type 0 where
  m : MemoryCall → AnyCall
  r : ResourceCall → AnyCall

-- how it ends
pub data AnyOutcome : Type 0 where
  of_memory : Outcome → AnyOutcome
  of_resources : Outcome → AnyOutcome

-- the outcomes of a run, and the state after it
pub record Ran : Type 0 where
  pub outcomes : List AnyOutcome
  pub state : ResState

-- a run of calls
abbrev pub ran : Reading → ResState → List AnyCall → Ran
ran reading old [] = record { outcomes = []; state = old }
ran reading old (m call ∷ calls) =
    let e = exact_step old.shape [] old.heap call in
    let rest = ran reading (with_heap e.heap old) calls in
    record { outcomes = of_memory e.outcome ∷ rest.outcomes; state = rest.state }
ran reading old (r call ∷ calls) =
    let e = resource_end reading old call in
    let rest = ran reading e.state calls in
    record { outcomes = of_resources e.outcome ∷ rest.outcomes; state = rest.state }

-- a new zone of so many bytes beside these disks, with no file open
abbrev pub unopened : Shape → ℕ → List Disk → ResState
unopened s size disks = record { shape = s; heap = new_heap s size; files = no_files; loads = true; disks = disks }

-- What a call of the Resource Manager does to the zone and the resource files.
use Rattle.std.specs.Prelude.{ℕ, Bool, true, false, List, map}
use Rattle.mac_base.specs.ZoneState.{ZoneState}
use Rattle.mac_base.specs.declared.resource_call.ResourceCall.{ResourceCall}
use Rattle.mac_base.specs.declared.resource_call.ResourceCall.TheVariants.{AddResource, GetResInfo}
use Rattle.mac_base.specs.GrowZone.{Ask}
use Rattle.mac_base.specs.Outcomes.{Outcome}
use Rattle.fork_disk.specs.declared.store.ForkStore.{Ghosts}
use Rattle.res_update.specs.Answered.{AnswersStep}
use Rattle.res_update.specs.Files.{ResState}
use Rattle.res_update.specs.Sought.{AnswersSought, sought}
use Rattle.res_update.specs.declared.seeking_call.SeekingCall.{SeekingCall}
use Rattle.res_update.specs.Steps.{Memory, Work, Gets, Updates, Opens, Quiet, work_of}
use Rattle.res_files.specs.FilesOn.{FailedAt, FilesOn, HonestAt, NoneFailed}

-- the zone and the resource files as the calls see them, where this gives the fork of a store
abbrev pub state_of : {S : Type 0} → (S → List ℕ) → ZoneState → FilesOn S → ResState
state_of fork zone on = record { shape = zone.shape; heap = zone.heap; files = on.files; loads = on.loads; disks = map fork on.stores }

-- From the old zone and files, the call with these asks may have this outcome and leave the new ones, by what the
-- devices answered.
abbrev pub ResourceSteps : {S : Type 0} → Ghosts S → ZoneState → FilesOn S → ResourceCall → List Ask → Outcome → ZoneState → FilesOn S → Type 0
ResourceSteps store old old_files call asks outcome new new_files = AnswersStep (HonestAt store.is_honest new_files.stores)
    (NoneFailed store.failures old_files.stores new_files.stores) (λ k. FailedAt store.failures k old_files.stores new_files.stores)
    Memory store.may_leave (state_of store.fork old old_files) call asks outcome (state_of store.fork new new_files)

-- From the old zone and files, a call that seeks a resource otherwise than by its id may do so, by what the devices
-- answered.
abbrev pub SoughtSteps : {S : Type 0} → Ghosts S → ZoneState → FilesOn S → SeekingCall → List Ask → Outcome → ZoneState → FilesOn S → Type 0
SoughtSteps store old old_files call asks outcome new new_files = AnswersSought (HonestAt store.is_honest new_files.stores)
    (NoneFailed store.failures old_files.stores new_files.stores) (λ k. FailedAt store.failures k old_files.stores new_files.stores)
    Memory store.may_leave (state_of store.fork old old_files) (sought call old_files.files) asks outcome (state_of store.fork new new_files)

-- whether such work takes host memory: a fork, or a table
abbrev pub work_takes_memory : Work → Bool
work_takes_memory (Updates u) = true
work_takes_memory (Opens k) = true
work_takes_memory (Gets p) = false
work_takes_memory Quiet = false

-- whether a call takes host memory: for a row, a name, a fork or a table
abbrev pub takes_memory : ResState → ResourceCall → Bool
takes_memory state (AddResource h kind id name) = true
takes_memory state (GetResInfo h) = true
takes_memory state call = work_takes_memory (work_of state call)

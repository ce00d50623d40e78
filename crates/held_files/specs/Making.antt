-- What a call of the Resource Manager does to a zone and to files whose forks are in memory.
use Rattle.std.specs.Option.{IsSomeAnd}
use Rattle.std.specs.Prelude.{◌≡◌, ◌⊎◌, ◌++◌, ◌-◌, ⊤, ℕ, List, None, Err, IsOkAnd, IsTrue, MatchBool, slice_index}
use Rattle.fork_disk.specs.Disk.{Rose}
use Rattle.fork_disk.specs.Fork.{IsPartly}
use Rattle.held_zone.specs.State.{State, with_no_asks}
use Rattle.held_zone.specs.Told.{StaysLent}
use Rattle.mac_base.specs.declared.error.OsErr.TheVariants.{MemFullErr}
use Rattle.mac_base.specs.GrowZone.{answers_in}
use Rattle.mac_base.specs.Outcomes.{Outcome}
use Rattle.mac_base.specs.declared.resource_call.ResourceCall.{ResourceCall}
use Rattle.res_update.specs.Answered.{file_of_work}
use Rattle.res_update.specs.Device.{Device, device_works, read_truly}
use Rattle.res_update.specs.Files.{ResState}
use Rattle.res_update.specs.Sought.{FoundStepBy, sought}
use Rattle.res_update.specs.Steps.{ReadsBack, ResourceStepBy, work_of}
use Rattle.res_update.specs.Tests.{resource_refusal}
use Rattle.res_update.specs.declared.seeking_call.SeekingCall.{SeekingCall}
use Rattle.res_manager.specs.Steps.{takes_memory}
use Rattle.toolbox.specs.Steps.{StepsFrom}
use Rattle.held_files.specs.Forks.{ForksState, SameForks}

-- the zone and the files, as the calls of the Resource Manager see them
abbrev pub resource_state : State → ForksState → ResState
resource_state zone files = record { shape = zone.zone.shape; heap = zone.zone.heap; files = files.files; loads = files.loads; disks = files.disks }

-- the fork of the file of a number failed: its count of failures rose
abbrev pub FailsAt : ℕ → List ℕ → List ℕ → Type 0
FailsAt k before now = Rose (slice_index before (k - 1)) (slice_index now (k - 1))

-- From a zone and files, the call ends so and leaves these: just as the Resource Manager makes it, where the
-- grow-zone procedure gives the answers that are left, first in, first out, and takes them from the front. A device
-- is memory, which fails only where the host has none for a longer fork. A file that was updated with success reads
-- back as the table that was saved. What is lent stays where it is, what waits to be lent waits on, and the
-- guest's fields of the zone's header stay, and so does what C learns of purges, and what is known of other zones.
pub record StepsOnForks (old : State) (old_files : ForksState) (call : ResourceCall) (outcome : Outcome) (new : State) (new_files : ForksState) : Type 0 where
  pub device : Device
  pub step : ResourceStepBy (StepsFrom old.left new.left) (read_truly IsPartly) device (resource_state old old_files) call new.asks
      (record { outcome = outcome; state = resource_state new new_files })
  pub cause : MatchBool (device_works device) (new_files.failures ≡ old_files.failures)
      (IsSomeAnd (file_of_work (work_of (resource_state old old_files) call)) (λ k. FailsAt k old_files.failures new_files.failures))
  pub taken : old.left ≡ answers_in new.asks ++ new.left
  pub reads_back : ReadsBack (λ k. ⊤) (resource_state old old_files) call outcome (resource_state new new_files)
  pub loans : new.loans ≡ old.loans
  pub waiting : new.waiting ≡ old.waiting
  pub guest : new.guest ≡ old.guest
  pub purges : new.purges ≡ old.purges
  pub lent : StaysLent old.zone new.zone
  pub zones : new_files.zones ≡ old_files.zones

-- From a zone and files, a call that seeks a resource otherwise than by its id ends so and leaves these: where it finds
-- one, that is got just as GetResource gets it. The answers that are left, the devices, what is lent and what waits are
-- as for other calls; it takes no memory of the host.
pub record SeeksOnForks (old : State) (old_files : ForksState) (call : SeekingCall) (outcome : Outcome) (new : State) (new_files : ForksState) : Type 0 where
  pub device : Device
  pub step : FoundStepBy (StepsFrom old.left new.left) (read_truly IsPartly) (sought call old_files.files) device (resource_state old old_files) new.asks
      (record { outcome = outcome; state = resource_state new new_files })
  pub cause : MatchBool (device_works device) (new_files.failures ≡ old_files.failures)
      (IsOkAnd (sought call old_files.files) (λ p. FailsAt p.file old_files.failures new_files.failures))
  pub taken : old.left ≡ answers_in new.asks ++ new.left
  pub loans : new.loans ≡ old.loans
  pub waiting : new.waiting ≡ old.waiting
  pub guest : new.guest ≡ old.guest
  pub purges : new.purges ≡ old.purges
  pub lent : StaysLent old.zone new.zone
  pub zones : new_files.zones ≡ old_files.zones

-- The host has no memory for a call that takes some and isn't refused: the answer is memFullErr, and nothing has
-- changed but what was asked.
pub record HasNoMemory (old : State) (old_files : ForksState) (call : ResourceCall) (outcome : Outcome) (new : State) (new_files : ForksState) : Type 0 where
  pub takes : IsTrue (takes_memory (resource_state old old_files) call)
  pub passes : resource_refusal (resource_state old old_files) call ≡ None
  pub full : outcome ≡ Err MemFullErr
  pub zone : new ≡ with_no_asks old
  pub files : SameForks old_files new_files
  pub zones : new_files.zones ≡ old_files.zones

-- one or the other
abbrev pub MakesResource : State → ForksState → ResourceCall → Outcome → State → ForksState → Type 0
MakesResource old old_files call outcome new new_files =
    StepsOnForks old old_files call outcome new new_files ⊎ HasNoMemory old old_files call outcome new new_files

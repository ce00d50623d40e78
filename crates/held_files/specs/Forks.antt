-- Resource files whose forks are in memory.
use Rattle.std.specs.List.{range_with_len}
use Rattle.std.specs.Prelude.{◌≡◌, ℕ, ◌-◌, not, Bool, List, [], find, map, replicate, set, slice_get, true, Option, None, if◌then◌else◌, nat_le, ◌&&◌}
use Rattle.fork_disk.specs.declared.mem_disk.MemDisk.{MemDisk}
use Rattle.fork_disk.specs.declared.store.PlainStore.{PlainStore}
use Rattle.res_update.specs.Changes.{Files, handles_forgotten}
use Rattle.res_update.specs.Device.{Disk}
use Rattle.res_files.specs.FilesOn.{FilesOn}
use Rattle.held_files.specs.declared.elsewhere.OtherZones.{OtherZones}
use Rattle.res_files.specs.Standing.{most_files}
use Rattle.res_table.specs.OpenFiles.{is_open, no_files}

-- the open files with the bytes that their rows have in the forks, whether calls load what they get, the forks in the
-- order of numbers, how often each had no memory of the host to be longer, and what is known of other zones
pub record ForksState : Type 0 where
  pub files : Files
  pub loads : Bool
  pub disks : List Disk
  pub failures : List ℕ
  pub zones : OtherZones

-- the fork of a store in memory
abbrev pub fork_in : PlainStore MemDisk → List ℕ
fork_in store = store.disk.bytes.items

-- how often it failed
abbrev pub failures_in : PlainStore MemDisk → ℕ
failures_in store = store.disk.failures

-- the files of stores in memory, as they are seen, with what is known of other zones
abbrev pub seen_on : OtherZones → FilesOn (PlainStore MemDisk) → ForksState
seen_on zones on = record { files = on.files; loads = on.loads; disks = map fork_in on.stores; failures = map failures_in on.stores; zones = zones }

-- the same files with the same forks
abbrev pub SameForks : ForksState → ForksState → Type 0
SameForks old new = (new.files ≡ old.files) × (new.loads ≡ old.loads) × (new.disks ≡ old.disks)

-- the numbers of files, from 1 on
unfoldable pub numbers : List ℕ
numbers = range_with_len 1 most_files

-- forks without bytes, one for each number
unfoldable pub empty_forks : List Disk
empty_forks = replicate most_files []

-- no other zone is known
abbrev pub no_zones : OtherZones
no_zones = record { system = None; needed = None }

-- no file is open, calls load what they get, no fork has bytes, and no other zone is known
abbrev pub HasNoForks : ForksState → Type 0
HasNoForks new = (new.files ≡ no_files) × (new.loads ≡ true) × (new.disks ≡ empty_forks) × (new.zones ≡ no_zones)

-- the first number of which no file is open
abbrev pub free_number : Files → Option ℕ
free_number files = find (λ k. not (is_open k files)) numbers

-- the file of a number has this fork, and all else is as before
abbrev pub HasFork : ℕ → Disk → ForksState → ForksState → Type 0
HasFork k fork old new = (new.files ≡ old.files) × (new.loads ≡ old.loads) × (new.disks ≡ set old.disks (k - 1) fork) × (new.zones ≡ old.zones)

-- the fork of the file of a number, open or not, if there is such a number
abbrev pub fork_of_number : ℕ → ForksState → Option Disk
fork_of_number k state = if nat_le 1 k && nat_le k most_files then slice_get state.disks (k - 1) else None

-- no row has any of these handles
abbrev pub without_handles : List ℕ → ForksState → ForksState
without_handles handles state = record state { files = handles_forgotten handles state.files }

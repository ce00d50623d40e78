-- A disk in memory or a file, as a disk.
use Rattle.std.specs.Prelude.{◌≡◌, ℕ, List, [], ⊤}
use Rattle.fork_disk.specs.Files.{IsHonestIn, IsStableIn, seen_in}
use Rattle.fork_disk.specs.Record.{failed_calls}
use Rattle.fork_disk.specs.declared.world.World.{Ghosts}
use Rattle.run_stores.specs.declared.disk.Disk.{Disk}
use Rattle.run_stores.specs.declared.disk.Disk.TheVariants.{Memory, File}
use Rattle.run_stores.specs.declared.opened.NewFile.{NewFile}

-- the bytes of a disk in memory; of a file those that its world gives
abbrev pub seen : {W : Type 0} → Ghosts W → Disk W → List ℕ
seen world (Memory disk) = disk.bytes.items
seen world (File disk) = seen_in world disk

-- a disk in memory returns what was written; a file is honest where its answers are those of the file that its world
-- describes
abbrev pub honest : {W : Type 0} → Ghosts W → Disk W → Type 0
honest world (Memory disk) = ⊤
honest world (File disk) = IsHonestIn world disk

-- a disk in memory is stable; a file is where a crash leaves what it holds
abbrev pub stable : {W : Type 0} → Ghosts W → Disk W → Type 0
stable world (Memory disk) = ⊤
stable world (File disk) = IsStableIn world disk

-- how often a disk has failed; of a file, how many calls in its record have
abbrev pub fails : {W : Type 0} → Disk W → ℕ
fails (Memory disk) = disk.failures
fails (File disk) = failed_calls disk.log.events

-- the disk is a file, of this number in its world, of which nothing was asked so far
abbrev pub IsFile : {W : Type 0} → ℕ → NewFile → Disk W → Type 0
IsFile number file (Memory disk) = ⊥
IsFile number file (File disk) = (disk.file ≡ file.file) × (disk.number ≡ number) × (disk.log.events ≡ [])

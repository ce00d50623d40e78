-- A file of a world, as a disk: what it holds, and when it is honest and stable.
use Rattle.std.specs.Prelude.{List, ℕ}
use Rattle.fork_disk.specs.Record.{IsHonest, IsStable}
use Rattle.fork_disk.specs.declared.file_disk.FileDisk.{FileDisk}
use Rattle.fork_disk.specs.declared.world.World.{Ghosts}

-- its bytes are those that its world gives after the calls on it
abbrev pub seen_in : {W : Type 0} → Ghosts W → FileDisk W → List ℕ
seen_in world disk = world.held disk.number disk.log.events

-- it is honest where the answers of these calls are those of such a file
abbrev pub IsHonestIn : {W : Type 0} → Ghosts W → FileDisk W → Type 0
IsHonestIn world disk = IsHonest (world.held disk.number) (world.may_leave disk.number) disk.log.events

-- it is stable where a crash leaves these bytes
abbrev pub IsStableIn : {W : Type 0} → Ghosts W → FileDisk W → Type 0
IsStableIn world disk = IsStable (world.held disk.number) (world.may_leave disk.number) disk.log.events

-- Why a resource file isn't opened.
use Rattle.std.specs.Prelude.{ℕ, List, ⊤, Result, Ok, Err}
use Rattle.mac_base.specs.declared.error.HostFull.{HostFull}
use Rattle.mac_base.specs.declared.error.OsErr.{OsErr}
use Rattle.mac_base.specs.declared.error.OsErr.TheVariants.{EofErr, MapReadErr, IoErr}
use Rattle.fork_bytes.specs.declared.fault.ForkFault.TheVariants as fork
use Rattle.fork_rows.specs.declared.fault.OpenFault.{OpenFault}
use Rattle.fork_rows.specs.declared.fault.OpenFault.TheVariants.{Fork, Device}
use Rattle.res_update.specs.Answered.{IsOpening}
use Rattle.res_update.specs.Changes.{FileTable}
use Rattle.res_update.specs.Device.{Reads}

-- what a fault says of the bytes of a file that is to be opened
abbrev pub RefusesFile : List ℕ → OpenFault → Type 0
RefusesFile disk (Fork fork.EndOfFile) = Reads disk (Err EofErr)
RefusesFile disk (Fork (fork.BadMap condition)) = Reads disk (Err MapReadErr)
RefusesFile disk (Fork fork.HostFull) = ⊤
RefusesFile disk Device = ⊤

-- the code of a fault, unless it is that the host has no memory
abbrev pub code_of : OpenFault → Result OsErr HostFull
code_of (Fork fork.EndOfFile) = Ok EofErr
code_of (Fork (fork.BadMap condition)) = Ok MapReadErr
code_of (Fork fork.HostFull) = Err (record {})
code_of Device = Ok IoErr

-- an opening may give this, and where the device is honest, it is what the disk has
abbrev pub MayRead : Type 0 → List ℕ → Result FileTable OsErr → Type 0
MayRead honest disk read = IsOpening read × (honest → Reads disk read)

-- What C says of zones beside the one that a call is given.
use Rattle.std.specs.Prelude.{◌≡◌, ℕ, ℤ, pos, ◌==◌, if◌then◌else◌, Option, Some, None, Result}
use Rattle.held_files.specs.Elsewhere.{needed, with_system}
use Rattle.held_files.specs.Forks.{ForksState}
use Rattle.held_zone.specs.declared.host_err.HostErr.{HostErr}
use Rattle.held_zone.specs.declared.host_err.HostErr.TheVariants.{NotThere}
use Rattle.held_zone.specs.HostCodes.{host_code, such}

-- an address that C gives: none where it is 0
abbrev pub address_given : ℕ → Option ℕ
address_given at = if at == 0 then None else Some at

-- C says which address the system zone has, or that none is known.
abbrev pub SystemTold : ℕ → Option ForksState → ℤ → Option ForksState → Type 0
SystemTold at None code new = (code ≡ host_code NotThere) × (new ≡ None)
SystemTold at (Some old) code new = (code ≡ pos 0) × (new ≡ Some (with_system (address_given at) old))

-- an address in the zone over which the last call has to be made that was given another, if one was
abbrev pub other_zone : ForksState → Result ℕ HostErr
other_zone files = such (needed files)

-- What C gets from calls on some of a resource's bytes.
use Rattle.std.specs.Prelude.{◌≡◌, ℕ, ℤ, pos, List, Option, Some, None}
use Rattle.held_files.specs.Forks.{ForksState}
use Rattle.held_files.specs.Partial.{PartCalled}
use Rattle.held_files.specs.declared.elsewhere.OverZone.{OverZone}
use Rattle.held_files.specs.declared.elsewhere.OverZone.TheVariants.{Other, This}
use Rattle.held_files.specs.Patching.{PatchCalled}
use Rattle.held_zone.specs.declared.host_err.HostErr.TheVariants.{NotThere, OtherZone}
use Rattle.held_zone.specs.HostCodes.{host_code}
use Rattle.held_zone.specs.State.{State}
use Rattle.mac_base.specs.Codes.{code_of, minus}
use Rattle.res_update.specs.declared.partial_end.PartialEnd.{PartialEnd}
use Rattle.res_update.specs.declared.partial_end.PartialEnd.TheVariants.{Done, InMemory, OutOfBounds, Refused}
use Rattle.res_update.specs.declared.patching_call.PatchingCall.{PatchingCall}

-- the code of its end: resourceInMemory and inputOutOfBounds have their own, and so has another zone, and a zone or files
-- that aren't there
abbrev pub part_code : OverZone PartialEnd → ℤ
part_code Other = host_code OtherZone
part_code (This None) = host_code NotThere
part_code (This (Some Done)) = pos 0
part_code (This (Some InMemory)) = minus 188
part_code (This (Some OutOfBounds)) = minus 190
part_code (This (Some (Refused code))) = code_of code

-- The call is made, and C gets this code, and these bytes in the place of as many others.
abbrev pub PartTold : Option State → Option ForksState → ℕ → ℕ → ℤ → List ℕ → List ℕ → Option State → Option ForksState → Type 0
PartTold zone files h at code before after new new_files = (end : OverZone PartialEnd) × (code ≡ part_code end) × PartCalled zone files h at before after end new new_files

-- A call that changes them is made, and C gets this code.
abbrev pub PatchTold : Option State → Option ForksState → PatchingCall → ℤ → Option State → Option ForksState → Type 0
PatchTold zone files call code new new_files = (end : OverZone PartialEnd) × (code ≡ part_code end) × PatchCalled zone files call end new new_files

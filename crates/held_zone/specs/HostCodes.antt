-- The codes that C gets where its own call is refused, and not a guest's.
use Rattle.std.specs.Prelude.{◌≡◌, ℤ, pos, Option, Some, None, Result, Ok, Err}
use Rattle.mac_base.specs.Codes.{minus}
use Rattle.held_zone.specs.declared.host_err.HostErr.{HostErr}
use Rattle.held_zone.specs.declared.host_err.HostErr.TheVariants.{NotThere, TooBig, WouldPurge, BadState, OtherZone, InUse, BadNumber, NoneSuch}

-- the number of a code of the host's
abbrev pub host_code : HostErr → ℤ
host_code NotThere = minus 1000
host_code TooBig = minus 1001
host_code WouldPurge = minus 1002
host_code BadState = minus 1003
host_code OtherZone = minus 1004
host_code InUse = minus 1005
host_code BadNumber = minus 1006
host_code NoneSuch = minus 1007

-- what there is; or there is none such
abbrev pub such : {A : Type 0} → Option A → Result A HostErr
such (Some found) = Ok found
such None = Err NoneSuch

-- what is found is shown; else there is the refusal's code, and what was there stays
abbrev pub Shows : {A : Type 0} → Result A HostErr → ℤ → A → A → Type 0
Shows (Ok found) code before shown = (code ≡ pos 0) × (shown ≡ found)
Shows (Err refusal) code before shown = (code ≡ host_code refusal) × (shown ≡ before)

-- How a recovery counts its faults.
use Rattle.std.specs.Prelude.{◌≡◌, ℕ, Result, MatchResult}
use Rattle.fork_disk.specs.Disk.{Rose}
use Rattle.fork_disk.specs.declared.faults.RecoverFault.{RecoverFault}
use Rattle.fork_disk.specs.declared.faults.RecoverFault.TheVariants.{Device, Host}

abbrev pub cause_of : ℕ → ℕ → RecoverFault → Type 0
cause_of before now Device = Rose before now
cause_of before now Host = now ≡ before

-- the count of failures rose where the device failed, and only there
abbrev pub CountsDevice : {T : Type 0} → ℕ → ℕ → Result T RecoverFault → Type 0
CountsDevice before now result = MatchResult result (λ _. now ≡ before) (cause_of before now)

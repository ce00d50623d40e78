-- SetResInfo over files whose forks are in memory, and what C gets from it.
use Rattle.std.specs.Prelude.{◌≡◌, ◌⊎◌, ⊤, ℕ, ℤ, List, Option, Some, None, Result, Ok, Err, MatchOption}
use Rattle.held_files.specs.Forks.{ForksState}
use Rattle.held_zone.specs.declared.host_err.HostErr.TheVariants.{NotThere}
use Rattle.held_zone.specs.HostCodes.{host_code}
use Rattle.held_zone.specs.Told.{code_told}
use Rattle.mac_base.specs.declared.error.OsErr.{OsErr}
use Rattle.mac_base.specs.declared.error.OsErr.TheVariants.{MemFullErr}
use Rattle.mac_base.specs.Outcomes.{done_outcome}
use Rattle.res_update.specs.Info.{info_changed, info_refusal}

-- The call ends so, and leaves these files: the resource has the id and the name, or the call is refused. Where the
-- host has no memory for a call that isn't refused, the answer is memFullErr, and nothing has changed.
abbrev pub SetsInfo : ℕ → ℤ → Option (List ℕ) → ForksState → Result ⊤ OsErr → ForksState → Type 0
SetsInfo h id name old done new = MatchOption (info_refusal h name old.files)
    (((done ≡ Ok tt) × (new ≡ record old { files = info_changed h id name old.files })) ⊎ ((done ≡ Err MemFullErr) × (new ≡ old)))
    (λ code. (done ≡ Err code) × (new ≡ old))

-- C makes it, where there are files, and gets this code.
abbrev pub SetInfoTold : ℕ → ℤ → Option (List ℕ) → Option ForksState → ℤ → Option ForksState → Type 0
SetInfoTold h id name (Some old) code (Some new) = (done : Result ⊤ OsErr) × (code ≡ code_told (Some (done_outcome done))) × SetsInfo h id name old done new
SetInfoTold h id name None code new = (code ≡ host_code NotThere) × (new ≡ None)
SetInfoTold h id name _ code _ = ⊥

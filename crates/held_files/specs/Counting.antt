-- What C gets from a call that says what all open files have together.
use Rattle.std.specs.Prelude.{◌≡◌, ℕ, ℤ, Option, Some, None}
use Rattle.held_files.specs.Forks.{ForksState}
use Rattle.held_files.specs.Told.{kind_told}
use Rattle.held_zone.specs.State.{State}
use Rattle.held_zone.specs.Told.{code_told, number_told}
use Rattle.mac_base.specs.Outcomes.{Outcome}
use Rattle.res_update.specs.Counted.{counted}
use Rattle.res_update.specs.declared.counting_call.CountingCall.{CountingCall}

-- what the files say, where there are files and a zone
abbrev pub counted_on : Option State → Option ForksState → CountingCall → Option Outcome
counted_on (Some zone) (Some files) call = Some (counted call files.files)
counted_on _ _ call = None

-- The zone and the files stay, and C gets this code and this number, where another one was.
abbrev pub CountedTold : Option State → Option ForksState → CountingCall → ℤ → ℕ → ℕ → Option State → Option ForksState → Type 0
CountedTold zone files call code before number new new_files =
    (code ≡ code_told (counted_on zone files call)) × (number ≡ number_told before (counted_on zone files call))
    × (new ≡ zone) × (new_files ≡ files)

-- The same, and C gets this resource type, where another one was.
abbrev pub CountedToldKind : Option State → Option ForksState → CountingCall → ℤ → ℕ → ℕ → Option State → Option ForksState → Type 0
CountedToldKind zone files call code before kind new new_files =
    (code ≡ code_told (counted_on zone files call)) × (kind ≡ kind_told before (counted_on zone files call))
    × (new ≡ zone) × (new_files ≡ files)

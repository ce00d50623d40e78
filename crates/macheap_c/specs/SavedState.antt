-- What C gets of resource files that are saved as bytes, and made again of these.
use Rattle.std.specs.Global.{Vec}
use Rattle.std.specs.Prelude.{◌≡◌, ℕ, ℤ, pos, List, Option, Some, None, Result, Ok, Err}
use Rattle.held_files.specs.Forks.{ForksState}
use Rattle.held_files.specs.Saving.{Loads, Saves}
use Rattle.held_zone.specs.declared.host_err.HostErr.{HostErr}
use Rattle.held_zone.specs.declared.host_err.HostErr.TheVariants.{BadState, InUse, NotThere}
use Rattle.held_zone.specs.HostCodes.{Shows, host_code}
use Rattle.held_zone.specs.State.{State}
use Rattle.mac_base.specs.Codes.{minus}
use Rattle.row_image.specs.declared.fault.SaveFault.{SaveFault}
use Rattle.row_image.specs.declared.fault.SaveFault.TheVariants.{HostFull, NotSound}

-- memFullErr where the host has no memory; where files can't be saved, or bytes are those of none that can, a code of the
-- host's
abbrev pub fault_code : SaveFault → ℤ
fault_code HostFull = minus 108
fault_code NotSound = host_code BadState

-- something of the bytes that are saved is shown; else there is a code, and what was there stays
abbrev pub SavedShown : {A : Type 0} → (List ℕ → Result A HostErr) → Option (Result (Vec ℕ) SaveFault) → ℤ → A → A → Type 0
SavedShown of None code before shown = (code ≡ host_code NotThere) × (shown ≡ before)
SavedShown of (Some (Err fault)) code before shown = (code ≡ fault_code fault) × (shown ≡ before)
SavedShown of (Some (Ok bytes)) code before shown = Shows (of bytes.items) code before shown

-- C is shown something of the bytes that the files are saved as over the zone; both stay.
abbrev pub SaveReply : {A : Type 0} → (List ℕ → Result A HostErr) → Option State → Option ForksState → ℤ → A → A → Option State → Option ForksState → Type 0
SaveReply of zone files code before shown new new_files =
    (saved : Option (Result (Vec ℕ) SaveFault)) × Saves zone files saved × SavedShown of saved code before shown × (new ≡ zone) × (new_files ≡ files)

-- the code of a load
abbrev pub load_code : Option (Result (Unit {0}) SaveFault) → ℤ
load_code None = host_code NotThere
load_code (Some (Ok done)) = pos 0
load_code (Some (Err fault)) = fault_code fault

-- Files are made of bytes over the zone, which stays, and C gets this code. Those that have begun stay.
abbrev pub LoadReply : Option State → Option ForksState → List ℕ → ℤ → Option State → Option ForksState → Type 0
LoadReply zone None bytes code new new_files =
    (end : Option (Result (Unit {0}) SaveFault)) × (code ≡ load_code end) × Loads zone None bytes end new_files × (new ≡ zone)
LoadReply zone (Some files) bytes code new new_files = (code ≡ host_code InUse) × (new ≡ zone) × (new_files ≡ Some files)

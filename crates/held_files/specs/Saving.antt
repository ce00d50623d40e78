-- Files whose forks are in memory are saved as bytes over a zone, and made again of these.
use Rattle.std.specs.Global.{Vec}
use Rattle.std.specs.Prelude.{◌≡◌, ⊤, List, ℕ, Option, Some, None, Result, Ok, Err}
use Rattle.fork_bytes.specs.declared.place.Place.{Place}
use Rattle.held_files.specs.Forks.{ForksState, SameForks, no_zones}
use Rattle.held_zone.specs.State.{State}
use Rattle.mac_base.specs.ZoneState.{ZoneState}
use Rattle.res_files.specs.Standing.{files_on}
use Rattle.res_table.specs.OpenFiles.{OpenFiles}
use Rattle.row_image.specs.declared.fault.SaveFault.{SaveFault}
use Rattle.row_image.specs.declared.fault.SaveFault.TheVariants.{NotSound}
use Rattle.saved_files.specs.Saved.{Saved}
use Rattle.saved_files.specs.Sound.{CanBeSaved, IsSavedAs, StandOnForks}

-- what is saved of files, whose rows have their bytes at these places in the forks
abbrev pub saved_of : ForksState → OpenFiles Place → Saved
saved_of files chain = record { chain = chain; loads = files.loads; disks = files.disks }

-- Files can be saved over a zone, and these are the bytes.
pub record IsSavedOver (zone : ZoneState) (files : ForksState) (bytes : List ℕ) : Type 0 where
  pub chain : OpenFiles Place
  pub seen : files.files ≡ files_on files.disks chain
  pub saved : IsSavedAs zone (saved_of files chain) bytes

-- Files, whose rows have their bytes at places in their forks, can't be saved over a zone.
pub record CantBeSaved (zone : ZoneState) (files : ForksState) : Type 0 where
  pub chain : OpenFiles Place
  pub seen : files.files ≡ files_on files.disks chain
  pub placed : StandOnForks files.disks chain
  pub cant : ¬ CanBeSaved zone (saved_of files chain)

-- Files are as those of which these bytes were saved over a zone, whichever these are. No other zone is known.
pub record AreAsSaved (zone : ZoneState) (bytes : List ℕ) (new : ForksState) : Type 0 where
  pub saved : IsSavedOver zone new bytes
  pub same : (other : ForksState) → IsSavedOver zone other bytes → SameForks other new
  pub zones : new.zones ≡ no_zones

-- where there are a zone and files, they give the bytes that they are saved as over it; or the host has no memory, or they
-- can't be saved. Else nothing is saved.
abbrev pub Saves : Option State → Option ForksState → Option (Result (Vec ℕ) SaveFault) → Type 0
Saves (Some zone) (Some files) (Some (Ok bytes)) = IsSavedOver zone.zone files bytes.items
Saves (Some zone) (Some files) (Some (Err fault)) = fault ≡ NotSound → CantBeSaved zone.zone files
Saves (Some zone) None None = ⊤
Saves None files None = ⊤
Saves _ _ _ = ⊥

-- where there are a zone and no files, these are made of bytes as they were when they were saved over it; or none are: the
-- host has no memory, or no files that can be saved over it are saved as these bytes. Else the files stay.
abbrev pub Loads : Option State → Option ForksState → List ℕ → Option (Result (Unit {0}) SaveFault) → Option ForksState → Type 0
Loads (Some zone) None bytes (Some (Ok done)) (Some new) = AreAsSaved zone.zone bytes new
Loads (Some zone) None bytes (Some (Err fault)) new = (new ≡ None) × (fault ≡ NotSound → (other : ForksState) → ¬ IsSavedOver zone.zone other bytes)
Loads (Some zone) (Some files) bytes None new = new ≡ Some files
Loads None files bytes None new = new ≡ files
Loads _ _ bytes _ _ = ⊥

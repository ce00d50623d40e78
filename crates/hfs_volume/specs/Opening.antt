-- What a disk is read as.
use Rattle.std.specs.Prelude.{◌≡◌, ℕ, List, length, ⊤, Result, Ok, Err, MatchResult}
use Rattle.hfs_tree.specs.Reads.{cause_of}
use Rattle.hfs_volume.specs.declared.fault.OpenFault.{OpenFault}
use Rattle.hfs_volume.specs.declared.fault.OpenFault.TheVariants as open_fault
use Rattle.hfs_volume.specs.declared.volume.Volume.{Volume}
use Rattle.hfs_volume.specs.Volume.{VolumeRead, volume_in}

abbrev pub read_of : Volume → VolumeRead
read_of found = record { size = found.size; mdb = found.mdb; overflow = found.overflow.items; entries = found.entries.items }

-- the bytes are refused for this
abbrev pub Refuses : List ℕ → OpenFault → Type 0
Refuses volume (open_fault.Volume fault) = volume_in volume ≡ Err fault
Refuses volume (open_fault.Read fault) = ⊤

-- the bytes are this volume
pub record IsVolume (volume : List ℕ) (found : Volume) : Type 0 where
  pub read : volume_in volume ≡ Ok (read_of found)
  pub size : found.size ≡ length volume

-- the bytes are this volume, or are refused for this
abbrev pub OpensAs : Result Volume OpenFault → List ℕ → Type 0
OpensAs result volume = MatchResult result (IsVolume volume) (Refuses volume)

-- the count of failures rose where the device failed, and only there
abbrev pub cause_in : ℕ → ℕ → OpenFault → Type 0
cause_in before now (open_fault.Volume fault) = now ≡ before
cause_in before now (open_fault.Read fault) = cause_of before now fault

abbrev pub CountsOpening : ℕ → ℕ → Result Volume OpenFault → Type 0
CountsOpening before now result = MatchResult result (λ _. now ≡ before) (cause_in before now)

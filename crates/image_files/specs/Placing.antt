-- Where in a file volumes are.
use Rattle.std.specs.Prelude.{◌≡◌, ⊤, ℕ, Result, Ok, Err}
use Rattle.std.specs.Coded.{Coded-set, Unit-prop, coded_ℕ}
use Rattle.disk_image.specs.Devices.{IsView}
use Rattle.disk_image.specs.declared.fault.ImageFault.{ImageFault}
use Rattle.disk_image.specs.declared.place.Found.{Found}
use Rattle.disk_image.specs.declared.place.Placed.{Placed}
use Rattle.image_files.specs.declared.files.VolumeRefusal.{VolumeRefusal}
use Rattle.image_files.specs.declared.volume.PlacedVolume.{PlacedVolume}
use Rattle.image_files.specs.declared.volume.VolumeFiles.{VolumeFiles}

-- a volume is in a file of so many bytes
abbrev pub IsFoundIn : ℕ → Result VolumeFiles VolumeRefusal → Type 0
IsFoundIn file (Ok volume) = volume.view.file ≡ file
IsFoundIn file (Err refusal) = ⊤

abbrev pub IsPlacedIn : ℕ → PlacedVolume → Type 0
IsPlacedIn file placed = IsFoundIn file placed.found

-- there is one proof of it at most
IsFoundIn-prop : (file : ℕ) (found : Result VolumeFiles VolumeRefusal) → IsProp (IsFoundIn file found)
IsFoundIn-prop file (Ok volume) = Coded-set coded_ℕ volume.view.file file
IsFoundIn-prop file (Err refusal) = Unit-prop

pub IsPlacedIn-prop : (file : ℕ) (placed : PlacedVolume) → IsProp (IsPlacedIn file placed)
IsPlacedIn-prop file placed = IsFoundIn-prop file placed.found

-- a volume that was found has ranges of a file
abbrev pub IsSound : Result Found ImageFault → Type 0
IsSound (Ok found) = IsView found.view
IsSound (Err fault) = ⊤

abbrev pub IsSoundAt : Placed → Type 0
IsSoundAt placed = IsSound placed.found

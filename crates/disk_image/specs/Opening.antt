-- What a file is read as.
use Rattle.std.specs.Prelude.{◌≡◌, ⊤, ℕ, List, length, Result, Ok, Err, MatchResult}
use Rattle.disk_ranges.specs.declared.read.Range.{Range}
use Rattle.disk_ranges.specs.Ranges.{bytes_of}
use Rattle.hfs_tree.specs.Reads.{cause_of}
use Rattle.disk_image.specs.declared.fault.ImageFault.{ImageFault}
use Rattle.disk_image.specs.declared.fault.OpenFault.{OpenFault}
use Rattle.disk_image.specs.declared.fault.OpenFault.TheVariants as open_fault
use Rattle.disk_image.specs.declared.image.Image.{Image}
use Rattle.disk_image.specs.Devices.{device_of}
use Rattle.disk_image.specs.Images.{ContentsIn, contents_of, contents_in}
use Rattle.disk_image.specs.Known.{known_as}

-- what the disk has that a file holds
abbrev pub with_device : List ℕ → Result (List Range) ImageFault → Result ContentsIn ImageFault
with_device file (Err fault) = Err fault
with_device file (Ok ranges) = let disk = bytes_of ranges file in contents_of disk (known_as disk)

-- what an image has, or the first condition that doesn't hold
unfoldable pub image_in : List ℕ → Result ContentsIn ImageFault
image_in file = with_device file (device_of file (known_as file))

-- the bytes are this image
pub record IsImage (file : List ℕ) (image : Image) : Type 0 where
  pub size : image.size ≡ length file
  pub known : image.known ≡ known_as file
  pub read : image_in file ≡ Ok (contents_in file image.contents)

-- the bytes are refused for this
abbrev pub Refuses : List ℕ → OpenFault → Type 0
Refuses file (open_fault.Image fault) = image_in file ≡ Err fault
Refuses file (open_fault.Read fault) = ⊤

-- the bytes are this image, or are refused for this
abbrev pub OpensAs : Result Image OpenFault → List ℕ → Type 0
OpensAs result file = MatchResult result (IsImage file) (Refuses file)

-- the count of failures rose where the device failed, and only there
abbrev pub cause_in : ℕ → ℕ → OpenFault → Type 0
cause_in before now (open_fault.Image fault) = now ≡ before
cause_in before now (open_fault.Read fault) = cause_of before now fault

abbrev pub CountsOpening : ℕ → ℕ → Result Image OpenFault → Type 0
CountsOpening before now result = MatchResult result (λ _. now ≡ before) (cause_in before now)

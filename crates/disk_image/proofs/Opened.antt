-- What a file is, by what was read of it in turn.
use Rattle.std.proofs.Common.{◌≡◌, ℕ, List, Result, Ok, Err, refl}
use Rattle.disk_ranges.specs.declared.read.Range.{Range}
use Rattle.disk_ranges.specs.Ranges.{bytes_of}
use Rattle.disk_image.specs.declared.fault.ImageFault.{ImageFault}
use Rattle.disk_image.specs.declared.known.Known.{Known}
use Rattle.disk_image.specs.Devices.{device_of}
use Rattle.disk_image.specs.Images.{ContentsIn, contents_of}
use Rattle.disk_image.specs.Known.{known_as}
use Rattle.disk_image.specs.Opening.{image_in}

-- there is no disk in it
pub no_disk : (file : List ℕ) (known : Known) (fault : ImageFault) → known ≡ known_as file → device_of file known ≡ Err fault → image_in file ≡ Err fault
unfolding image_in
no_disk file known fault is none = rw (← is, none) refl

-- or one with these contents
pub a_disk : (file : List ℕ) (known inner : Known) (ranges : List Range) (found : Result ContentsIn ImageFault) → known ≡ known_as file → device_of file known ≡ Ok ranges
    → inner ≡ known_as (bytes_of ranges file) → contents_of (bytes_of ranges file) inner ≡ found → image_in file ≡ found
unfolding image_in
a_disk file known inner ranges found is some inside has = rw (← is, some, ← inside) has

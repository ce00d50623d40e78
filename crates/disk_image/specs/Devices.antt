-- Where in a file the bytes of a disk are.
use Rattle.std.specs.Prelude.{◌≡◌, ℕ, zero, suc, ◌+◌, ◌-◌, ◌*◌, ◌/◌, ◌==◌, min, if◌then◌else◌, List, [], ◌∷◌, length, Result, Ok, Err}
use Rattle.disk_ranges.specs.declared.read.Range.{Range}
use Rattle.disk_ranges.specs.Ranges.{bytes_of, total, AreWithin}
use Rattle.disk_image.specs.declared.fault.ImageFault.{ImageFault}
use Rattle.disk_image.specs.declared.fault.ImageFault.TheVariants.{Sector}
use Rattle.disk_image.specs.declared.known.Known.{Known}
use Rattle.disk_image.specs.declared.known.Known.TheVariants.{Udif, Encrypted, Sparse, RawCd, DiskCopy, Map, Volume, OldMap, Iso, Other}
use Rattle.disk_image.specs.declared.view.View.{View}
use Rattle.disk_image.specs.Known.{number_at}

-- ranges that lie within a file of so many bytes, with how many they have
pub record IsView (view : View) : Type 0 where
  pub within : AreWithin view.file view.ranges.items
  pub whole : view.size ≡ total view.ranges.items

-- their bytes
abbrev pub bytes_in : View → List ℕ → List ℕ
bytes_in view file = bytes_of view.ranges.items file

-- all bytes of a file
abbrev pub whole_of : ℕ → List Range
whole_of size = record { at = 0; length = size } ∷ []

-- The sectors of a raw CD have 2,352 bytes each. 2,048 of these, from so many on, are a disk's.
unfoldable pub sectors : ℕ → ℕ → ℕ → List Range
sectors head first zero = []
sectors head first (suc more) = record { at = 2352 * first + head; length = 2048 } ∷ sectors head (first + 1) more

-- the mode of the first sector says where they begin in each
unfoldable pub sectors_of : ℕ → ℕ → Result (List Range) ImageFault
sectors_of size mode =
    if mode == 1 then Ok (sectors 16 0 (size / 2352)) else if mode == 2 then Ok (sectors 24 0 (size / 2352)) else Err (Sector mode)

-- the data of a DiskCopy image, as far as the file goes
unfoldable pub data_of : ℕ → ℕ → List Range
data_of size count = record { at = min size 84; length = min count (size - 84) } ∷ []

-- where a disk's bytes are in a file that is known as something
abbrev pub device_of : List ℕ → Known → Result (List Range) ImageFault
device_of file DiskCopy = Ok (data_of (length file) (number_at 4 64 file))
device_of file RawCd = sectors_of (length file) (number_at 1 15 file)
device_of file Udif = Ok (whole_of (length file))
device_of file Encrypted = Ok (whole_of (length file))
device_of file Sparse = Ok (whole_of (length file))
device_of file Map = Ok (whole_of (length file))
device_of file (Volume format) = Ok (whole_of (length file))
device_of file OldMap = Ok (whole_of (length file))
device_of file Iso = Ok (whole_of (length file))
device_of file Other = Ok (whole_of (length file))

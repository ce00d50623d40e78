-- What an image has.
use Rattle.std.specs.Prelude.{◌≡◌, ⊤, ℕ, nat_le, if◌then◌else◌, List, [], ◌∷◌, length, filter, map, slice_index_or, Option, None, Some, Result, Ok, Err}
use Rattle.disk_image.specs.declared.fault.ImageFault.{ImageFault}
use Rattle.disk_image.specs.declared.fault.ImageFault.TheVariants.{Refused, NoVolume, Start, Part as NoPart}
use Rattle.disk_image.specs.declared.image.Contents.{Contents}
use Rattle.disk_image.specs.declared.known.Format.{Format}
use Rattle.disk_image.specs.declared.known.Format.TheVariants.{Hfs, Mfs, HfsPlus}
use Rattle.disk_image.specs.declared.known.Known.{Known}
use Rattle.disk_image.specs.declared.known.Known.TheVariants.{Udif, Encrypted, Sparse, RawCd, DiskCopy, Map, Volume, OldMap, Iso, Other}
use Rattle.disk_image.specs.declared.part.Part.{Part}
use Rattle.disk_image.specs.declared.place.Found.{Found}
use Rattle.disk_image.specs.declared.place.Placed.{Placed}
use Rattle.disk_image.specs.Devices.{IsView, bytes_in}
use Rattle.disk_image.specs.Known.{format_at, format_of_copy}
use Rattle.disk_image.specs.Maps.{is_volume, bytes_of_part, map_of, old_parts}

-- a volume of HFS or MFS, with its bytes
pub record VolumeIn : Type 0 where
  pub format : Format
  pub bytes : List ℕ

-- a volume, or why it isn't read, of a partition, or of 0 where it is all of a disk; and where on the disk it begins
pub record PlacedIn : Type 0 where
  pub part : ℕ
  pub start : ℕ
  pub found : Result VolumeIn ImageFault

-- what a disk has: its partitions, and its volumes
pub record ContentsIn : Type 0 where
  pub parts : List Part
  pub volumes : List PlacedIn

-- what bytes are known as that are a partition: by their first block, or by its copy
abbrev pub or_copy : List ℕ → Option Format → Option Format
or_copy bytes (Some format) = Some format
or_copy bytes None = format_of_copy bytes

unfoldable pub format_of : List ℕ → Option Format
format_of bytes = or_copy bytes (format_at 1024 bytes)

abbrev pub volume_in : ℕ → List ℕ → Option Format → Result VolumeIn ImageFault
volume_in part bytes (Some Hfs) = Ok (record { format = Hfs; bytes = bytes })
volume_in part bytes (Some Mfs) = Ok (record { format = Mfs; bytes = bytes })
volume_in part bytes (Some HfsPlus) = Err (NoPart part (Some HfsPlus))
volume_in part bytes None = Err (NoPart part None)

-- the volume of a partition, which begins on the disk
unfoldable pub found_of : List ℕ → Part → Result VolumeIn ImageFault
found_of disk part = let bytes = bytes_of_part disk part in
    if nat_le (length disk) part.start then Err (Start part.number part.start) else volume_in part.number bytes (format_of bytes)

abbrev pub volume_of : List ℕ → Part → PlacedIn
volume_of disk part = record { part = part.number; start = part.start; found = found_of disk part }

-- those of partitions, of which one is a volume at least
abbrev pub with_volumes : List ℕ → List Part → List Part → Result ContentsIn ImageFault
with_volumes disk parts [] = Err (NoVolume (length parts))
with_volumes disk parts (first ∷ others) = Ok (record { parts = parts; volumes = map (volume_of disk) (first ∷ others) })

unfoldable pub partitions_of : List ℕ → List Part → Result ContentsIn ImageFault
partitions_of disk parts = with_volumes disk parts (filter is_volume parts)

-- a disk that is a volume
abbrev pub whole_volume : List ℕ → Format → ContentsIn
whole_volume disk format = record { parts = []; volumes = record { part = 0; start = 0; found = Ok (record { format = format; bytes = disk }) } ∷ [] }

abbrev pub of_format : List ℕ → Format → Result ContentsIn ImageFault
of_format disk Hfs = Ok (whole_volume disk Hfs)
of_format disk Mfs = Ok (whole_volume disk Mfs)
of_format disk HfsPlus = Err (Refused (Volume HfsPlus))

-- a disk with a damaged map may be a volume of HFS
abbrev pub or_hfs : List ℕ → ImageFault → Option Format → Result ContentsIn ImageFault
or_hfs disk fault (Some Hfs) = Ok (whole_volume disk Hfs)
or_hfs disk fault (Some Mfs) = Err fault
or_hfs disk fault (Some HfsPlus) = Err fault
or_hfs disk fault None = Err fault

abbrev pub by_map : List ℕ → Result (List Part) ImageFault → Result ContentsIn ImageFault
by_map disk (Ok parts) = partitions_of disk parts
by_map disk (Err fault) = or_hfs disk fault (format_at 1024 disk)

-- what a disk that is known as something has, or why it isn't read
abbrev pub contents_of : List ℕ → Known → Result ContentsIn ImageFault
contents_of disk Map = by_map disk (map_of disk)
contents_of disk OldMap = partitions_of disk (old_parts disk)
contents_of disk (Volume format) = of_format disk format
contents_of disk Udif = Err (Refused Udif)
contents_of disk Encrypted = Err (Refused Encrypted)
contents_of disk Sparse = Err (Refused Sparse)
contents_of disk RawCd = Err (Refused RawCd)
contents_of disk DiskCopy = Err (Refused DiskCopy)
contents_of disk Iso = Err (Refused Iso)
contents_of disk Other = Err (Refused Other)

-- What a reading of these gives, in a file.
abbrev pub found_in : List ℕ → Result Found ImageFault → Result VolumeIn ImageFault
found_in file (Ok found) = Ok (record { format = found.format; bytes = bytes_in found.view file })
found_in file (Err fault) = Err fault

abbrev pub placed_in : List ℕ → Placed → PlacedIn
placed_in file placed = record { part = placed.part; start = placed.start; found = found_in file placed.found }

abbrev pub contents_in : List ℕ → Contents → ContentsIn
contents_in file contents = record { parts = contents.parts.items; volumes = map (placed_in file) contents.volumes.items }

-- a volume lies within a file of so many bytes
abbrev pub IsThere : ℕ → Result Found ImageFault → Type 0
IsThere size (Ok found) = IsView found.view × (found.view.file ≡ size)
IsThere size (Err fault) = ⊤

abbrev pub IsPlaced : ℕ → Placed → Type 0
IsPlaced size placed = IsThere size placed.found

-- what was found of the volume at an index
abbrev pub IsVolumeAt : ℕ → List Placed → Result Found ImageFault → Type 0
IsVolumeAt index volumes found = (other : Placed) → (slice_index_or volumes index other).found ≡ found

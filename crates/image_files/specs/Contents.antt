-- What an image has: volumes, with their folders and files.
use Rattle.std.specs.Prelude.{◌≡◌, ℕ, List, length, map, Result, Ok, Err, MatchResult}
use Rattle.disk_image.specs.declared.fault.ImageFault.{ImageFault}
use Rattle.disk_image.specs.declared.fault.ImageFault.TheVariants.{Refused}
use Rattle.disk_image.specs.declared.fault.OpenFault.{OpenFault}
use Rattle.disk_image.specs.declared.known.Format.{Format}
use Rattle.disk_image.specs.declared.known.Format.TheVariants as format
use Rattle.disk_image.specs.declared.known.Known.TheVariants.{Volume as KnownVolume}
use Rattle.disk_image.specs.declared.part.Part.{Part}
use Rattle.disk_image.specs.declared.place.Placed.{Placed}
use Rattle.disk_image.specs.Devices.{bytes_in}
use Rattle.disk_image.specs.Images.{VolumeIn, PlacedIn, ContentsIn, placed_in}
use Rattle.disk_image.specs.Known.{known_as}
use Rattle.disk_image.specs.Opening.{image_in, Refuses}
use Rattle.hfs_volume.specs.Opening.{read_of}
use Rattle.hfs_volume.specs.Volume as hfs
use Rattle.hfs_volume.specs.declared.fault.VolumeFault.{VolumeFault}
use Rattle.mfs_volume.specs.Volume as mfs
use Rattle.mfs_volume.specs.declared.fault.MfsFault.{MfsFault}
use Rattle.hfs_volume.specs.declared.entry.Entry.{Entry}
use Rattle.volume_names.specs.Things.{things_of}
use Rattle.image_files.specs.declared.contents.Contents.{Contents}
use Rattle.image_files.specs.declared.files.Files.{Files}
use Rattle.image_files.specs.declared.files.Files.TheVariants as files
use Rattle.image_files.specs.declared.volume.PlacedVolume.{PlacedVolume}
use Rattle.image_files.specs.declared.volume.VolumeFiles.{VolumeFiles}
use Rattle.image_files.specs.declared.files.VolumeRefusal.{VolumeRefusal}
use Rattle.image_files.specs.declared.files.VolumeRefusal.TheVariants.{Partition, Hfs, Mfs}

-- the folders and files of a volume, in its own order
pub data FilesRead : Type 0 where
  OfHfs : hfs.VolumeRead → List Entry → FilesRead
  OfMfs : mfs.VolumeRead → FilesRead

-- a volume with its bytes
pub record VolumeHas : Type 0 where
  pub bytes : List ℕ
  pub files : FilesRead

-- a volume of a disk, or the first condition that doesn't hold of it
pub record PlacedRead : Type 0 where
  pub part : ℕ
  pub start : ℕ
  pub found : Result VolumeHas VolumeRefusal

pub record ContentsRead : Type 0 where
  pub parts : List Part
  pub volumes : List PlacedRead

-- what bytes are that are read as a volume of HFS, or of MFS
abbrev pub of_hfs : Result hfs.VolumeRead VolumeFault → Result FilesRead VolumeRefusal
of_hfs (Ok volume) = Ok (OfHfs volume (things_of volume.entries))
of_hfs (Err fault) = Err (Hfs fault)

abbrev pub of_mfs : Result mfs.VolumeRead MfsFault → Result FilesRead VolumeRefusal
of_mfs (Ok volume) = Ok (OfMfs volume)
of_mfs (Err fault) = Err (Mfs fault)

abbrev pub files_of : Format → List ℕ → Result FilesRead VolumeRefusal
files_of format.Hfs bytes = of_hfs (hfs.volume_in bytes)
files_of format.Mfs bytes = of_mfs (mfs.volume_in bytes)
files_of format.HfsPlus bytes = Err (Partition (Refused (KnownVolume format.HfsPlus)))

abbrev pub with_bytes : List ℕ → Result FilesRead VolumeRefusal → Result VolumeHas VolumeRefusal
with_bytes bytes (Ok files) = Ok (record { bytes = bytes; files = files })
with_bytes bytes (Err refusal) = Err refusal

abbrev pub volume_of : Result VolumeIn ImageFault → Result VolumeHas VolumeRefusal
volume_of (Ok volume) = with_bytes volume.bytes (files_of volume.format volume.bytes)
volume_of (Err fault) = Err (Partition fault)

abbrev pub placed_of : PlacedIn → PlacedRead
placed_of placed = record { part = placed.part; start = placed.start; found = volume_of placed.found }

abbrev pub contents_of : Result ContentsIn ImageFault → Result ContentsRead ImageFault
contents_of (Ok contents) = Ok (record { parts = contents.parts; volumes = map placed_of contents.volumes })
contents_of (Err fault) = Err fault

-- what an image has, or the first condition that doesn't hold of it
unfoldable pub contents_in : List ℕ → Result ContentsRead ImageFault
contents_in file = contents_of (image_in file)

-- What a reading gives.
abbrev pub files_read : Files → FilesRead
files_read (files.Hfs volume things) = OfHfs (read_of volume) things.items
files_read (files.Mfs volume) = OfMfs (mfs.read_of volume)

abbrev pub result_read : Result Files VolumeRefusal → Result FilesRead VolumeRefusal
result_read (Ok files) = Ok (files_read files)
result_read (Err refusal) = Err refusal

abbrev pub volume_read : List ℕ → Result VolumeFiles VolumeRefusal → Result VolumeHas VolumeRefusal
volume_read file (Ok volume) = Ok (record { bytes = bytes_in volume.view file; files = files_read volume.files })
volume_read file (Err refusal) = Err refusal

abbrev pub placed_read : List ℕ → PlacedVolume → PlacedRead
placed_read file placed = record { part = placed.part; start = placed.start; found = volume_read file placed.found }

abbrev pub contents_read : List ℕ → Contents → ContentsRead
contents_read file contents = record { parts = contents.parts.items; volumes = map (placed_read file) contents.volumes.items }

-- what a volume that was found in a file has
abbrev pub placed_now : List ℕ → Placed → PlacedRead
placed_now file placed = placed_of (placed_in file placed)

-- the bytes are this image
pub record IsContents (file : List ℕ) (contents : Contents) : Type 0 where
  pub size : contents.size ≡ length file
  pub known : contents.known ≡ known_as file
  pub read : contents_in file ≡ Ok (contents_read file contents)

-- the bytes are this image, or are refused for this
abbrev pub ReadsAs : Result Contents OpenFault → List ℕ → Type 0
ReadsAs result file = MatchResult result (IsContents file) (Refuses file)

-- Files as the bytes of a container.
use Rattle.std.specs.Prelude.{ℕ, ◌+◌, nat_lt, Bool, true, false, if◌then◌else◌, List, [], slice_get, Option, None, Some, Result, Ok, Err}
use Rattle.disk_image.specs.Devices.{bytes_in}
use Rattle.hfs_volume.specs.declared.entry.Which.{Which}
use Rattle.hfs_volume.specs.declared.entry.Which.TheVariants as which
use Rattle.mac_write.specs.declared.refusal.Refusal.{Refusal}
use Rattle.mac_write.specs.declared.target.Target.TheVariants.{MacBinary, AppleSingle}
use Rattle.mac_write.specs.Parts.{Parts}
use Rattle.mac_write.specs.Targets.{text_of, unwritten}
use Rattle.image_files.specs.declared.contents.Contents.{Contents}
use Rattle.image_files.specs.declared.contents.Place.{Place}
use Rattle.image_files.specs.declared.file.FileHere.{FileHere}
use Rattle.image_files.specs.declared.file.Forks.{Forks}
use Rattle.image_files.specs.declared.file.Forks.TheVariants as forks
use Rattle.image_files.specs.declared.files.VolumeRefusal.{VolumeRefusal}
use Rattle.image_files.specs.declared.item.FileInfo.{FileInfo}
use Rattle.image_files.specs.declared.item.Info.{Info}
use Rattle.image_files.specs.declared.item.Info.TheVariants as info
use Rattle.image_files.specs.declared.refusal.FileRefusal.{FileRefusal}
use Rattle.image_files.specs.declared.refusal.FileRefusal.TheVariants.{NoFile, TooLong, Unwritten}
use Rattle.image_files.specs.declared.volume.PlacedVolume.{PlacedVolume}
use Rattle.image_files.specs.declared.volume.VolumeFiles.{VolumeFiles}
use Rattle.image_files.specs.Forks.{fork_of}
use Rattle.image_files.specs.Items.{fork_size}
use Rattle.image_files.specs.Looks.{name_bytes, thing_info}

-- a file: its volume, which of the things of this it is, its name, and what the volume says of it
pub record FileIn : Type 0 where
  pub volume : VolumeFiles
  pub thing : ℕ
  pub name : List ℕ
  pub info : FileInfo

abbrev pub if_read : Result VolumeFiles VolumeRefusal → Option VolumeFiles
if_read (Ok volume) = Some volume
if_read (Err refusal) = None

-- the volume of a number, if it is read
abbrev pub volume_with : Option PlacedVolume → Option VolumeFiles
volume_with None = None
volume_with (Some placed) = if_read placed.found

abbrev pub volume_at : Contents → ℕ → Option VolumeFiles
volume_at contents number = volume_with (slice_get contents.volumes.items number)

-- a thing that is a file
abbrev pub if_file : VolumeFiles → ℕ → Option (List ℕ) → Option Info → Option FileIn
if_file volume thing None said = None
if_file volume thing (Some name) None = None
if_file volume thing (Some name) (Some (info.Folder folder)) = None
if_file volume thing (Some name) (Some (info.File file)) = Some (record { volume = volume; thing = thing; name = name; info = file })

abbrev pub file_with : Option VolumeFiles → ℕ → Option FileIn
file_with None thing = None
file_with (Some volume) thing = if_file volume thing (name_bytes volume.files thing) (thing_info volume.files thing)

-- the file at a place
abbrev pub file_at : Contents → Place → Option FileIn
file_at contents place = file_with (volume_at contents place.volume) place.thing

-- a fork of a file whose image is in these bytes
abbrev pub fork_in : List ℕ → FileIn → Which → Result (List ℕ) FileRefusal
fork_in bytes file which = fork_of (bytes_in file.volume.view bytes) file.volume.files file.thing which

-- no more bytes than the limit
abbrev pub within_limit : {T : Type 0} → ℕ → ℕ → Result T FileRefusal → Result T FileRefusal
within_limit limit length said = if nat_lt limit length then Err (TooLong length limit) else said

abbrev pub fork_of_file : List ℕ → Option FileIn → Which → ℕ → Result (List ℕ) FileRefusal
fork_of_file bytes None which limit = Err NoFile
fork_of_file bytes (Some file) which limit = within_limit limit (fork_size file.info which) (fork_in bytes file which)

-- the forks that are asked for
abbrev pub has_fork : Forks → Which → Bool
has_fork forks.Both which = true
has_fork forks.Data which.Data = true
has_fork forks.Data which.Resource = false
has_fork forks.Resource which.Data = false
has_fork forks.Resource which.Resource = true

abbrev pub asked_size : FileInfo → Forks → ℕ
asked_size file asked = (if has_fork asked which.Data then file.data_size else 0) + (if has_fork asked which.Resource then file.resource_size else 0)

-- another fork has no bytes
abbrev pub fork_if : List ℕ → FileIn → Forks → Which → Result (List ℕ) FileRefusal
fork_if bytes file asked which = if has_fork asked which then fork_in bytes file which else Ok []

-- what a file is, out of any container
abbrev pub parts_of : FileIn → List ℕ → List ℕ → Parts
parts_of file data_fork resource_fork = record {
  name = file.name;
  finder = file.info.finder;
  created = file.info.created;
  modified = file.info.changed;
  comment = [];
  data_fork = data_fork;
  resource_fork = resource_fork;
}

-- in MacBinary, or in AppleSingle where only this can hold it
abbrev pub in_single : Parts → Refusal → Option Refusal → Result (List ℕ) FileRefusal
in_single parts refusal None = Ok (text_of AppleSingle parts)
in_single parts refusal (Some other) = Err (Unwritten refusal)

abbrev pub in_binary : Parts → Option Refusal → Result (List ℕ) FileRefusal
in_binary parts None = Ok (text_of MacBinary parts)
in_binary parts (Some refusal) = in_single parts refusal (unwritten AppleSingle parts)

abbrev pub contained : Parts → Result (List ℕ) FileRefusal
contained parts = in_binary parts (unwritten MacBinary parts)

-- the data fork, then the resource fork, and both in a container
abbrev pub with_resource : FileIn → List ℕ → Result (List ℕ) FileRefusal → Result (List ℕ) FileRefusal
with_resource file data_fork (Ok resource_fork) = contained (parts_of file data_fork resource_fork)
with_resource file data_fork (Err refusal) = Err refusal

abbrev pub with_data : FileIn → Result (List ℕ) FileRefusal → Result (List ℕ) FileRefusal → Result (List ℕ) FileRefusal
with_data file (Ok data_fork) resource_fork = with_resource file data_fork resource_fork
with_data file (Err refusal) resource_fork = Err refusal

abbrev pub file_in : List ℕ → FileIn → Forks → ℕ → Result (List ℕ) FileRefusal
file_in bytes file asked limit =
    within_limit limit (asked_size file.info asked) (with_data file (fork_if bytes file asked which.Data) (fork_if bytes file asked which.Resource))

-- a file of an image as the bytes of a container, or why it isn't read
abbrev pub file_of : List ℕ → Option FileIn → Forks → ℕ → Result (List ℕ) FileRefusal
file_of bytes None asked limit = Err NoFile
file_of bytes (Some file) asked limit = file_in bytes file asked limit

-- what the code has of a file
abbrev pub here : FileHere → FileIn
here file = record { volume = file.volume.now; thing = file.thing; name = file.name.now; info = file.info }

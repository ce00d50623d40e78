-- What an MFS volume has, and where the bytes of its forks are.
use Rattle.std.specs.Prelude.{◌≡◌, ℕ, ◌+◌, ◌*◌, nat_lt, not, if◌then◌else◌, List, [], length, take, ⊤, Option, None, Some, Result, Ok, Err, MatchResult}
use Rattle.std.specs.List.{list_all}
use Rattle.disk_ranges.specs.declared.read.Range.{Range}
use Rattle.disk_ranges.specs.Ranges.{bytes_of, total, AreWithin}
use Rattle.fork_disk.specs.Disk.{bytes_at}
use Rattle.hfs_tree.specs.declared.extent.Extent.{Extent}
use Rattle.hfs_tree.specs.Reads.{cause_of}
use Rattle.hfs_volume.specs.declared.entry.Which.{Which}
use Rattle.hfs_volume.specs.Forks.{bytes_in, ranges_in, is_there}
use Rattle.hfs_volume.specs.Volume.{blocks_for}
use Rattle.mfs_volume.specs.declared.directory.MfsFile.{MfsFile}
use Rattle.mfs_volume.specs.declared.fault.ChainFault.{ChainFault}
use Rattle.mfs_volume.specs.declared.fault.ChainFault.TheVariants.{Chain, There}
use Rattle.mfs_volume.specs.declared.fault.MfsFault.{MfsFault}
use Rattle.mfs_volume.specs.declared.fault.NotMfs.{NotMfs}
use Rattle.mfs_volume.specs.declared.fault.NotMfs.TheVariants as not_mfs
use Rattle.mfs_volume.specs.declared.info.Info.{Info}
use Rattle.mfs_volume.specs.declared.volume.MfsVolume.{MfsVolume}
use Rattle.mfs_volume.specs.Chain.{extents_from}
use Rattle.mfs_volume.specs.Directory.{Entries, entries_in, first_block, size_of}
use Rattle.mfs_volume.specs.Info.{layout_of, map_size, directory_place, directory_size, info_fault, info_of}

-- What a volume is read as.
pub record VolumeRead : Type 0 where
  pub size : ℕ
  pub info : Info
  pub map : List ℕ
  pub files : List MfsFile

-- the map comes after 64 bytes of the information
abbrev pub map_of : List ℕ → Info → List ℕ
map_of volume info = bytes_at (map_size info) (info.place + 64) volume

-- the entries of the directory
abbrev pub entries_of : List ℕ → Info → Entries
entries_of volume info =
    entries_in (directory_place info) (bytes_at (directory_size info * 512) (directory_place info) volume) (directory_size info) 0

abbrev pub unless_fault : List ℕ → Info → List MfsFile → Option MfsFault → Result VolumeRead MfsFault
unless_fault volume info files None = Ok (record { size = length volume; info = info; map = map_of volume info; files = files })
unless_fault volume info files (Some fault) = Err fault

abbrev pub unless_wrong : List ℕ → Info → Option MfsFault → Result VolumeRead MfsFault
unless_wrong volume info (Some fault) = Err fault
unless_wrong volume info None = unless_fault volume info (entries_of volume info).files (entries_of volume info).fault

abbrev pub read_with : List ℕ → Result Info MfsFault → Result VolumeRead MfsFault
read_with volume (Err fault) = Err fault
read_with volume (Ok info) = unless_wrong volume info (info_fault (length volume) info)

-- a volume, or the first condition that doesn't hold
abbrev pub volume_in : List ℕ → Result VolumeRead MfsFault
volume_in volume = read_with volume (info_of volume)

abbrev pub read_of : MfsVolume → VolumeRead
read_of found = record { size = found.size; info = found.info; map = found.map.items; files = found.files.items }

-- the bytes are refused for this
abbrev pub Refuses : List ℕ → NotMfs → Type 0
Refuses volume (not_mfs.Volume fault) = volume_in volume ≡ Err fault
Refuses volume (not_mfs.Read fault) = ⊤

-- the bytes are this volume
pub record IsVolume (volume : List ℕ) (found : MfsVolume) : Type 0 where
  pub read : volume_in volume ≡ Ok (read_of found)
  pub size : found.size ≡ length volume

-- the bytes are this volume, or are refused for this
abbrev pub OpensAs : Result MfsVolume NotMfs → List ℕ → Type 0
OpensAs result volume = MatchResult result (IsVolume volume) (Refuses volume)

-- the count of failures rose where the device failed, and only there
abbrev pub cause_in : ℕ → ℕ → NotMfs → Type 0
cause_in before now (not_mfs.Volume fault) = now ≡ before
cause_in before now (not_mfs.Read fault) = cause_of before now fault

abbrev pub CountsOpening : ℕ → ℕ → Result MfsVolume NotMfs → Type 0
CountsOpening before now result = MatchResult result (λ _. now ≡ before) (cause_in before now)

-- the extents of a file's fork
abbrev pub extents_of : VolumeRead → MfsFile → Which → Option (List Extent)
extents_of volume file which = extents_from volume.map (blocks_for (layout_of volume.info) (size_of file which)) [] (first_block file which)

-- the first condition that doesn't hold of a fork with these extents: its blocks are there and have enough bytes, and
-- the volume has these
abbrev pub extents_fault : VolumeRead → MfsFile → Which → Option (List Extent) → Option ChainFault
extents_fault volume file which None = Some (Chain file.place)
extents_fault volume file which (Some extents) = let layout = layout_of volume.info in let size = size_of file which in
    if nat_lt (blocks_for layout size * layout.size) size then Some (Chain file.place)
    else if not (list_all (is_there volume.size) (ranges_in layout size extents)) then Some (There file.place) else None

abbrev pub fork_fault : VolumeRead → MfsFile → Which → Option ChainFault
fork_fault volume file which = extents_fault volume file which (extents_of volume file which)

-- the bytes of a file's fork: those of its blocks, cut to its length
abbrev pub bytes_with : List ℕ → VolumeRead → MfsFile → Which → Option (List Extent) → List ℕ
bytes_with bytes volume file which None = []
bytes_with bytes volume file which (Some extents) = take (size_of file which) (bytes_in bytes (layout_of volume.info) extents)

abbrev pub fork_bytes : List ℕ → VolumeRead → MfsFile → Which → List ℕ
fork_bytes bytes volume file which = bytes_with bytes volume file which (extents_of volume file which)

-- These ranges lie within the volume, they have as many bytes as the fork, and these are the fork's.
pub record HasFork (volume : VolumeRead) (file : MfsFile) (which : Which) (ranges : List Range) : Type 0 where
  pub sound : fork_fault volume file which ≡ None
  pub within : AreWithin volume.size ranges
  pub whole : total ranges ≡ size_of file which
  pub same : (bytes : List ℕ) → length bytes ≡ volume.size → bytes_of ranges bytes ≡ fork_bytes bytes volume file which

-- A fork of a file in a volume that is a part of a disk.
use Rattle.std.specs.Prelude.{◌≡◌, ℕ, List, None}
use Rattle.disk_ranges.specs.Ranges.{RangesOn, bytes_of}
use Rattle.fork_disk.specs.declared.disk.ForkDisk.{Ghosts}
use Rattle.hfs_volume.specs.declared.entry.Entry.{Entry}
use Rattle.hfs_volume.specs.declared.entry.Which.{Which}
use Rattle.hfs_volume.specs.Forks.{fork_bytes, fork_fault}
use Rattle.hfs_volume.specs.Volume.{VolumeRead}

-- These ranges of the disk are the fork of a file in a volume with these bytes: where the disk is honest, they have the
-- fork's bytes.
pub record IsFork {D : Type 0} (disk : Ghosts D) (d : D) (bytes : List ℕ) (volume : VolumeRead) (file : Entry) (which : Which) (fork : RangesOn D) : Type 0 where
  pub sound : fork_fault volume file which ≡ None
  pub on : fork.disk ≡ d
  pub same : disk.is_honest d → bytes_of fork.ranges (disk.seen d) ≡ fork_bytes bytes volume file which

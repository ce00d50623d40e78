-- Forks that are read.
use Rattle.std.proofs.Common.{◌≡◌, ℕ, List, length, take, Some, Result, Ok, refl, sym, ap, ◌∙◌, subst}
use Rattle.std.proofs.Math.Seq.{take-length}
use Rattle.std.specs.List.{AllByRecursion}
use Rattle.disk_ranges.specs.declared.read.Range.{Range}
use Rattle.disk_ranges.specs.Ranges.{HasRanges, IsInDisk, bytes_of, total}
use Rattle.disk_ranges.proofs.Whole.{length_is}
use Rattle.fork_disk.specs.Disk.{bytes_at}
use Rattle.hfs_volume.specs.declared.entry.Entry.{Entry}
use Rattle.hfs_volume.specs.declared.entry.Which.{Which}
use Rattle.hfs_volume.specs.declared.fault.ForkFault.{ForkFault}
use Rattle.hfs_volume.specs.declared.volume.Volume.{Volume}
use Rattle.hfs_volume.specs.Forks as hfs
use Rattle.hfs_volume.specs.Opening.{read_of as hfs_read}
use Rattle.mfs_volume.specs.declared.directory.MfsFile.{MfsFile}
use Rattle.mfs_volume.specs.declared.fault.ChainFault.{ChainFault}
use Rattle.mfs_volume.specs.declared.volume.MfsVolume.{MfsVolume}
use Rattle.mfs_volume.specs.Volume as mfs
use Rattle.image_files.specs.declared.refusal.FileRefusal.{FileRefusal}
use Rattle.image_files.specs.declared.refusal.FileRefusal.TheVariants.{Fork, Chain}
use Rattle.image_files.specs.Forks.{AreRanges, StopsFor, hfs_said, mfs_said}

-- the ranges of a fork without a fault
pub hfs_ranges : (volume : Volume) (entry : Entry) (which : Which) (ranges : List Range) → hfs.HasFork (hfs_read volume) entry which ranges → AreRanges volume.size (hfs_said volume entry which) ranges
hfs_ranges volume entry which ranges has = record {
  within = has.within;
  same = λ bytes size. rw has.sound (ap (λ (b : List ℕ). Ok b) (sym (has.same bytes size)));
}

pub mfs_ranges : (volume : MfsVolume) (file : MfsFile) (which : Which) (ranges : List Range) → mfs.HasFork (mfs.read_of volume) file which ranges → AreRanges volume.size (mfs_said volume file which) ranges
mfs_ranges volume file which ranges has = record {
  within = has.within;
  same = λ bytes size. rw has.sound (ap (λ (b : List ℕ). Ok b) (sym (has.same bytes size)));
}

-- and one with a fault
pub hfs_fault : (volume : Volume) (entry : Entry) (which : Which) (fault : ForkFault) → hfs.fork_fault (hfs_read volume) entry which ≡ Some fault → (bytes : List ℕ) → StopsFor (hfs_said volume entry which bytes) (Fork which fault)
hfs_fault volume entry which fault is bytes = rw is refl

pub mfs_fault : (volume : MfsVolume) (file : MfsFile) (which : Which) (fault : ChainFault) → mfs.fork_fault (mfs.read_of volume) file which ≡ Some fault → (bytes : List ℕ) → StopsFor (mfs_said volume file which bytes) (Chain which fault)
mfs_fault volume file which fault is bytes = rw is refl

-- ranges of a volume that is ranges of a file
module _ (outer inner ranges : List Range) (file : List ℕ) (size : ℕ) (said : List ℕ → Result (List ℕ) FileRefusal) (are : AreRanges size said inner) (has : HasRanges outer inner ranges)
    (inside : AllByRecursion (IsInDisk (length file)) outer) (whole : size ≡ total outer) where
  volume_size : length (bytes_of outer file) ≡ size
  volume_size = length_is outer file inside ∙ sym whole

  -- they have as many bytes
  pub length_within : length (bytes_of ranges file) ≡ total inner
  length_within =
      ap (λ (b : List ℕ). length b) (has.bytes file inside)
      ∙ length_is inner (bytes_of outer file) (subst (λ (n : ℕ). AllByRecursion (IsInDisk n) inner) (sym volume_size) are.within.inside)

  -- and a buffer with all of these has the fork
  pub fork_read : (count : ℕ) (bytes : List ℕ) → total inner ≡ count → bytes ≡ bytes_at count 0 (bytes_of ranges file) → said (bytes_of outer file) ≡ Ok bytes
  fork_read count bytes many is =
      are.same (bytes_of outer file) volume_size
      ∙ ap (λ (b : List ℕ). Ok b) (sym (has.bytes file inside) ∙ sym (is ∙ ap (λ (n : ℕ). take n (bytes_of ranges file)) (sym many ∙ sym length_within) ∙ take-length (bytes_of ranges file)))

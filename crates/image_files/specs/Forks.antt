-- The forks of files.
use Rattle.std.specs.Prelude.{◌≡◌, ⊤, ℕ, List, length, slice_get, Option, None, Some, Result, Ok, Err, MatchResult}
use Rattle.std.specs.Global.{Vec}
use Rattle.disk_ranges.specs.declared.read.Range.{Range}
use Rattle.disk_ranges.specs.Ranges.{bytes_of, AreWithin}
use Rattle.fork_disk.specs.Disk.{Rose}
use Rattle.hfs_volume.specs.declared.entry.Entry.{Entry}
use Rattle.hfs_volume.specs.declared.entry.Which.{Which}
use Rattle.hfs_volume.specs.declared.volume.Volume.{Volume}
use Rattle.hfs_volume.specs.Forks as hfs
use Rattle.hfs_volume.specs.Opening.{read_of as hfs_read}
use Rattle.mfs_volume.specs.declared.directory.MfsFile.{MfsFile}
use Rattle.mfs_volume.specs.declared.volume.MfsVolume.{MfsVolume}
use Rattle.mfs_volume.specs.Volume as mfs
use Rattle.image_files.specs.declared.files.Files.{Files}
use Rattle.image_files.specs.declared.files.Files.TheVariants as files
use Rattle.image_files.specs.declared.refusal.FileRefusal.{FileRefusal}
use Rattle.image_files.specs.declared.refusal.FileRefusal.TheVariants.{NoFile, Fork, Chain, TooLong, Unwritten, Device, HostFull}
use Rattle.image_files.specs.declared.place.ForkRanges.{ForkRanges}

-- the bytes of a fork, unless it has a fault
abbrev pub unless_fault : {F : Type 0} → (F → FileRefusal) → List ℕ → Option F → Result (List ℕ) FileRefusal
unless_fault why bytes None = Ok bytes
unless_fault why bytes (Some fault) = Err (why fault)

abbrev pub hfs_said : Volume → Entry → Which → List ℕ → Result (List ℕ) FileRefusal
hfs_said volume entry which bytes =
    unless_fault (Fork which) (hfs.fork_bytes bytes (hfs_read volume) entry which) (hfs.fork_fault (hfs_read volume) entry which)

abbrev pub mfs_said : MfsVolume → MfsFile → Which → List ℕ → Result (List ℕ) FileRefusal
mfs_said volume file which bytes =
    unless_fault (Chain which) (mfs.fork_bytes bytes (mfs.read_of volume) file which) (mfs.fork_fault (mfs.read_of volume) file which)

abbrev pub hfs_fork : List ℕ → Volume → Which → Option Entry → Result (List ℕ) FileRefusal
hfs_fork bytes volume which None = Err NoFile
hfs_fork bytes volume which (Some thing) = hfs_said volume thing which bytes

abbrev pub mfs_fork : List ℕ → MfsVolume → Which → Option MfsFile → Result (List ℕ) FileRefusal
mfs_fork bytes volume which None = Err NoFile
mfs_fork bytes volume which (Some file) = mfs_said volume file which bytes

-- a fork of a thing of a volume with these bytes, or why it isn't read
abbrev pub fork_of : List ℕ → Files → ℕ → Which → Result (List ℕ) FileRefusal
fork_of bytes (files.Hfs volume things) thing which = hfs_fork bytes volume which (slice_get things.items thing)
fork_of bytes (files.Mfs volume) thing which = mfs_fork bytes volume which (slice_get volume.files.items thing)

-- These ranges lie within a volume of so many bytes, and are what is said of its bytes.
pub record AreRanges (size : ℕ) (said : List ℕ → Result (List ℕ) FileRefusal) (ranges : List Range) : Type 0 where
  pub within : AreWithin size ranges
  pub same : (bytes : List ℕ) → length bytes ≡ size → said bytes ≡ Ok (bytes_of ranges bytes)

-- a reading stops for this, unless the device failed or memory ran out
abbrev pub StopsFor : Result (List ℕ) FileRefusal → FileRefusal → Type 0
StopsFor said Device = ⊤
StopsFor said HostFull = ⊤
StopsFor said NoFile = said ≡ Err NoFile
StopsFor said (Fork which fault) = said ≡ Err (Fork which fault)
StopsFor said (Chain which fault) = said ≡ Err (Chain which fault)
StopsFor said (TooLong length limit) = said ≡ Err (TooLong length limit)
StopsFor said (Unwritten refusal) = said ≡ Err (Unwritten refusal)

-- it gives just these bytes, or stops so
abbrev pub Gives : Result (List ℕ) FileRefusal → Result (Vec ℕ) FileRefusal → Type 0
Gives said result = MatchResult result (λ bytes. said ≡ Ok bytes.items) (StopsFor said)

-- the count of failures rose where the device failed, and only there
abbrev pub cause_of : ℕ → ℕ → FileRefusal → Type 0
cause_of before now Device = Rose before now
cause_of before now HostFull = now ≡ before
cause_of before now NoFile = now ≡ before
cause_of before now (Fork which fault) = now ≡ before
cause_of before now (Chain which fault) = now ≡ before
cause_of before now (TooLong length limit) = now ≡ before
cause_of before now (Unwritten refusal) = now ≡ before

abbrev pub CountsFile : {T : Type 0} → ℕ → ℕ → Result T FileRefusal → Type 0
CountsFile before now result = MatchResult result (λ _. now ≡ before) (cause_of before now)

-- where the bytes of a fork are, or why it isn't read, whatever the bytes are
abbrev pub IsPlaced : ℕ → (List ℕ → Result (List ℕ) FileRefusal) → Result ForkRanges FileRefusal → Type 0
IsPlaced size said result = MatchResult result (λ fork. AreRanges size said fork.ranges.items) (λ refusal. (bytes : List ℕ) → StopsFor (said bytes) refusal)

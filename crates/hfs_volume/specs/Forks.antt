-- Where the bytes of forks are.
use Rattle.std.specs.Prelude.{◌≡◌, ℕ, ◌+◌, ◌-◌, ◌*◌, ◌==◌, min, nat_le, nat_lt, not, if◌then◌else◌, Bool, List, [], ◌∷◌, ◌++◌, length, take, Option, None, Some}
use Rattle.std.specs.List.{list_all}
use Rattle.disk_ranges.specs.declared.read.Range.{Range}
use Rattle.disk_ranges.specs.Ranges.{bytes_of, total, AreWithin}
use Rattle.fork_disk.specs.Disk.{bytes_at}
use Rattle.hfs_tree.specs.declared.extent.Extent.{Extent}
use Rattle.hfs_tree.specs.declared.extent.Layout.{Layout}
use Rattle.hfs_volume.specs.declared.entry.Entry.{Entry}
use Rattle.hfs_volume.specs.declared.entry.Which.{Which}
use Rattle.hfs_volume.specs.declared.fault.ForkFault.{ForkFault}
use Rattle.hfs_volume.specs.declared.fault.ForkFault.TheVariants.{Cover, Blocks, There}
use Rattle.hfs_volume.specs.Entries.{id_of, size_of, key_of, first_extents_of}
use Rattle.hfs_volume.specs.Overflow.{block_count, fork_extents}
use Rattle.hfs_volume.specs.Volume.{VolumeRead, layout_of, blocks_for}

-- the extents of a file's fork
abbrev pub extents_of : VolumeRead → Entry → Which → List Extent
extents_of volume file which = let needed = blocks_for (layout_of volume.mdb) (size_of file which) in
    fork_extents needed volume.overflow (id_of file) (key_of which) needed (first_extents_of file which)

-- the bytes of extents, one after another
unfoldable pub bytes_in : List ℕ → Layout → List Extent → List ℕ
bytes_in bytes layout [] = []
bytes_in bytes layout (extent ∷ extents) =
    bytes_at (extent.count * layout.size) (layout.offset + extent.start * layout.size) bytes ++ bytes_in bytes layout extents

-- the bytes of a file's fork: those of its extents, cut to its length
abbrev pub fork_bytes : List ℕ → VolumeRead → Entry → Which → List ℕ
fork_bytes bytes volume file which = take (size_of file which) (bytes_in bytes (layout_of volume.mdb) (extents_of volume file which))

-- extents cut to so many blocks
unfoldable pub cut_to : ℕ → List Extent → List Extent
cut_to blocks [] = []
cut_to blocks (extent ∷ extents) =
    if blocks == 0 then [] else record { start = extent.start; count = min blocks extent.count } ∷ cut_to (blocks - extent.count) extents

-- an extent has blocks of the volume alone
abbrev pub is_in_volume : Layout → Extent → Bool
is_in_volume layout extent = nat_le (extent.start + extent.count) layout.count

-- where the bytes of extents are, of which so many count
unfoldable pub ranges_in : Layout → ℕ → List Extent → List Range
ranges_in layout size [] = []
ranges_in layout size (extent ∷ extents) =
    if size == 0 then []
    else record { at = layout.offset + extent.start * layout.size; length = min size (extent.count * layout.size) } ∷ ranges_in layout (size - extent.count * layout.size) extents

-- a range ends within so many bytes
abbrev pub is_there : ℕ → Range → Bool
is_there size range = nat_le (range.at + range.length) size

-- The first condition that doesn't hold of a fork: its extents have enough bytes, the blocks that it needs are the
-- volume's, and its bytes are there.
abbrev pub fork_fault : VolumeRead → Entry → Which → Option ForkFault
fork_fault volume file which =
    let layout = layout_of volume.mdb in
    let size = size_of file which in
    let extents = extents_of volume file which in
    if nat_lt (block_count extents * layout.size) size then Some (Cover file.place)
    else if not (list_all (is_in_volume layout) (cut_to (blocks_for layout size) extents)) then Some (Blocks file.place)
    else if not (list_all (is_there volume.size) (ranges_in layout size extents)) then Some (There file.place)
    else None

-- These ranges lie within the volume, they have as many bytes as the fork, and these are the fork's.
pub record HasFork (volume : VolumeRead) (file : Entry) (which : Which) (ranges : List Range) : Type 0 where
  pub sound : fork_fault volume file which ≡ None
  pub within : AreWithin volume.size ranges
  pub whole : total ranges ≡ size_of file which
  pub same : (bytes : List ℕ) → length bytes ≡ volume.size → bytes_of ranges bytes ≡ fork_bytes bytes volume file which

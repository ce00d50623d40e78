-- What an HFS volume has.
use Rattle.std.specs.Prelude.{ℕ, ◌+◌, ◌-◌, ◌*◌, ◌/◌, ◌%◌, ◌==◌, min, nat_lt, ◌&&◌, ◌||◌, not, if◌then◌else◌, Bool, true, false, List, length, slice_index, Option, None, Some, Result, Ok, Err}
use Rattle.std.specs.List.{slice_range}
use Rattle.byteorder.specs.Endian.{big_from}
use Rattle.fork_disk.specs.Disk.{bytes_at}
use Rattle.hfs_tree.specs.declared.extent.Extent.{Extent}
use Rattle.hfs_tree.specs.declared.extent.Layout.{Layout}
use Rattle.hfs_tree.specs.declared.fault.TreeFault.{TreeFault}
use Rattle.hfs_tree.specs.declared.leaf.Leaf.{Leaf}
use Rattle.hfs_tree.specs.declared.walk.Link.{Link}
use Rattle.hfs_tree.specs.Extents.{extents_at}
use Rattle.hfs_tree.specs.Leaves.{Leaves, first_link_of, leaves_of}
use Rattle.hfs_tree.specs.Rows.{RowsRead, rows_in}
use Rattle.hfs_volume.specs.declared.entry.Entry.{Entry}
use Rattle.hfs_volume.specs.declared.fault.VolumeFault.{VolumeFault}
use Rattle.hfs_volume.specs.declared.fault.VolumeFault.TheVariants.{Room, Signature, Wrapper, BlockSize, Catalog}
use Rattle.hfs_volume.specs.declared.mdb.Mdb.{Mdb}
use Rattle.hfs_volume.specs.declared.name.Name.{Name}
use Rattle.hfs_volume.specs.declared.overflow.Overflow.{Overflow}
use Rattle.hfs_volume.specs.Entries.{entry_at}
use Rattle.hfs_volume.specs.Names.{name_in}
use Rattle.hfs_volume.specs.Overflow.{overflow_at, fork_extents}

-- where allocation blocks are
abbrev pub layout_of : Mdb → Layout
layout_of mdb = record { offset = big_from 28 2 mdb.bytes * 512; size = big_from 20 4 mdb.bytes; count = big_from 18 2 mdb.bytes }

-- the name of a volume, of 27 bytes at most
abbrev pub volume_name : Mdb → Name
volume_name mdb = name_in (slice_range mdb.bytes 37 (37 + min 27 (slice_index mdb.bytes 36)))

-- what is wrong with a master directory block as such
abbrev pub mdb_fault : Mdb → Option VolumeFault
mdb_fault mdb = let size = big_from 20 4 mdb.bytes in
    if not (big_from 0 2 mdb.bytes == 0x4244) then Some (Signature mdb.place)
    else if big_from 124 2 mdb.bytes == 0x482B then Some (Wrapper (mdb.place + 124))
    else if (size == 0) || not (size % 512 == 0) then Some (BlockSize (mdb.place + 20))
    else None

-- it counts where the catalog has a header
abbrev pub with_header : Mdb → Result Link TreeFault → Result Mdb VolumeFault
with_header mdb (Ok link) = Ok mdb
with_header mdb (Err fault) = Err (Catalog fault)

abbrev pub unless_wrong : List ℕ → Mdb → Option VolumeFault → Result Mdb VolumeFault
unless_wrong volume mdb (Some fault) = Err fault
unless_wrong volume mdb None = with_header mdb (first_link_of volume (layout_of mdb) (extents_at 150 mdb.bytes) (mdb.place + 150))

-- the master directory block at a place
abbrev pub mdb_at : List ℕ → ℕ → Result Mdb VolumeFault
mdb_at volume place = let mdb : Mdb = record { place = place; bytes = bytes_at 512 place volume } in unless_wrong volume mdb (mdb_fault mdb)

-- where its copy is
abbrev pub copy_place : ℕ → ℕ
copy_place size = (size / 512 - 2) * 512

-- a volume that wraps another has no use for its copy
abbrev pub wants_copy : VolumeFault → Bool
wants_copy (Room size) = false
wants_copy (Signature place) = true
wants_copy (Wrapper place) = false
wants_copy (BlockSize place) = true
wants_copy (Catalog fault) = true

abbrev pub unless_both : VolumeFault → Result Mdb VolumeFault → Result Mdb VolumeFault
unless_both fault (Ok mdb) = Ok mdb
unless_both fault (Err other) = Err fault

abbrev pub or_copy : List ℕ → Result Mdb VolumeFault → Result Mdb VolumeFault
or_copy volume (Ok mdb) = Ok mdb
or_copy volume (Err fault) =
    if wants_copy fault && nat_lt 1024 (copy_place (length volume)) then unless_both fault (mdb_at volume (copy_place (length volume))) else Err fault

-- the master directory block of a volume, or its copy where that counts alone
abbrev pub mdb_of : List ℕ → Result Mdb VolumeFault
mdb_of volume = if nat_lt (length volume) 1536 then Err (Room (length volume)) else or_copy volume (mdb_at volume 1024)

-- the records of the extents tree, which has no more extents than the master directory block says
abbrev pub rows_of : {T : Type 0} → (Leaf → ℕ → Result T TreeFault) → Leaves → RowsRead T
rows_of row_of read = rows_in row_of read.leaves read.fault

abbrev pub overflow_of : List ℕ → Mdb → List Overflow
overflow_of volume mdb = (rows_of overflow_at (leaves_of volume (layout_of mdb) (extents_at 134 mdb.bytes) (mdb.place + 134))).rows

-- how many blocks so many bytes need
abbrev pub blocks_for : Layout → ℕ → ℕ
blocks_for layout size = (size + layout.size - 1) / layout.size

-- the extents of the catalog
abbrev pub catalog_extents : List Overflow → Mdb → List Extent
catalog_extents rows mdb = let needed = blocks_for (layout_of mdb) (big_from 146 4 mdb.bytes) in fork_extents needed rows 4 0 needed (extents_at 150 mdb.bytes)

-- the records of the catalog, and its fault
abbrev pub catalog_of : List ℕ → Mdb → RowsRead Entry
catalog_of volume mdb =
    rows_of entry_at (leaves_of volume (layout_of mdb) (catalog_extents (overflow_of volume mdb) mdb) (mdb.place + 150))

-- What a volume is read as.
pub record VolumeRead : Type 0 where
  pub size : ℕ
  pub mdb : Mdb
  pub overflow : List Overflow
  pub entries : List Entry

abbrev pub unless_fault : List ℕ → Mdb → RowsRead Entry → Option TreeFault → Result VolumeRead VolumeFault
unless_fault volume mdb read None = Ok (record { size = length volume; mdb = mdb; overflow = overflow_of volume mdb; entries = read.rows })
unless_fault volume mdb read (Some fault) = Err (Catalog fault)

abbrev pub read_with : List ℕ → Result Mdb VolumeFault → Result VolumeRead VolumeFault
read_with volume (Err fault) = Err fault
read_with volume (Ok mdb) = let read = catalog_of volume mdb in unless_fault volume mdb read read.fault

-- a volume, or the first condition that doesn't hold
abbrev pub volume_in : List ℕ → Result VolumeRead VolumeFault
volume_in volume = read_with volume (mdb_of volume)

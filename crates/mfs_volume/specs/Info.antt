-- The volume information.
use Rattle.std.specs.Prelude.{ℕ, ◌+◌, ◌*◌, ◌/◌, ◌%◌, ◌==◌, min, nat_lt, ◌&&◌, ◌||◌, not, if◌then◌else◌, Bool, List, length, slice_index, Option, None, Some, Result, Ok, Err}
use Rattle.std.specs.List.{slice_range}
use Rattle.byteorder.specs.Endian.{big_from}
use Rattle.fork_disk.specs.Disk.{bytes_at}
use Rattle.hfs_tree.specs.declared.extent.Layout.{Layout}
use Rattle.hfs_volume.specs.declared.name.Name.{Name}
use Rattle.hfs_volume.specs.Names.{name_in}
use Rattle.hfs_volume.specs.Volume.{copy_place}
use Rattle.mfs_volume.specs.declared.fault.MfsFault.{MfsFault}
use Rattle.mfs_volume.specs.declared.fault.MfsFault.TheVariants.{Room, Signature, BlockSize, Map, Directory}
use Rattle.mfs_volume.specs.declared.info.Info.{Info}

-- where allocation blocks are, the first of which is block 2
abbrev pub layout_of : Info → Layout
layout_of info = record { offset = big_from 28 2 info.bytes * 512; size = big_from 20 4 info.bytes; count = big_from 18 2 info.bytes }

-- the name of a volume, of 27 bytes at most
abbrev pub volume_name : Info → Name
volume_name info = name_in (slice_range info.bytes 37 (37 + min 27 (slice_index info.bytes 36)))

-- it begins as the information of a volume does
abbrev pub is_mfs : Info → Bool
is_mfs info = big_from 0 2 info.bytes == 0xD2D7

-- the map has 12 bits for each allocation block
abbrev pub map_size : Info → ℕ
map_size info = (3 * big_from 18 2 info.bytes + 1) / 2

-- where the directory begins, and how many blocks of 512 bytes it has
abbrev pub directory_place : Info → ℕ
directory_place info = big_from 14 2 info.bytes * 512

abbrev pub directory_size : Info → ℕ
directory_size info = big_from 16 2 info.bytes

-- where the map ends: it comes after 64 bytes of the information
abbrev pub map_end : Info → ℕ
map_end info = info.place + 64 + map_size info

-- The first condition that doesn't hold in a volume of so many bytes: the size of blocks, the map lies before the
-- directory, unless this is the copy, and the directory is there.
abbrev pub info_fault : ℕ → Info → Option MfsFault
info_fault size info = let block = big_from 20 4 info.bytes in
    if (block == 0) || not (block % 512 == 0) then Some (BlockSize (info.place + 20))
    else if nat_lt size (map_end info) || (info.place == 1024) && nat_lt (directory_place info) (map_end info) then Some (Map (info.place + 18))
    else if nat_lt size (directory_place info + directory_size info * 512) then Some (Directory (info.place + 14))
    else None

-- the information at a place
abbrev pub info_at : List ℕ → ℕ → Info
info_at volume place = record { place = place; bytes = bytes_at 512 place volume }

-- the information of a volume, or its copy, if that lies after it and alone begins so
abbrev pub info_of : List ℕ → Result Info MfsFault
info_of volume = let copy = copy_place (length volume) in
    if nat_lt (length volume) 1536 then Err (Room (length volume))
    else if is_mfs (info_at volume 1024) then Ok (info_at volume 1024)
    else if nat_lt 1024 copy && is_mfs (info_at volume copy) then Ok (info_at volume copy)
    else Err (Signature 1024)

-- The partitions of a disk, as its map has them.
use Rattle.std.specs.Prelude.{◌≤◌, ℕ, zero, suc, ◌+◌, ◌-◌, ◌*◌, ◌%◌, ◌==◌, nat_le, nat_lt, ◌&&◌, ◌||◌, not, if◌then◌else◌, Bool, false, List, [], ◌∷◌, ◌++◌, length, take, replicate, position, find, Option, None, Some, is_some, unwrap_or, Result, Ok, Err}
use Rattle.std.specs.List.{list_any, list_all, slice_range}
use Rattle.std.specs.Cmp.Lexicographic.{pointwise}
use Rattle.byteorder.specs.Endian.{big_from}
use Rattle.fork_disk.specs.Disk.{bytes_at}
use Rattle.disk_image.specs.declared.fault.ImageFault.{ImageFault}
use Rattle.disk_image.specs.declared.fault.ImageFault.TheVariants.{Entries, Mark}
use Rattle.disk_image.specs.declared.map.Grid.{Grid}
use Rattle.disk_image.specs.declared.part.Part.{Part}
use Rattle.disk_image.specs.Known.{number_at, format_at}

-- what an entry of 512 bytes says: first block and count, less the blocks before its data
abbrev pub part_in : Grid → ℕ → List ℕ → Part
part_in grid number entry = record {
  number = number;
  name = slice_range entry 16 48;
  kind = slice_range entry 48 80;
  start = (big_from 8 4 entry + big_from 80 4 entry) * grid.unit;
  count = (big_from 12 4 entry - big_from 80 4 entry) * grid.unit;
}

-- partitions before others, unless these have a fault
abbrev pub parts_before : List Part → Result (List Part) ImageFault → Result (List Part) ImageFault
parts_before parts (Ok others) = Ok (parts ++ others)
parts_before parts (Err fault) = Err fault

-- so many entries from a number on, each with its mark
abbrev pub with_entry : Grid → ℕ → List ℕ → Result (List Part) ImageFault → Result (List Part) ImageFault
with_entry grid number entry others =
    if big_from 0 2 entry == 0x504D then parts_before (part_in grid number entry ∷ []) others else Err (Mark number (grid.step * number))

unfoldable pub parts_from : List ℕ → Grid → ℕ → ℕ → Result (List Part) ImageFault
parts_from disk grid number zero = Ok []
parts_from disk grid number (suc more) = with_entry grid number (bytes_at 512 (grid.step * number) disk) (parts_from disk grid (number + 1) more)

-- a map has 1 to 1,024 entries, one after another, that the disk has room for
unfoldable pub has_room : ℕ → Grid → ℕ → Bool
has_room size grid count = nat_le 1 count && nat_le count 1024 && nat_le (grid.step * (count + 1)) size

-- whether there is a first entry
abbrev pub is_marked : List ℕ → Grid → Bool
is_marked disk grid = number_at 2 grid.step disk == 0x504D

-- the partitions of a map, or the first condition that doesn't hold of it
unfoldable pub map_in : List ℕ → Grid → Result (List Part) ImageFault
map_in disk grid = let count = number_at 4 (grid.step + 4) disk in
    if not (is_marked disk grid) then Err (Mark 1 grid.step)
    else if has_room (length disk) grid count then parts_from disk grid 1 count
    else Err (Entries count (grid.step + 4))

-- the small letter of a letter
abbrev pub small : ℕ → ℕ
small byte = if nat_le 65 byte && nat_le byte 90 then byte + 32 else byte

-- the bytes before the first zero
abbrev pub up_to : List ℕ → Option ℕ → List ℕ
up_to bytes (Some end) = take end bytes
up_to bytes None = bytes

abbrev pub text_of : List ℕ → List ℕ
text_of bytes = up_to bytes (position (λ byte. byte == 0) bytes)

-- whether a partition's type is a text, in whichever letters
abbrev pub is_letter : ℕ → ℕ → Bool
is_letter first second = small first == second

abbrev pub is_kind : List ℕ → List ℕ → Bool
is_kind kind text = pointwise is_letter (text_of kind) text

-- Apple_HFS, Apple_HFSX, Apple_MFS and TFS1 are the types of volumes
abbrev pub hfs_kind : List ℕ
hfs_kind = 0x61 ∷ 0x70 ∷ 0x70 ∷ 0x6C ∷ 0x65 ∷ 0x5F ∷ 0x68 ∷ 0x66 ∷ 0x73 ∷ []

abbrev pub hfsx_kind : List ℕ
hfsx_kind = 0x61 ∷ 0x70 ∷ 0x70 ∷ 0x6C ∷ 0x65 ∷ 0x5F ∷ 0x68 ∷ 0x66 ∷ 0x73 ∷ 0x78 ∷ []

abbrev pub mfs_kind : List ℕ
mfs_kind = 0x61 ∷ 0x70 ∷ 0x70 ∷ 0x6C ∷ 0x65 ∷ 0x5F ∷ 0x6D ∷ 0x66 ∷ 0x73 ∷ []

abbrev pub old_kind : List ℕ
old_kind = 0x74 ∷ 0x66 ∷ 0x73 ∷ 0x31 ∷ []

unfoldable pub is_volume : Part → Bool
is_volume part = is_kind part.kind hfs_kind || is_kind part.kind hfsx_kind || is_kind part.kind mfs_kind || is_kind part.kind old_kind

-- the bytes of a partition, as far as the disk goes
abbrev pub bytes_of_part : List ℕ → Part → List ℕ
bytes_of_part disk part = bytes_at part.count part.start disk

-- whether a partition is a volume that has its first block
unfoldable pub has_signature : List ℕ → Part → Bool
has_signature disk part = is_volume part && is_some (format_at 1024 (bytes_of_part disk part))

-- A map counts in blocks of 512 bytes, or in those that the driver map says. Its entries come one in each such block, or
-- one in each 512 bytes.
abbrev pub unit_of : ℕ → ℕ
unit_of size = if nat_lt 512 size && nat_lt size 65536 && (size % 512 == 0) then size else 512

abbrev pub grids_of : ℕ → List Grid
grids_of size = let unit = unit_of size in
    record { step = 512; unit = 512 } ∷ record { step = unit; unit = unit } ∷ record { step = 512; unit = unit } ∷ []

-- entries don't overlap
abbrev pub IsWide : Grid → Type 0
IsWide grid = 512 ≤ grid.step

-- whether one of its partitions is such a volume
abbrev pub has_signatures : List ℕ → Result (List Part) ImageFault → Bool
has_signatures disk (Ok parts) = list_any (has_signature disk) parts
has_signatures disk (Err fault) = false

unfoldable pub leads : List ℕ → Grid → Bool
leads disk grid = has_signatures disk (map_in disk grid)

-- the first that leads to a volume counts; else the first that has an entry
abbrev pub grid_of : List ℕ → Grid
grid_of disk = let grids = grids_of (number_at 2 2 disk) in
    unwrap_or (find (leads disk) grids) (unwrap_or (find (is_marked disk) grids) (record { step = 512; unit = 512 }))

unfoldable pub map_of : List ℕ → Result (List Part) ImageFault
map_of disk = map_in disk (grid_of disk)

-- The map of a Macintosh Plus: entries of 12 bytes from the third of block 1 on, up to one of zeros.
abbrev pub old_part : ℕ → List ℕ → Part
old_part number entry = record {
  number = number;
  name = replicate 32 0;
  kind = slice_range entry 8 12 ++ replicate 28 0;
  start = big_from 0 4 entry * 512;
  count = big_from 4 4 entry * 512;
}

abbrev pub is_blank : List ℕ → Bool
is_blank entry = list_all (λ byte. byte == 0) entry

unfoldable pub old_parts_from : List ℕ → ℕ → ℕ → List Part
old_parts_from block index zero = []
old_parts_from block index (suc more) = let entry = slice_range block (2 + 12 * index) (14 + 12 * index) in
    if is_blank entry then [] else old_part (index + 1) entry ∷ old_parts_from block (index + 1) more

unfoldable pub old_parts : List ℕ → List Part
old_parts disk = if nat_le 1024 (length disk) then old_parts_from (bytes_at 512 512 disk) 0 42 else []

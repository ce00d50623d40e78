-- Records of the catalog.
use Rattle.std.specs.Prelude.{ℕ, ◌+◌, ◌*◌, ◌/◌, ◌==◌, nat_le, ◌&&◌, ◌||◌, not, if◌then◌else◌, Bool, List, ◌++◌, length, take, drop, replicate, slice_index, Result, Ok, Err}
use Rattle.std.specs.List.{slice_range}
use Rattle.byteorder.specs.Endian.{big_from}
use Rattle.hfs_tree.specs.declared.extent.Extent.{Extent}
use Rattle.hfs_tree.specs.declared.fault.Condition.TheVariants.{Key, Body}
use Rattle.hfs_tree.specs.declared.fault.TreeFault.{TreeFault}
use Rattle.hfs_tree.specs.declared.leaf.Leaf.{Leaf}
use Rattle.hfs_tree.specs.Extents.{extents_at}
use Rattle.hfs_tree.specs.Leaves.{row_at, row_place, row_fault}
use Rattle.hfs_volume.specs.declared.entry.Entry.{Entry}
use Rattle.hfs_volume.specs.declared.entry.Which.{Which}
use Rattle.hfs_volume.specs.declared.entry.Which.TheVariants.{Data, Resource}
use Rattle.hfs_volume.specs.Names.{name_in}

-- where the data of a record begin: after the key, at an even place
abbrev pub body_place : List ℕ → ℕ
body_place bytes = (slice_index bytes 0 + 2) / 2 * 2

-- its key has from 6 to 37 bytes, its name lies within it, and two bytes of data follow
abbrev pub has_key : List ℕ → Bool
has_key bytes = nat_le 6 (slice_index bytes 0) && nat_le (slice_index bytes 0) 37 && nat_le (body_place bytes + 2) (length bytes)
    && nat_le (6 + slice_index bytes 6) (slice_index bytes 0)

-- 1 is a folder, 2 a file, 3 and 4 are their threads; how many bytes each has at least
abbrev pub has_body : List ℕ → Bool
has_body body = let kind = slice_index body 0 in let size = length body in
    if kind == 1 then nat_le 70 size else if kind == 2 then nat_le 102 size
    else ((kind == 3) || (kind == 4)) && nat_le 15 size && nat_le (slice_index body 14) 31 && nat_le (15 + slice_index body 14) size

-- bytes, and zeros where they are fewer than 102
abbrev pub padded_body : List ℕ → List ℕ
padded_body bytes = bytes ++ drop (length bytes) (replicate 102 0)

-- what a record is read as
abbrev pub entry_in : ℕ → List ℕ → Entry
entry_in place bytes = record {
  place = place + body_place bytes;
  parent = big_from 2 4 bytes;
  name = name_in (slice_range bytes 7 (7 + slice_index bytes 6));
  body = padded_body (take 102 (drop (body_place bytes) bytes));
}

abbrev pub entry_at : Leaf → ℕ → Result Entry TreeFault
entry_at leaf row = let bytes = row_at leaf.bytes row in
    if not (has_key bytes) then Err (row_fault leaf Key row)
    else if not (has_body (drop (body_place bytes) bytes)) then Err (row_fault leaf Body row)
    else Ok (entry_in (row_place leaf row) bytes)

-- whether it is a folder or a file
abbrev pub kind_of : Entry → ℕ
kind_of entry = slice_index entry.body 0

abbrev pub is_folder : Entry → Bool
is_folder entry = kind_of entry == 1

abbrev pub is_file : Entry → Bool
is_file entry = kind_of entry == 2

-- a folder's id, and a file's
abbrev pub id_of : Entry → ℕ
id_of entry = if is_folder entry then big_from 6 4 entry.body else big_from 20 4 entry.body

-- where a file's record says how long a fork is, and where its first extents are
abbrev pub size_place : Which → ℕ
size_place Data = 26
size_place Resource = 36

abbrev pub extents_place : Which → ℕ
extents_place Data = 74
extents_place Resource = 86

-- which fork it is in the keys of the extents tree
abbrev pub key_of : Which → ℕ
key_of Data = 0
key_of Resource = 255

abbrev pub size_of : Entry → Which → ℕ
size_of entry which = big_from (size_place which) 4 entry.body

abbrev pub first_extents_of : Entry → Which → List Extent
first_extents_of entry which = extents_at (extents_place which) entry.body

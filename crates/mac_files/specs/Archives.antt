-- By which bytes archives and images of disks are known.
use Rattle.std.specs.Prelude.{ℕ, ◌==◌, nat_lt, nat_le, ◌&&◌, ◌||◌, if◌then◌else◌, Bool, List, [], ◌∷◌, length, drop, slice_index, codes, nat_eq, Option, None, Some}
use Rattle.std.specs.List.{starts_with}
use Rattle.byteorder.specs.Endian.{big_from}
use Rattle.mac_files.specs.declared.archive.Archive.{Archive}
use Rattle.mac_files.specs.declared.archive.Archive.TheVariants.{StuffIt, CompactPro, Zip, Gzip, DiskCopy, Hfs, HfsPlus}

-- the file has these bytes at a place
abbrev pub has_at : ℕ → List ℕ → List ℕ → Bool
has_at at bytes file = nat_le at (length file) && starts_with nat_eq (drop at file) bytes

-- a volume begins with its boot blocks, or with zeros where it has none
abbrev pub has_boot_blocks : List ℕ → Bool
has_boot_blocks file = has_at 0 (codes "LK") file || has_at 0 (0 ∷ 0 ∷ []) file

-- a name of 1 to 63 bytes, whose length comes first, and $0100 at 82
abbrev pub is_disk_copy : List ℕ → Bool
is_disk_copy file = nat_le 84 (length file) && nat_le 1 (slice_index file 0) && nat_le (slice_index file 0) 63
    && (slice_index file 82 == 1) && (slice_index file 83 == 0)

-- the first of its volumes, and where in the file its directory is
abbrev pub is_compact_pro : List ℕ → Bool
is_compact_pro file = nat_le 8 (length file) && (slice_index file 0 == 1) && (slice_index file 1 == 1)
    && nat_le 8 (big_from 4 4 file) && nat_lt (big_from 4 4 file) (length file)

-- the archive that a file is known as
abbrev pub archive_of : List ℕ → Option Archive
archive_of file =
    if has_at 0 (codes "StuffIt") file || has_at 10 (codes "rLau") file then Some StuffIt
    else if has_at 0 (80 ∷ 75 ∷ 3 ∷ 4 ∷ []) file then Some Zip
    else if has_at 0 (31 ∷ 139 ∷ []) file then Some Gzip
    else if has_boot_blocks file && has_at 1024 (codes "BD") file then Some Hfs
    else if has_boot_blocks file && (has_at 1024 (codes "H+") file || has_at 1024 (codes "HX") file) then Some HfsPlus
    else if is_disk_copy file then Some DiskCopy
    else if is_compact_pro file then Some CompactPro
    else None

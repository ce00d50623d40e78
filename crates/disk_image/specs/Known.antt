-- What a file is known as: numbers at places of it.
use Rattle.std.specs.Prelude.{ℕ, ◌+◌, ◌-◌, ◌*◌, ◌/◌, ◌%◌, ◌==◌, nat_le, nat_lt, ◌&&◌, ◌||◌, if◌then◌else◌, Bool, List, length, Option, None, Some}
use Rattle.byteorder.specs.Endian.{big_from}
use Rattle.disk_image.specs.declared.known.Format.{Format}
use Rattle.disk_image.specs.declared.known.Format.TheVariants.{Hfs, Mfs, HfsPlus}
use Rattle.disk_image.specs.declared.known.Known.{Known}
use Rattle.disk_image.specs.declared.known.Known.TheVariants.{Udif, Encrypted, Sparse, RawCd, DiskCopy, Map, Volume, OldMap, Iso, Other}

-- the number of so many bytes at a place, or 0 where the file ends before it does
unfoldable pub number_at : ℕ → ℕ → List ℕ → ℕ
number_at count at file = if nat_le (at + count) (length file) then big_from at count file else 0

-- the same at a place that is given from the end
unfoldable pub number_before : ℕ → ℕ → List ℕ → ℕ
number_before count back file = if nat_le back (length file) then number_at count (length file - back) file else 0

-- `koly`, in the last block
unfoldable pub is_udif : List ℕ → Bool
is_udif file = number_before 4 512 file == 0x6B6F6C79

-- `encrcdsa` at the beginning, or `cdsaencr` at the end
unfoldable pub is_encrypted : List ℕ → Bool
is_encrypted file = (number_at 8 0 file == 0x656E637263647361) || (number_before 8 8 file == 0x63647361656E6372)

-- `sprs`
unfoldable pub is_sparse : List ℕ → Bool
is_sparse file = number_at 4 0 file == 0x73707273

-- the first sector begins with a zero, ten bytes $FF and a zero
unfoldable pub is_raw_cd : List ℕ → Bool
is_raw_cd file = (number_at 8 0 file == 0x00FFFFFFFFFFFFFF) && (number_at 4 8 file == 0xFFFFFF00)

-- a header of DiskCopy 4.2: a name of 1 to 63 bytes, $0100 at 82, and as many bytes of data and tags as a disk has
unfoldable pub is_sized : ℕ → ℕ → Bool
is_sized size tags = nat_lt 0 size && (size % 512 == 0) && ((tags == 0) || (tags == size / 512 * 12))

unfoldable pub is_disk_copy : List ℕ → Bool
is_disk_copy file = nat_le 1 (number_at 1 0 file) && nat_le (number_at 1 0 file) 63 && (number_at 2 82 file == 0x0100)
    && is_sized (number_at 4 64 file) (number_at 4 68 file)

-- `ER` of a driver map, or `PM` of a partition map's first entry
unfoldable pub has_map : List ℕ → Bool
has_map file = (number_at 2 0 file == 0x4552) || (number_at 2 512 file == 0x504D)

-- `TS` of the map of a Macintosh Plus
unfoldable pub has_old_map : List ℕ → Bool
has_old_map file = number_at 2 512 file == 0x5453

-- the descriptor of an ISO 9660 disc
unfoldable pub is_iso : List ℕ → Bool
is_iso file = number_at 6 32768 file == 0x014344303031

-- the signature of a volume's block at a place: `BD` and a name of 1 to 27 bytes, $D2D7, or that of HFS Plus or HFSX with its version
abbrev pub is_hfs : ℕ → ℕ → Bool
is_hfs signature name = (signature == 0x4244) && nat_le 1 name && nat_le name 27

unfoldable pub format_at : ℕ → List ℕ → Option Format
format_at at file =
    if is_hfs (number_at 2 at file) (number_at 1 (at + 36) file) then Some Hfs
    else if number_at 2 at file == 0xD2D7 then Some Mfs
    else if (number_at 4 at file == 0x482B0004) || (number_at 4 at file == 0x48580005) then Some HfsPlus
    else None

-- a volume whose first block is lost is known by the copy in its second last block
abbrev pub hfs_or_mfs : Option Format → Option Format
hfs_or_mfs None = None
hfs_or_mfs (Some Hfs) = Some Hfs
hfs_or_mfs (Some Mfs) = Some Mfs
hfs_or_mfs (Some HfsPlus) = None

unfoldable pub format_of_copy : List ℕ → Option Format
format_of_copy file = if nat_le 1536 (length file) then hfs_or_mfs (format_at ((length file / 512 - 2) * 512) file) else None

-- an image of another kind than a disk's own blocks
unfoldable pub image_of : List ℕ → Option Known
image_of file =
    if is_udif file then Some Udif
    else if is_encrypted file then Some Encrypted
    else if is_sparse file then Some Sparse
    else if is_raw_cd file then Some RawCd
    else if is_disk_copy file then Some DiskCopy
    else None

-- a disk without a volume at its beginning
abbrev pub by_copy : List ℕ → Option Format → Known
by_copy file (Some format) = Volume format
by_copy file None = if is_iso file then Iso else Other

abbrev pub by_format : List ℕ → Option Format → Known
by_format file (Some format) = Volume format
by_format file None = if has_old_map file then OldMap else by_copy file (format_of_copy file)

-- a disk's own blocks
unfoldable pub disk_of : List ℕ → Known
disk_of file = if has_map file then Map else by_format file (format_at 1024 file)

-- what a file is known as: the first that fits
abbrev pub or_disk : List ℕ → Option Known → Known
or_disk file (Some known) = known
or_disk file None = disk_of file

unfoldable pub known_as : List ℕ → Known
known_as file = or_disk file (image_of file)

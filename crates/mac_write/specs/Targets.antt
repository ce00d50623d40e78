-- A file as each container holds it.
use Rattle.std.specs.Prelude.{ℕ, ◌+◌, ◌*◌, ◌/◌, ◌%◌, ◌==◌, nat_lt, Bool, ◌&&◌, ◌||◌, if◌then◌else◌, List, [], ◌∷◌, ◌++◌, length, replicate, codes, slice_index, Option, None, Some}
use Rattle.std.specs.List.{flat_map, list_any}
use Rattle.std.specs.Option.{option_or}
use Rattle.byteorder.specs.Endian.{big_bytes}
use Rattle.mac_files.specs.Crc.{crc_of}
use Rattle.mac_files.specs.MacBinary.{padded}
use Rattle.mac_write.specs.declared.detail.Detail.TheVariants.{Dates}
use Rattle.mac_write.specs.declared.refusal.Refusal.{Refusal}
use Rattle.mac_write.specs.declared.refusal.Refusal.TheVariants.{CommentTooLong, DateOutside, NameCharacter, NameTooLong, NoName}
use Rattle.mac_write.specs.declared.target.Target.{Target}
use Rattle.mac_write.specs.declared.target.Target.TheVariants.{Raw, AppleDouble, AppleSingle, MacBinary, BinHex}
use Rattle.mac_write.specs.Apple.{length_refusal}
use Rattle.mac_write.specs.Bytes.{filled}
use Rattle.mac_write.specs.HexText.{hex_file, hex_text}
use Rattle.mac_write.specs.Lost.{has}
use Rattle.mac_write.specs.Parts.{Parts}

-- AppleSingle and AppleDouble.

-- a date from 1904 on as AppleSingle counts it, from 2000 on with a sign; one that isn't known is the least
abbrev pub apple_date : ℕ → ℕ
apple_date date = if date == 0 then 0x80000000 else (date + 1265437696) % 0x100000000

abbrev pub dates_text : Parts → List ℕ
dates_text file = big_bytes 4 (apple_date file.created) ++ (big_bytes 4 (apple_date file.modified)
    ++ (big_bytes 4 0x80000000 ++ big_bytes 4 0x80000000))

abbrev pub finder_text : Parts → List ℕ
finder_text file = file.finder.kind ++ (file.finder.creator ++ (big_bytes 2 file.finder.flags ++ replicate 22 0))

-- the magic, whose last byte is 0 or 7, the version, a filler, and the number of entries
abbrev pub head : ℕ → ℕ → List ℕ
head last count = 0 ∷ 5 ∷ 22 ∷ last ∷ [] ++ (big_bytes 4 0x20000 ++ (replicate 16 0 ++ big_bytes 2 count))

-- an entry of the list, with its id and where its bytes are
abbrev pub place : ℕ → ℕ → ℕ → List ℕ
place id at count = big_bytes 4 id ++ (big_bytes 4 at ++ big_bytes 4 count)

-- the entries of the name, the comment, the dates and what the Finder knows, whose bytes follow each other from a place
-- on
abbrev pub told_places : ℕ → Parts → List ℕ
told_places at file =
    let comment = at + length file.name in let dates = comment + length file.comment in
    place 3 at (length file.name) ++ (place 4 comment (length file.comment) ++ (place 8 dates 16 ++ place 9 (dates + 16) 32))

abbrev pub told_text : Parts → List ℕ
told_text file = file.name ++ (file.comment ++ (dates_text file ++ finder_text file))

abbrev pub told_length : Parts → ℕ
told_length file = length file.name + length file.comment + 48

-- an entry of AppleDouble, its id and its bytes, where these say something
abbrev pub said : ℕ → List ℕ → List (ℕ × List ℕ)
said id [] = []
said id (byte ∷ bytes) = (id, byte ∷ bytes) ∷ []

-- the dates, where one is known
abbrev pub known_dates : Parts → List ℕ
known_dates file = if has Dates file then dates_text file else []

-- the entries of AppleDouble: what the Finder knows and the resource fork, in the order in which a Macintosh writes
-- them; then the name, the comment and the dates, where they say something
abbrev pub double_entries : Parts → List (ℕ × List ℕ)
double_entries file = (9, finder_text file) ∷ (2, file.resource_fork) ∷ (said 3 file.name ++ (said 4 file.comment ++ said 8 (known_dates file)))

-- the list of entries whose bytes follow each other from a place on, and these bytes
abbrev pub places : ℕ → List (ℕ × List ℕ) → List ℕ
places at [] = []
places at (entry ∷ entries) = place entry.0 at (length entry.1) ++ places (at + length entry.1) entries

abbrev pub contents : List (ℕ × List ℕ) → List ℕ
contents entries = flat_map (λ entry. entry.1) entries

abbrev pub double_text : Parts → List ℕ
double_text file =
    let entries = double_entries file in let count = length entries in
    head 7 count ++ (places (26 + 12 * count) entries ++ contents entries)

-- AppleSingle has six entries
abbrev pub single_text : Parts → List ℕ
single_text file =
    let data_place = 98 + told_length file in
    head 0 6 ++ (told_places 98 file ++ (place 1 data_place (length file.data_fork)
    ++ (place 2 (data_place + length file.data_fork) (length file.resource_fork) ++ (told_text file ++ (file.data_fork ++ file.resource_fork)))))

-- MacBinary III.

-- the first 124 bytes of the header: the name, type, creator and flags; the lengths of both forks, the dates, the
-- length of the comment; the low byte of the flags, the signature, and the versions that wrote it and are needed to
-- read it
abbrev pub binary_head : Parts → List ℕ
binary_head file = 0 ∷ length file.name ∷ [] ++ (filled 63 file.name
    ++ (file.finder.kind ++ (file.finder.creator ++ ((file.finder.flags / 256) ∷ [] ++ (replicate 9 0
    ++ (big_bytes 4 (length file.data_fork) ++ (big_bytes 4 (length file.resource_fork)
    ++ (big_bytes 4 file.created ++ (big_bytes 4 file.modified ++ (big_bytes 2 (length file.comment)
    ++ ((file.finder.flags % 256) ∷ [] ++ (codes "mBIN" ++ (replicate 16 0 ++ 130 ∷ 129 ∷ [])))))))))))))

-- the bytes of a part, with the zeros that fill its last 128
abbrev pub block : List ℕ → List ℕ
block bytes = filled (padded (length bytes)) bytes

abbrev pub binary_text : Parts → List ℕ
binary_text file = binary_head file ++ (big_bytes 2 (crc_of (binary_head file)) ++ (0 ∷ 0 ∷ []
    ++ (block file.data_fork ++ (block file.resource_fork ++ block file.comment))))

-- the file in a container
abbrev pub text_of : Target → Parts → List ℕ
text_of Raw file = file.resource_fork
text_of AppleDouble file = double_text file
text_of AppleSingle file = single_text file
text_of MacBinary file = binary_text file
text_of BinHex file = hex_text (hex_file file)

-- What a container can't hold.

abbrev pub is_apple_date : ℕ → Bool
is_apple_date date = (date == 0) || (nat_lt 882045952 date && nat_lt date 5177013248)

abbrev pub apple_date_refusal : ℕ → Option Refusal
apple_date_refusal date = if is_apple_date date then None else Some (DateOutside date)

abbrev pub binary_date_refusal : ℕ → Option Refusal
binary_date_refusal date = if nat_lt date 0x100000000 then None else Some (DateOutside date)

-- a name of MacBinary and BinHex has 1 to 63 characters
abbrev pub name_length_refusal : ℕ → Option Refusal
name_length_refusal count =
    if nat_lt count 1 then Some NoName else if nat_lt 63 count then Some (NameTooLong count) else None

-- with a character 0, or with $16 as the first, a file of MacBinary could be taken for another container
abbrev pub name_character_refusal : List ℕ → Option Refusal
name_character_refusal name = if (slice_index name 0 == 22) || list_any (λ c. c == 0) name then Some NameCharacter else None

abbrev pub name_refusal : List ℕ → Option Refusal
name_refusal name = option_or (name_length_refusal (length name)) (name_character_refusal name)

abbrev pub comment_refusal : ℕ → Option Refusal
comment_refusal count = if nat_lt 65535 count then Some (CommentTooLong count) else None

-- four bytes count the bytes of each part
abbrev pub parts_refusal : Parts → Option Refusal
parts_refusal file = option_or (length_refusal (length file.name)) (option_or (length_refusal (length file.comment))
    (option_or (length_refusal (length file.data_fork)) (length_refusal (length file.resource_fork))))

-- the numbers of AppleSingle and AppleDouble, in a file of so many bytes
abbrev pub apple_unwritten : ℕ → Parts → Option Refusal
apple_unwritten count file =
    option_or (apple_date_refusal file.created) (option_or (apple_date_refusal file.modified) (length_refusal count))

abbrev pub binary_unwritten : Parts → Option Refusal
binary_unwritten file = option_or (name_refusal file.name) (option_or (binary_date_refusal file.created)
    (option_or (binary_date_refusal file.modified) (option_or (length_refusal (length file.data_fork))
    (option_or (length_refusal (length file.resource_fork)) (comment_refusal (length file.comment))))))

abbrev pub hex_unwritten : Parts → Option Refusal
hex_unwritten file = option_or (name_length_refusal (length file.name))
    (option_or (length_refusal (length file.data_fork)) (length_refusal (length file.resource_fork)))

-- why the file isn't written
abbrev pub unwritten : Target → Parts → Option Refusal
unwritten Raw file = None
unwritten AppleDouble file = option_or (parts_refusal file) (apple_unwritten (length (double_text file)) file)
unwritten AppleSingle file = option_or (parts_refusal file)
    (apple_unwritten (98 + told_length file + length file.data_fork + length file.resource_fork) file)
unwritten MacBinary file = binary_unwritten file
unwritten BinHex file = hex_unwritten file

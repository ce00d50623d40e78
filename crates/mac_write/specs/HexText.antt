-- A file as a BinHex 4.0 text (RFC 1741).
use Rattle.std.specs.Prelude.{ℕ, zero, suc, ◌+◌, ◌*◌, ◌/◌, ◌%◌, ◌==◌, if◌then◌else◌, List, [], ◌∷◌, ◌++◌, length, map, slice_index, codes}
use Rattle.std.specs.List.{flat_map}
use Rattle.byteorder.specs.Endian.{big_bytes}
use Rattle.mac_files.specs.BinHex.{File, bin_hex_crc}
use Rattle.mac_write.specs.Parts.{Parts}

-- what a text can hold of a file
abbrev pub hex_file : Parts → File
hex_file file = record {
  name = file.name;
  kind = file.finder.kind;
  creator = file.finder.creator;
  flags = file.finder.flags;
  data_fork = file.data_fork;
  resource_fork = file.resource_fork;
}

-- the header: a byte of length and the name, the version 0, type, creator, flags, and the lengths of both forks
abbrev pub hex_header : File → List ℕ
hex_header file = length file.name ∷ file.name ++ (0 ∷ file.kind ++ (file.creator ++ (big_bytes 2 file.flags
    ++ (big_bytes 4 (length file.data_fork) ++ big_bytes 4 (length file.resource_fork)))))

-- bytes, and their CRC
abbrev pub with_crc : List ℕ → List ℕ
with_crc bytes = bytes ++ big_bytes 2 (bin_hex_crc bytes)

-- the header and both forks, each with its CRC
abbrev pub hex_bytes : File → List ℕ
hex_bytes file = with_crc (hex_header file) ++ (with_crc file.data_fork ++ with_crc file.resource_fork)

-- a run-length byte $90 as $90 and 0; no runs are written
abbrev pub escape : ℕ → List ℕ
escape byte = if byte == 144 then 144 ∷ 0 ∷ [] else byte ∷ []

abbrev pub escaped : List ℕ → List ℕ
escaped bytes = flat_map escape bytes

-- the bits of three bytes in four numbers of six bits, and those of the last one or two bytes in as many as they need
unfoldable pub sixes : List ℕ → List ℕ
sixes [] = []
sixes (a ∷ []) = a / 4 ∷ a % 4 * 16 ∷ []
sixes (a ∷ b ∷ []) = a / 4 ∷ (a % 4 * 16 + b / 16) ∷ b % 16 * 4 ∷ []
sixes (a ∷ b ∷ c ∷ bytes) = a / 4 ∷ (a % 4 * 16 + b / 16) ∷ (b % 16 * 4 + c / 64) ∷ c % 64 ∷ sixes bytes

-- the character that stands for six bits
unfoldable pub digit : ℕ → ℕ
digit value = slice_index (codes "!\"#$%&'()*+,-012345689@ABCDEFGHIJKLMNPQRSTUVXYZ[`abcdefhijklmpqr") value

abbrev pub digits : List ℕ → List ℕ
digits bytes = map digit (sixes bytes)

-- characters in lines of 64, the first of which has room for so many. A line feed ends each, which all readers take
unfoldable pub in_lines : ℕ → List ℕ → List ℕ
in_lines room [] = 10 ∷ []
in_lines zero (c ∷ cs) = 10 ∷ c ∷ in_lines 63 cs
in_lines (suc room) (c ∷ cs) = c ∷ in_lines room cs

-- the line that comes before each text, and an empty one
abbrev pub comment_line : List ℕ
comment_line = codes "(This file must be converted with BinHex 4.0)" ++ 10 ∷ 10 ∷ []

-- the digits between two colons
abbrev pub hex_text : File → List ℕ
hex_text file = comment_line ++ in_lines 64 (58 ∷ digits (escaped (hex_bytes file)) ++ 58 ∷ [])

-- BinHex 4.0 (RFC 1741): which file a text stands for, and the first fault of a text that stands for none.
use Rattle.std.specs.Prelude.{ℕ, ◌+◌, ◌-◌, ◌*◌, ◌/◌, ◌%◌, ◌==◌, nat_lt, nat_eq, ◌^◌, max, min, Bool, true, not, ◌&&◌, ◌||◌, if◌then◌else◌, List, [], ◌∷◌, ◌++◌, length, map, take, drop, replicate, fold, position, slice_index, slice_range, codes, Option, None, Some, is_some, unwrap_or, Result, Ok, Err}
use Rattle.std.specs.List.{starts_with}
use Rattle.std.specs.Fn.{iterate}
use Rattle.std.specs.Int.Bits.{bit_xor}
use Rattle.std.specs.Option.{option_or}
use Rattle.std.specs.Result.{result_err}
use Rattle.byteorder.specs.Endian.{big_from}
use Rattle.mac_files.specs.Containers.{has_fork_parts}
use Rattle.mac_files.specs.Crc.{with_bit}
use Rattle.mac_files.specs.declared.bin_hex.digits.Placed.{Placed}
use Rattle.mac_files.specs.declared.bin_hex.fault.Section.{Section}
use Rattle.mac_files.specs.declared.bin_hex.fault.Section.TheVariants.{Header, Data, Resource}
use Rattle.mac_files.specs.declared.bin_hex.fault.BinHexFault.{BinHexFault}
use Rattle.mac_files.specs.declared.bin_hex.fault.BinHexFault.TheVariants.{NoText, NotADigit, NotClosed, NothingToRepeat, NoCount, TooShort, TooLong, WrongCrc}

-- Where the text begins.

-- the end of a line
abbrev pub is_line_end : ℕ → Bool
is_line_end c = (c == 13) || (c == 10)

-- a tab or a blank
abbrev pub is_blank : ℕ → Bool
is_blank c = (c == 9) || (c == 32)

-- only tabs and blanks are on the line after a character, by whether only these were before it
abbrev pub begins_after : Bool → ℕ → Bool
begins_after begins c = is_line_end c || (begins && is_blank c)

-- the first place at which a line begins with a mark, after tabs and blanks, in characters from an offset on; the flag
-- says whether only these are on the line before
unfoldable pub line_from : List ℕ → Bool → ℕ → List ℕ → Option ℕ
line_from mark begins at [] = None
line_from mark begins at (c ∷ cs) =
    if begins && starts_with nat_eq (c ∷ cs) mark then Some at else line_from mark (begins_after begins c) (at + 1) cs

-- the line that each tool writes before the text
abbrev pub comment_of : List ℕ → Option ℕ
comment_of text = line_from (codes "(This file must be converted") true 0 text

-- a text is known as BinHex by this line; it doesn't begin with the header of a fork
abbrev pub is_bin_hex : List ℕ → Bool
is_bin_hex text = not (has_fork_parts (length text) text) && is_some (comment_of text)

-- the colon that begins the text: the first that begins a line, after the comment if there is one
abbrev pub colon_of : List ℕ → Option ℕ
colon_of text = let from = unwrap_or (comment_of text) 0 in line_from (58 ∷ []) true from (drop from text)

-- What is read.

-- values, each with the offset in the text of the character that completes it; and how they end: at the offset of the
-- closing colon, or by a fault
pub record Reading : Type 0 where
  pub values : List Placed
  pub ending : Result ℕ BinHexFault

-- values before those of a reading
abbrev pub before : List Placed → Reading → Reading
before first rest = record { values = first ++ rest.values; ending = rest.ending }

-- no values
abbrev pub ends : Result ℕ BinHexFault → Reading
ends ending = record { values = []; ending = ending }

abbrev pub values_of : Reading → List ℕ
values_of reading = map (λ (p : Placed). p.value) reading.values

abbrev pub places_of : Reading → List ℕ
places_of reading = map (λ (p : Placed). p.at) reading.values

-- The digits.

-- the 64 digits, in the order of the six bits that they stand for
unfoldable pub digit_of : ℕ → Option ℕ
digit_of c = position (λ digit. digit == c) (codes "!\"#$%&'()*+,-012345689@ABCDEFGHIJKLMNPQRSTUVXYZ[`abcdefhijklmpqr")

-- the digit of a character at an offset, before the others
abbrev pub digit_before : ℕ → ℕ → Option ℕ → Reading → Reading
digit_before at c None rest = ends (Err (NotADigit at c))
digit_before at c (Some value) rest = before (record { value = value; at = at } ∷ []) rest

-- a character that is skipped: the end of a line, a tab or a blank
abbrev pub is_skipped : ℕ → Bool
is_skipped c = is_line_end c || is_blank c

-- the digits of the characters from an offset on, up to a colon, without those that are skipped
unfoldable pub digits_from : ℕ → List ℕ → Reading
digits_from at [] = ends (Err (NotClosed at))
digits_from at (c ∷ cs) =
    if c == 58 then ends (Ok at)
    else (if is_skipped c then digits_from (at + 1) cs else digit_before at c (digit_of c) (digits_from (at + 1) cs))

-- The bytes.

-- the three bytes of four digits: 6 and 2 bits, 4 and 4 bits, 2 and 6 bits
abbrev pub first_byte : Placed → Placed → Placed
first_byte a b = record { value = a.value * 4 + b.value / 16; at = b.at }

abbrev pub second_byte : Placed → Placed → Placed
second_byte b c = record { value = b.value % 16 * 16 + c.value / 4; at = c.at }

abbrev pub third_byte : Placed → Placed → Placed
third_byte c d = record { value = c.value % 4 * 64 + d.value; at = d.at }

-- the bytes of digits; what is left of the last digit is dropped
unfoldable pub packed : List Placed → List Placed
packed [] = []
packed (a ∷ []) = []
packed (a ∷ b ∷ []) = first_byte a b ∷ []
packed (a ∷ b ∷ c ∷ []) = first_byte a b ∷ second_byte b c ∷ []
packed (a ∷ b ∷ c ∷ d ∷ digits) = first_byte a b ∷ second_byte b c ∷ third_byte c d ∷ packed digits

-- The run-length code.

-- the last byte n - 1 times more, before others; b is the run-length byte
abbrev pub more_before : Option ℕ → Placed → Placed → Reading → Reading
more_before None b n rest = ends (Err (NothingToRepeat b.at))
more_before (Some last) b n rest = before (replicate (n.value - 1) (record { value = last; at = n.at })) rest

-- a run-length byte is the last
abbrev pub without_count : Placed → Result ℕ BinHexFault → Reading
without_count b (Ok at) = ends (Err (NoCount b.at))
without_count b (Err fault) = ends (Err fault)

-- what bytes stand for, by the byte before them: $90 and 0 stand for a byte $90, $90 and n for n - 1 more of the byte
-- before
unfoldable pub expanded : Option ℕ → List Placed → Result ℕ BinHexFault → Reading
expanded last [] ending = ends ending
expanded last (b ∷ []) ending =
    if b.value == 144 then without_count b ending else record { values = b ∷ []; ending = ending }
expanded last (b ∷ n ∷ bytes) ending =
    if b.value == 144 then
    (if n.value == 0 then before (record { value = 144; at = n.at } ∷ []) (expanded (Some 144) bytes ending)
    else more_before last b n (expanded last bytes ending))
    else before (b ∷ []) (expanded (Some b.value) (n ∷ bytes) ending)

-- what a text stands for, from an offset on
abbrev pub decoded_from : ℕ → List ℕ → Reading
decoded_from from text =
    let digits = digits_from from (drop from text) in expanded None (packed digits.values) digits.ending

-- The CRC.

-- the remainder after one more byte, which comes in at the low end as eight bits leave at the high end
unfoldable pub with_low_byte : ℕ → ℕ → ℕ
with_low_byte crc byte = bit_xor (iterate with_bit 8 crc) byte

-- the CRC of bytes: the remainder of these and of two zero bytes where it will be
unfoldable pub bin_hex_crc : List ℕ → ℕ
bin_hex_crc bytes = fold with_low_byte 0 (bytes ++ 0 ∷ 0 ∷ [])

-- The file.

pub record File : Type 0 where
  pub name : List ℕ
  pub kind : List ℕ
  pub creator : List ℕ
  pub flags : ℕ
  pub data_fork : List ℕ
  pub resource_fork : List ℕ

-- a byte of length and the name, a version, type, creator, flags, and the lengths of both forks
abbrev pub name_length : List ℕ → ℕ
name_length bytes = slice_index bytes 0

unfoldable pub data_length : List ℕ → ℕ
data_length bytes = big_from (name_length bytes + 12) 4 bytes

unfoldable pub resource_length : List ℕ → ℕ
resource_length bytes = big_from (name_length bytes + 16) 4 bytes

-- where the CRC of each section is, in two bytes; the forks are after the CRC before them
abbrev pub header_end : List ℕ → ℕ
header_end bytes = name_length bytes + 20

abbrev pub data_end : List ℕ → ℕ
data_end bytes = header_end bytes + 2 + data_length bytes

abbrev pub resource_end : List ℕ → ℕ
resource_end bytes = data_end bytes + 2 + resource_length bytes

abbrev pub file_of : List ℕ → File
file_of bytes = record {
  name = slice_range bytes 1 (1 + name_length bytes);
  kind = take 4 (drop (name_length bytes + 2) bytes);
  creator = take 4 (drop (name_length bytes + 6) bytes);
  flags = big_from (name_length bytes + 10) 2 bytes;
  data_fork = slice_range bytes (header_end bytes + 2) (data_end bytes);
  resource_fork = slice_range bytes (data_end bytes + 2) (resource_end bytes);
}

-- The first fault.

-- why a section isn't whole: the closing colon is before its end, or a fault is
abbrev pub cut_by : Section → Result ℕ BinHexFault → BinHexFault
cut_by section (Ok at) = TooShort section at
cut_by section (Err fault) = fault

-- the fault of a section from a place of the bytes to its CRC at another
abbrev pub section_fault : Section → ℕ → ℕ → Reading → Option BinHexFault
section_fault section start end reading =
    let bytes = values_of reading in
    let stored = big_from end 2 bytes in
    let computed = bin_hex_crc (slice_range bytes start end) in
    if nat_lt (length bytes) (end + 2) then Some (cut_by section reading.ending)
    else if stored == computed then None
    else Some (WrongCrc section (slice_index (places_of reading) (end + 1)) stored computed)

-- the first fault of what was read, in the order of the text
abbrev pub first_fault : Reading → Option BinHexFault
first_fault reading =
    let bytes = values_of reading in
    option_or (section_fault Header 0 (header_end bytes) reading)
    (option_or (section_fault Data (header_end bytes + 2) (data_end bytes) reading)
    (option_or (section_fault Resource (data_end bytes + 2) (resource_end bytes) reading) (result_err reading.ending)))

-- the file of what was read, unless there is a fault
abbrev pub file_unless : Option BinHexFault → List ℕ → Result File BinHexFault
file_unless None bytes = Ok (file_of bytes)
file_unless (Some fault) bytes = Err fault

-- the same, or that there are more values than the most that are read
abbrev pub file_within : ℕ → Reading → Result File BinHexFault
file_within most reading =
    if nat_lt most (length reading.values) then Err (TooLong (length reading.values) most)
    else file_unless (first_fault reading) (values_of reading)

abbrev pub file_from : ℕ → Option ℕ → List ℕ → Result File BinHexFault
file_from most None text = Err NoText
file_from most (Some colon) text = file_within most (decoded_from (colon + 1) text)

-- the file that a text stands for where that is at most so many bytes, or its first fault
abbrev pub bin_hex_within : ℕ → List ℕ → Result File BinHexFault
bin_hex_within most text = file_from most (colon_of text) text

-- The most bytes that are read of a text of this length: 64 MiB, or three times as many as it has. A text without runs
-- stands for fewer than it has. A number of the host has 64 bits.
abbrev pub most_of : ℕ → ℕ
most_of count = max 67108864 (min (2 ^ 64 - 1) (3 * count))

-- the file that a text stands for, or its first fault
abbrev pub bin_hex_of : List ℕ → Result File BinHexFault
bin_hex_of text = bin_hex_within (most_of (length text)) text

-- how many bytes a text stands for, as far as it is read
abbrev pub length_from : Option ℕ → List ℕ → ℕ
length_from None text = 0
length_from (Some colon) text = length (decoded_from (colon + 1) text).values

abbrev pub length_of : List ℕ → ℕ
length_of text = length_from (colon_of text) text

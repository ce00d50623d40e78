-- Resources as `data` statements of Rez.
use Rattle.std.specs.Prelude.{ℕ, ◌+◌, ◌-◌, ◌*◌, ◌/◌, ◌%◌, ◌==◌, ◌&&◌, ◌||◌, Bool, true, not, nat_le, nat_lt, if◌then◌else◌, List, [], ◌∷◌, ◌++◌, length, map, filter, replicate, codes, Option, None, Some}
use Rattle.std.specs.List.{flat_map, list_all}
use Rattle.std.specs.Fmt.{digit_glyph, signed_decimal}
use Rattle.std.specs.Int.RustNames.{bit_and}
use Rattle.std.specs.Simd.{first_chunks}
use Rattle.byteorder.specs.Endian.{big_bytes}
use Rattle.fork_bytes.specs.Rows.{Row}
use Rattle.fork_bytes.specs.declared.table.Table.{Table}
use Rattle.fork_list.specs.Listing.{is_chosen}
use Rattle.fork_rez.specs.declared.attribute.Attribute.{Attribute}
use Rattle.fork_rez.specs.declared.attribute.Attribute.TheVariants.{SysHeap, Purgeable, Locked, Protected, Preload}

-- a byte in two hexadecimal digits
abbrev pub hexadecimal : ℕ → List ℕ
hexadecimal byte = digit_glyph true (byte / 16) ∷ digit_glyph true (byte % 16) ∷ []

-- whether a byte is printable ASCII
abbrev pub is_printable : ℕ → Bool
is_printable byte = nat_le 32 byte && nat_le byte 126

-- a byte between quotes: itself where it is printable, and else `\0x` and two digits; a backslash is before this
-- quote and a backslash
abbrev pub written : ℕ → ℕ → List ℕ
written quote byte =
    if byte == quote || byte == 92 then 92 ∷ byte ∷ []
    else if is_printable byte then byte ∷ []
    else codes "\\0x" ++ hexadecimal byte

-- a name between quotes, if there is one, with a comma before it
abbrev pub name_text : Option (List ℕ) → List ℕ
name_text None = []
name_text (Some name) = codes ", \"" ++ (flat_map (written 34) name ++ 34 ∷ [])

-- the bit of an attribute
abbrev pub bit_of : Attribute → ℕ
bit_of SysHeap = 64
bit_of Purgeable = 32
bit_of Locked = 16
bit_of Protected = 8
bit_of Preload = 4

-- the word for an attribute
abbrev pub word_of : Attribute → List ℕ
word_of SysHeap = codes "sysheap"
word_of Purgeable = codes "purgeable"
word_of Locked = codes "locked"
word_of Protected = codes "protected"
word_of Preload = codes "preload"

-- the attributes that have words
abbrev pub attributes : List Attribute
attributes = SysHeap ∷ Purgeable ∷ Locked ∷ Protected ∷ Preload ∷ []

-- the word for an attribute, with a comma before it, where its bit is set
abbrev pub attribute_text : ℕ → Attribute → List ℕ
attribute_text bits attribute = if bit_and bits (bit_of attribute) == 0 then [] else codes ", " ++ word_of attribute

-- attributes in words; where a bit is set that has no word (128, 2 or 1), all of them as `$` and two digits
abbrev pub attributes_text : ℕ → List ℕ
attributes_text bits = if bit_and bits 131 == 0 then flat_map (attribute_text bits) attributes else codes ", $" ++ hexadecimal bits

-- bytes in hexadecimal digits, from this place in a line on, with a blank before each second byte but the first
abbrev pub digits_text : ℕ → List ℕ → List ℕ
digits_text at [] = []
digits_text at (byte ∷ bytes) = (if nat_lt 0 at && at % 2 == 0 then 32 ∷ [] else []) ++ (hexadecimal byte ++ digits_text (at + 1) bytes)

-- a byte in a comment: itself where it is printable and no `*`, and else a dot
abbrev pub shown : ℕ → ℕ
shown byte = if is_printable byte && not (byte == 42) then byte else 46

-- a line of data: bytes in hexadecimal digits
abbrev pub line_text : List ℕ → List ℕ
line_text bytes = codes "\t$\"" ++ (digits_text 0 bytes ++ 34 ∷ [])

-- how many blanks are between the digits of so many bytes and their comment: 12 in a full line, whose digits are 39
-- wide
abbrev pub gap_of : ℕ → ℕ
gap_of count = 12 + (39 - (2 * count + (count - 1) / 2))

-- a line of data with its comment
abbrev pub commented : List ℕ → List ℕ
commented bytes = line_text bytes ++ (replicate (gap_of (length bytes)) 32 ++ (codes "/* " ++ (map shown bytes ++ codes " */\n")))

-- bytes in lines of 16
abbrev pub lines_of : List ℕ → List (List ℕ)
lines_of bytes = first_chunks 16 ((length bytes + 15) / 16) bytes

-- a resource
abbrev pub row_text : Row → List ℕ
row_text row = codes "data '" ++ (flat_map (written 39) row.kind ++ (codes "' (" ++ (signed_decimal row.id ++ (name_text row.name
    ++ (attributes_text row.attributes.0 ++ (codes ") {\n" ++ (flat_map commented (lines_of row.datum) ++ codes "};\n\n")))))))

-- the 240 bytes for the system and the application, and the map's attributes
abbrev pub map_bytes : Table → List ℕ
map_bytes table = table.extra ++ big_bytes 2 table.map_attributes

-- what a comment begins with that has those
abbrev pub map_word : List ℕ
map_word = codes "/*resfork: the map's 240 extra bytes and its attributes"

-- those bytes in a comment, unless all are 0
abbrev pub map_text : List ℕ → List ℕ
map_text bytes = if list_all (λ byte. byte == 0) bytes then []
    else map_word ++ (10 ∷ (line_text bytes ++ codes "\n*/\n\n"))

-- a table
abbrev pub text_of : Table → List ℕ
text_of table = map_text (map_bytes table) ++ flat_map row_text table.rows

-- rows of these types
abbrev pub chosen_rows : List (List ℕ) → List Row → List Row
chosen_rows kinds rows = filter (λ row. is_chosen kinds row.kind) rows

-- a table with its rows of these types alone
abbrev pub chosen : List (List ℕ) → Table → Table
chosen kinds table = record { rows = chosen_rows kinds table.rows; extra = table.extra; map_attributes = table.map_attributes }

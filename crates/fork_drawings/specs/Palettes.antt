-- The colours of the values of dots (Inside Macintosh: Imaging With QuickDraw, "Color tables").
use Rattle.std.specs.Prelude.{◌<◌, ⊤, ℕ, zero, suc, ◌+◌, ◌*◌, ◌^◌, ◌%◌, ◌==◌, nat_lt, nat_le, if◌then◌else◌, List}
use Rattle.byteorder.specs.Endian.{big_from}
use Rattle.fork_pictures.specs.declared.pixel.Colour.{Colour}
use Rattle.fork_pictures.specs.Colours.{black, white}
use Rattle.pict_bytes.specs.declared.plane.Colours.{Colours}
use Rattle.pict_bytes.specs.declared.plane.Colours.TheVariants as of
use Rattle.fork_drawings.specs.Dots.{parts_at}

-- how many entries the table at a place has: it has the number of the last
abbrev pub entry_count : List ℕ → ℕ → ℕ
entry_count bytes table = (big_from (table + 6) 2 bytes + 1) % 65536

-- the colour of an entry, after its value: of each part of 16 bits the higher byte
abbrev pub entry_colour : List ℕ → ℕ → ℕ → Colour
entry_colour bytes table entry = parts_at bytes (table + 10 + 8 * entry) 2

-- the colour of the last of so many entries that has a value, or black
abbrev pub valued : List ℕ → ℕ → ℕ → ℕ → Colour
valued bytes table value zero = black
valued bytes table value (suc entry) =
    if big_from (table + 8 + 8 * entry) 2 bytes == value then entry_colour bytes table entry else valued bytes table value entry

-- the colour of a value where the entries are in the order of their values
abbrev pub in_order : List ℕ → ℕ → ℕ → Colour
in_order bytes table value = if nat_lt value (entry_count bytes table) then entry_colour bytes table value else black

-- 0 is white, all else black
abbrev pub two_colours : ℕ → Colour
two_colours value = if value == 0 then white else black

-- the colour of a value; the highest of a table's flags says whether its entries are in order
abbrev pub colour_of : Colours → List ℕ → ℕ → Colour
colour_of (of.Table table) bytes value =
    if nat_le 32768 (big_from (table + 4) 2 bytes) then in_order bytes table value
    else valued bytes table value (entry_count bytes table)
colour_of of.BlackAndWhite bytes value = two_colours value
colour_of of.Direct bytes value = two_colours value

-- a table is at a place of 39 bits
abbrev pub IsLow : Colours → Type 0
IsLow (of.Table table) = table < 2 ^ 39
IsLow of.BlackAndWhite = ⊤
IsLow of.Direct = ⊤

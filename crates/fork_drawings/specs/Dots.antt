-- The colours of the dots of a row (Inside Macintosh: Imaging With QuickDraw, "Color QuickDraw", "Pixel maps").
use Rattle.std.specs.Prelude.{ℕ, ◌+◌, ◌-◌, ◌*◌, ◌/◌, ◌%◌, ◌^◌, List, slice_index}
use Rattle.byteorder.specs.Endian.{big_from}
use Rattle.fork_pictures.specs.declared.pixel.Colour.{Colour}
use Rattle.pict_bytes.specs.declared.bits.Depth.{Depth}
use Rattle.pict_bytes.specs.declared.bits.Depth.TheVariants.{One, Two, Four}

-- a part of five bits, as one of eight: its highest bits follow it
abbrev pub spread : ℕ → ℕ
spread part = part * 8 + part / 4

-- the colour of a word of three parts of five bits
abbrev pub colour_15 : ℕ → Colour
colour_15 word = record { red = spread (word / 1024 % 32); green = spread (word / 32 % 32); blue = spread (word % 32) }

-- the colour of the dot of 16 bits in a column
abbrev pub dot_15 : List ℕ → ℕ → Colour
dot_15 row x = colour_15 (big_from (2 * x) 2 row)

-- the colour whose parts are so far from each other
abbrev pub parts_at : List ℕ → ℕ → ℕ → Colour
parts_at row red step = record { red = slice_index row red; green = slice_index row (red + step); blue = slice_index row (red + 2 * step) }

-- how many values a dot can have that isn't a colour
abbrev pub levels : Depth → ℕ
levels One = 2
levels Two = 4
levels Four = 16
levels other = 256

-- the value of the dot in a column: the highest bits of a byte are the leftmost
abbrev pub value_in : Depth → List ℕ → ℕ → ℕ
value_in One row x = slice_index row (x / 8) / 2 ^ (7 - x % 8) % 2
value_in Two row x = slice_index row (x / 4) / 2 ^ (6 - 2 * (x % 4)) % 4
value_in Four row x = slice_index row (x / 2) / 2 ^ (4 - 4 * (x % 2)) % 16
value_in other row x = slice_index row x

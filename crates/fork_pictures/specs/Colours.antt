-- The colours of the values of pixels (Inside Macintosh: Imaging With QuickDraw, "Color tables").
use Rattle.std.specs.Prelude.{ℕ, zero, suc, ◌+◌, ◌-◌, ◌*◌, ◌/◌, ◌%◌, ◌==◌, nat_lt, if◌then◌else◌, List, [], ◌∷◌, get_or, slice_index}
use Rattle.fork_pictures.specs.declared.pixel.Colour.{Colour}
use Rattle.fork_pictures.specs.declared.colours.Colours.{Colours}
use Rattle.fork_pictures.specs.declared.colours.Colours.TheVariants.{BlackAndWhite, Standard16, Standard256, InOrder, ByValue}
use Rattle.fork_pictures.specs.declared.colours.Table.{Table}
use Rattle.fork_pictures.specs.Bytes.{word_at}

abbrev pub colour : ℕ → ℕ → ℕ → Colour
colour red green blue = record { red = red; green = green; blue = blue }

abbrev pub grey : ℕ → Colour
grey part = colour part part part

abbrev pub white : Colour
white = grey 255

abbrev pub black : Colour
black = grey 0

-- the standard colour of a value of four bits
abbrev pub colour_16 : ℕ → Colour
colour_16 value =
    get_or
    (white ∷ colour 252 243 5 ∷ colour 255 100 2 ∷ colour 221 8 6 ∷ colour 242 8 132 ∷ colour 70 0 165 ∷ colour 0 0 212 ∷ colour 2 171 234
    ∷ colour 31 183 20 ∷ colour 0 100 17 ∷ colour 86 44 5 ∷ colour 144 113 58 ∷ grey 192 ∷ grey 128 ∷ grey 64 ∷ black ∷ [])
    value black

-- one of the six levels of the cube: 255, 204, 153, 102, 51, 0
abbrev pub level : ℕ → ℕ
level number = 255 - 51 * number

-- one of the ten shades of a ramp: 17 times 14, 13, 11, 10, 8, 7, 5, 4, 2, 1
abbrev pub shade : ℕ → ℕ
shade number = 17 * (14 - number - number / 2)

-- the standard colour of a value of eight bits: a cube of six levels but for its black, four ramps, and black
abbrev pub colour_256 : ℕ → Colour
colour_256 value =
    if nat_lt value 215 then colour (level (value / 36)) (level (value / 6 % 6)) (level (value % 6))
    else if nat_lt value 225 then colour (shade (value - 215)) 0 0
    else if nat_lt value 235 then colour 0 (shade (value - 225)) 0
    else if nat_lt value 245 then colour 0 0 (shade (value - 235))
    else if nat_lt value 255 then grey (shade (value - 245))
    else black

-- the colour at a place: the higher bytes of its parts
abbrev pub colour_at : List ℕ → ℕ → Colour
colour_at bytes at = colour (slice_index bytes at) (slice_index bytes (at + 2)) (slice_index bytes (at + 4))

-- the colour of the last of so many entries that has a value, or black
abbrev pub valued : Table → List ℕ → ℕ → ℕ → Colour
valued table bytes value zero = black
valued table bytes value (suc entry) =
    let at = table.start + table.step * entry in
    if word_at bytes at == value then colour_at bytes (at + 2) else valued table bytes value entry

-- the colour of a value
abbrev pub colour_of : Colours → List ℕ → ℕ → Colour
colour_of BlackAndWhite bytes value = if value == 0 then white else black
colour_of Standard16 bytes value = colour_16 value
colour_of Standard256 bytes value = colour_256 value
colour_of (InOrder table) bytes value = if nat_lt value table.count then colour_at bytes (table.start + table.step * value) else black
colour_of (ByValue table) bytes value = valued table bytes value table.count

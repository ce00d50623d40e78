-- The pictures of resources that have a pixel map (Inside Macintosh: Imaging With QuickDraw, "Color QuickDraw", "Cursor
-- Utilities"; Inside Macintosh, volume V, "Color Icons").
use Rattle.std.specs.Prelude.{ℕ, ◌+◌, ◌*◌, ◌%◌, ◌==◌, ◌&&◌, ◌||◌, nat_lt, nat_le, if◌then◌else◌, List, length, Option, None, Some, Result, Ok, Err}
use Rattle.fork_pictures.specs.declared.colours.Colours.{Colours}
use Rattle.fork_pictures.specs.declared.colours.Colours.TheVariants.{InOrder, ByValue}
use Rattle.fork_pictures.specs.declared.drawing.Drawing.{Drawing}
use Rattle.fork_pictures.specs.declared.drawing.Mask.{Mask}
use Rattle.fork_pictures.specs.declared.drawing.Mask.TheVariants as seen
use Rattle.fork_pictures.specs.declared.drawing.Values.TheVariants as valued
use Rattle.fork_pictures.specs.declared.fault.Fault.{Fault}
use Rattle.fork_pictures.specs.declared.fault.Fault.TheVariants as fault
use Rattle.fork_pictures.specs.declared.maps.PixelMap.{PixelMap}
use Rattle.fork_pictures.specs.declared.rows.Depth.{Depth}
use Rattle.fork_pictures.specs.declared.rows.Depth.TheVariants.{One, Two, Four, Eight}
use Rattle.fork_pictures.specs.Bytes.{extent, long_at, word_at}
use Rattle.fork_pictures.specs.Drawings.{and_then, flat, rows}
use Rattle.fork_pictures.specs.Rows.{each}

-- how many bits a pixel has, where they are drawn
abbrev pub depth_from : ℕ → Option Depth
depth_from bits =
    if bits == 1 then Some One
    else if bits == 2 then Some Two
    else if bits == 4 then Some Four
    else if bits == 8 then Some Eight
    else None

-- a pixel map at a place, whose rows have enough bytes
abbrev pub with_depth : List ℕ → ℕ → Option Depth → Result PixelMap Fault
with_depth bytes at None = Err (fault.Depth (at + 32))
with_depth bytes at (Some depth) =
    let row = word_at bytes (at + 4) % 16384 in
    let width = extent bytes (at + 8) (at + 12) in
    if nat_lt (row * each depth) width then Err (fault.RowBytes (at + 4))
    else Ok (record { width = width; height = extent bytes (at + 6) (at + 10); row = row; depth = depth })

-- the pixel map of 50 bytes at a place
abbrev pub pixel_map : List ℕ → ℕ → Result PixelMap Fault
pixel_map bytes at =
    if nat_lt (length bytes) (at + 50) then Err (fault.Short (at + 50)) else with_depth bytes at (depth_from (word_at bytes (at + 32)))

-- how many entries the table of colours at a place has: it has the number of the last
abbrev pub count_at : List ℕ → ℕ → ℕ
count_at bytes at = (word_at bytes (at + 6) + 1) % 65536

-- where the table of colours at a place ends
abbrev pub table_end : List ℕ → ℕ → ℕ
table_end bytes at = at + 8 + 8 * count_at bytes at

-- the colours of the table at a place: by their values, or in their order if the highest of its flags says so
abbrev pub table_at : List ℕ → ℕ → Result Colours Fault
table_at bytes at =
    let count = count_at bytes at in
    if nat_lt (length bytes) (table_end bytes at) then Err (fault.Short (table_end bytes at))
    else if nat_le 32768 (word_at bytes (at + 4)) then Ok (InOrder (record { start = at + 10; step = 8; count = count }))
    else Ok (ByValue (record { start = at + 8; step = 8; count = count }))

-- the picture of a pixel map whose rows are at a place
abbrev pub mapped : List ℕ → PixelMap → ℕ → Colours → Mask → Result Drawing Fault
mapped bytes map start colours mask =
    let end = start + map.row * map.height in
    if nat_lt (length bytes) end then Err (fault.Short end)
    else Ok (record { width = map.width; height = map.height; values = valued.Rows (rows start map.row map.depth); colours = colours; mask = mask })

-- the picture of a pixel map whose table of colours is at one place, and whose rows are at another
abbrev pub coloured : List ℕ → PixelMap → ℕ → ℕ → Mask → Result Drawing Fault
coloured bytes map table start mask = and_then (table_at bytes table) (λ colours. mapped bytes map start colours mask)

-- how many bytes the bits have that a bit map at a place describes
abbrev pub bits_long : List ℕ → ℕ → ℕ
bits_long bytes at = word_at bytes (at + 4) * extent bytes (at + 6) (at + 10)

-- a colour icon: a pixel map, the bit maps of its mask and of its picture without colours, the bits of these two, its
-- colours, its rows
abbrev pub colour_icon : List ℕ → Result Drawing Fault
colour_icon bytes =
    if nat_lt (length bytes) 82 then Err (fault.Short 82)
    else and_then (pixel_map bytes 0) (λ map.
    let row = word_at bytes 54 in
    let table = 82 + bits_long bytes 50 + bits_long bytes 64 in
    if nat_lt (8 * row) map.width || nat_lt (extent bytes 56 60) map.height then Err (fault.Mask 50)
    else coloured bytes map table (table_end bytes table) (seen.Own (rows 82 row One)))

-- the picture of the pixel map that the long word at 2 says, with the rows that the one at 6 says, and the colours that
-- the map says
abbrev pub pointed : List ℕ → PixelMap → Mask → Result Drawing Fault
pointed bytes map mask = coloured bytes map (long_at bytes (long_at bytes 2 + 42)) (long_at bytes 6) mask

-- the picture of a cursor's pixel map
abbrev pub cursor_map : List ℕ → Mask → Result Drawing Fault
cursor_map bytes mask =
    and_then (pixel_map bytes (long_at bytes 2)) (λ map.
    if map.width == 16 && map.height == 16 then pointed bytes map mask else Err (fault.Bounds (long_at bytes 2 + 6)))

-- the picture of a pattern's pixel map
abbrev pub pattern_map : List ℕ → Result Drawing Fault
pattern_map bytes = and_then (pixel_map bytes (long_at bytes 2)) (λ map. pointed bytes map seen.All)

-- a cursor in colour, or in black and white: its two pictures of 16 rows without colours, and its pixel map
abbrev pub colour_cursor : List ℕ → Result Drawing Fault
colour_cursor bytes =
    let mask = seen.Own (rows 52 2 One) in
    if nat_lt (length bytes) 96 then Err (fault.Short 96)
    else if word_at bytes 0 == 32768 then Ok (flat 20 2 16 mask)
    else if word_at bytes 0 == 32769 then cursor_map bytes mask
    else Err (fault.Type 0)

-- a pattern in colour, or in black and white
abbrev pub colour_pattern : List ℕ → Result Drawing Fault
colour_pattern bytes =
    if nat_lt (length bytes) 28 then Err (fault.Short 28)
    else if word_at bytes 0 == 0 then Ok (flat 20 1 8 seen.All)
    else if word_at bytes 0 == 1 then pattern_map bytes
    else Err (fault.Type 0)

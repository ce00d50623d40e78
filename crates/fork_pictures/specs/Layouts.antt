-- Where the pictures are in the resources whose layout is fixed (Inside Macintosh: More Macintosh Toolbox, "Icon
-- Utilities"; Imaging With QuickDraw, "Cursor Utilities", "QuickDraw Drawing", "Color Manager", "Palette Manager").
use Rattle.std.specs.Prelude.{ℕ, ◌+◌, ◌*◌, ◌/◌, ◌%◌, ◌==◌, nat_lt, nat_le, min, if◌then◌else◌, List, [], length, Option, None, Some, unwrap_or, Result, Ok, Err}
use Rattle.fork_pictures.specs.declared.colours.Colours.{Colours}
use Rattle.fork_pictures.specs.declared.colours.Colours.TheVariants.{Standard16, Standard256, InOrder}
use Rattle.fork_pictures.specs.declared.drawing.Drawing.{Drawing}
use Rattle.fork_pictures.specs.declared.drawing.Mask.{Mask}
use Rattle.fork_pictures.specs.declared.drawing.Mask.TheVariants as seen
use Rattle.fork_pictures.specs.declared.drawing.Values.TheVariants as valued
use Rattle.fork_pictures.specs.declared.fault.Fault.{Fault}
use Rattle.fork_pictures.specs.declared.fault.Fault.TheVariants.{Length, MaskLength, Multiple, Short, TooLarge}
use Rattle.fork_pictures.specs.declared.kind.IconColours.{IconColours}
use Rattle.fork_pictures.specs.declared.kind.IconColours.TheVariants.{Sixteen, All}
use Rattle.fork_pictures.specs.declared.kind.IconSize.{IconSize}
use Rattle.fork_pictures.specs.declared.kind.Kind.{Kind}
use Rattle.fork_pictures.specs.declared.kind.Kind.TheVariants.{Icon, Masked, InColour, SmallIcons, Cursor, Pattern, Patterns, ColourIcon, ColourCursor, ColourPattern, ColourTable, Palette}
use Rattle.fork_pictures.specs.declared.rows.Depth.{Depth}
use Rattle.fork_pictures.specs.declared.rows.Depth.TheVariants.{One, Four, Eight}
use Rattle.fork_pictures.specs.Bytes.{word_at}
use Rattle.fork_pictures.specs.Drawings.{and_then, drawn, flat, rows}
use Rattle.fork_pictures.specs.Image.{Image, most}
use Rattle.fork_pictures.specs.Kinds.{height_of, width_of}
use Rattle.fork_pictures.specs.Maps.{colour_cursor, colour_icon, colour_pattern, count_at, table_end}

-- rows in black and white, and as many for the mask after them
abbrev pub masked : ℕ → ℕ → Drawing
masked row height = flat 0 row height (seen.Own (rows (row * height) row One))

-- the colours of a table, 16 in a row
abbrev pub swatches : ℕ → ℕ → ℕ → Drawing
swatches start step count =
    record {
      width = min count 16;
      height = (count + 15) / 16;
      values = valued.Places;
      colours = InOrder (record { start = start; step = step; count = count });
      mask = seen.First count;
    }

-- a drawing, if there are just so many bytes
abbrev pub exactly : ℕ → List ℕ → Drawing → Result Drawing Fault
exactly count bytes drawing = if length bytes == count then Ok drawing else Err (Length count)

-- a drawing, if there are so many bytes
abbrev pub at_least : ℕ → List ℕ → Drawing → Result Drawing Fault
at_least count bytes drawing = if nat_le count (length bytes) then Ok drawing else Err (Short count)

-- the mask of an icon in colour: the second half of the resource that has it; all is seen where there is none
abbrev pub mask_of : IconSize → Option (List ℕ) → Result Mask Fault
mask_of size None = Ok seen.All
mask_of size (Some other) =
    let row = width_of size / 8 in
    let half = row * height_of size in
    if length other == 2 * half then Ok (seen.Other (rows half row One)) else Err (MaskLength (2 * half))

abbrev pub depth_of : IconColours → Depth
depth_of Sixteen = Four
depth_of All = Eight

abbrev pub colours_of : IconColours → Colours
colours_of Sixteen = Standard16
colours_of All = Standard256

-- how many bytes a row of an icon in colour has
abbrev pub row_of : IconSize → IconColours → ℕ
row_of size Sixteen = width_of size / 2
row_of size All = width_of size

-- an icon in colour under a mask
abbrev pub in_colour : IconSize → IconColours → Mask → Drawing
in_colour size colours mask =
    record {
      width = width_of size;
      height = height_of size;
      values = valued.Rows (rows 0 (row_of size colours) (depth_of colours));
      colours = colours_of colours;
      mask = mask;
    }

-- how the bytes of a resource are a picture, or what isn't so of them; the other resource has the mask of an icon in
-- colour
abbrev pub drawing_of : Kind → List ℕ → Option (List ℕ) → Result Drawing Fault
drawing_of Icon bytes other = exactly 128 bytes (flat 0 4 32 seen.All)
drawing_of (Masked size) bytes other =
    let row = width_of size / 8 in
    exactly (2 * (row * height_of size)) bytes (masked row (height_of size))
drawing_of (InColour size colours) bytes other =
    let count = row_of size colours * height_of size in
    if length bytes == count then and_then (mask_of size other) (λ mask. Ok (in_colour size colours mask)) else Err (Length count)
drawing_of SmallIcons bytes other = if length bytes % 32 == 0 then Ok (flat 0 2 (length bytes / 2) seen.All) else Err (Multiple 32)
drawing_of Cursor bytes other = exactly 68 bytes (masked 2 16)
drawing_of Pattern bytes other = exactly 8 bytes (flat 0 1 8 seen.All)
drawing_of Patterns bytes other = let height = 8 * word_at bytes 0 in exactly (2 + height) bytes (flat 2 1 height seen.All)
drawing_of ColourIcon bytes other = colour_icon bytes
drawing_of ColourCursor bytes other = colour_cursor bytes
drawing_of ColourPattern bytes other = colour_pattern bytes
drawing_of ColourTable bytes other = at_least (table_end bytes 0) bytes (swatches 10 8 (count_at bytes 0))
drawing_of Palette bytes other = let count = word_at bytes 0 in at_least (16 + 16 * count) bytes (swatches 16 16 count)

-- the picture of a drawing
abbrev pub then_drawn : Result Drawing Fault → List ℕ → List ℕ → Result Image Fault
then_drawn (Ok drawing) bytes other = drawn drawing bytes other
then_drawn (Err fault) bytes other = Err fault

-- the picture that the bytes of a resource are, or what isn't so of them
abbrev pub picture_of : Kind → List ℕ → Option (List ℕ) → Result Image Fault
picture_of kind bytes other =
    if nat_lt most (length bytes) then Err TooLarge else then_drawn (drawing_of kind bytes other) bytes (unwrap_or other [])

-- How the bytes of a resource are a picture.
use Rattle.std.specs.Prelude.{ℕ, ◌+◌, ◌*◌, ◌==◌, ◌||◌, nat_lt, if◌then◌else◌, Bool, true, List, Result, Ok, Err}
use Rattle.fork_pictures.specs.declared.drawing.Drawing.{Drawing}
use Rattle.fork_pictures.specs.declared.drawing.Mask.{Mask}
use Rattle.fork_pictures.specs.declared.drawing.Mask.TheVariants as seen
use Rattle.fork_pictures.specs.declared.drawing.Values.{Values}
use Rattle.fork_pictures.specs.declared.drawing.Values.TheVariants as valued
use Rattle.fork_pictures.specs.declared.fault.Fault.{Fault}
use Rattle.fork_pictures.specs.declared.fault.Fault.TheVariants.{Empty, TooLarge}
use Rattle.fork_pictures.specs.declared.pixel.Pixel.{Pixel}
use Rattle.fork_pictures.specs.Colours.{colour_of}
use Rattle.fork_pictures.specs.Image.{Image, most, raster}
use Rattle.fork_pictures.specs.declared.colours.Colours.TheVariants.{BlackAndWhite}
use Rattle.fork_pictures.specs.declared.rows.Depth.{Depth}
use Rattle.fork_pictures.specs.declared.rows.Depth.TheVariants.{One}
use Rattle.fork_pictures.specs.declared.rows.Rows.{Rows}
use Rattle.fork_pictures.specs.Rows.{levels, value_at}

-- how many values pixels can have
abbrev pub count_in : Values → ℕ → ℕ
count_in (valued.Rows rows) size = levels rows.depth
count_in valued.Places size = size

abbrev pub levels_of : Drawing → ℕ
levels_of drawing = count_in drawing.values (drawing.width * drawing.height)

-- the value of a pixel: where the rows have it, or its place
abbrev pub value_in : Values → ℕ → List ℕ → ℕ → ℕ → ℕ
value_in (valued.Rows rows) width bytes x y = value_at rows bytes x y
value_in valued.Places width bytes x y = width * y + x

abbrev pub value_of : Drawing → List ℕ → ℕ → ℕ → ℕ
value_of drawing bytes x y = value_in drawing.values drawing.width bytes x y

-- whether a pixel is seen: where the mask's bit is 1
abbrev pub seen_in : Mask → ℕ → List ℕ → List ℕ → ℕ → ℕ → Bool
seen_in seen.All width bytes other x y = true
seen_in (seen.Own rows) width bytes other x y = value_at rows bytes x y == 1
seen_in (seen.Other rows) width bytes other x y = value_at rows other x y == 1
seen_in (seen.First count) width bytes other x y = nat_lt (width * y + x) count

abbrev pub is_seen : Drawing → List ℕ → List ℕ → ℕ → ℕ → Bool
is_seen drawing bytes other x y = seen_in drawing.mask drawing.width bytes other x y

-- the pixel in a column and a row
abbrev pub pixel_of : Drawing → List ℕ → List ℕ → ℕ → ℕ → Pixel
pixel_of drawing bytes other x y =
    record {
      colour = colour_of drawing.colours bytes (value_of drawing bytes x y);
      is_seen = is_seen drawing bytes other x y;
    }

-- the picture: each pixel by its column and row
abbrev pub drawn : Drawing → List ℕ → List ℕ → Result Image Fault
drawn drawing bytes other =
    if drawing.width == 0 || drawing.height == 0 then Err Empty
    else if nat_lt most (drawing.width * drawing.height) then Err TooLarge
    else Ok (raster drawing.width drawing.height (pixel_of drawing bytes other))

-- what comes after a result, if that is right
abbrev pub and_then : {A B : Type 0} → Result A Fault → (A → Result B Fault) → Result B Fault
and_then (Ok value) next = next value
and_then (Err fault) next = Err fault

-- rows of so many bytes from a place on
abbrev pub rows : ℕ → ℕ → Depth → Rows
rows start width depth = record { start = start; width = width; depth = depth }

-- rows in black and white
abbrev pub flat : ℕ → ℕ → ℕ → Mask → Drawing
flat start row height mask =
    record { width = 8 * row; height = height; values = valued.Rows (rows start row One); colours = BlackAndWhite; mask = mask }

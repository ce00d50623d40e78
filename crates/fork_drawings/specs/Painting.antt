-- What opcodes draw, dot by dot (Inside Macintosh: Imaging With QuickDraw, appendix A, "CopyBits").
use Rattle.std.specs.Prelude.{◌≡◌, ◌≤◌, ◌<◌, ℕ, ◌+◌, ◌-◌, ◌*◌, ◌==◌, ◌&&◌, ◌||◌, if◌then◌else◌, Bool, true, false, List, [], ◌∷◌, length, map, get_or, Option, Some, None, Result, Ok, Err}
use Rattle.std.specs.List.{range_with_len}
use Rattle.fork_pictures.specs.declared.pixel.Colour.{Colour}
use Rattle.fork_pictures.specs.declared.pixel.Pixel.{Pixel}
use Rattle.fork_pictures.specs.Colours.{black, white}
use Rattle.pict_bytes.specs.declared.bits.Depth.{Depth}
use Rattle.pict_bytes.specs.declared.bits.Depth.TheVariants.{Sixteen, ThirtyTwo}
use Rattle.pict_bytes.specs.declared.bits.Rect.{Rect}
use Rattle.pict_bytes.specs.declared.fault.Fault.{Fault}
use Rattle.pict_bytes.specs.declared.operands.Bits.{Bits}
use Rattle.pict_bytes.specs.declared.plane.Packing.{Packing}
use Rattle.pict_bytes.specs.declared.plane.Packing.TheVariants.{NoPadding, Parts}
use Rattle.pict_bytes.specs.declared.sequence.Opcode.{Opcode}
use Rattle.pict_bytes.specs.declared.shape.Shape.{Shape}
use Rattle.pict_bytes.specs.declared.shape.Shape.TheVariants as shape
use Rattle.pict_bytes.specs.Maps.{width}
use Rattle.pict_bytes.specs.Operands.{bits_at}
use Rattle.pict_bytes.specs.Shapes.{shape_of}
use Rattle.fork_drawings.specs.Dots.{dot_15, levels, parts_at, value_in}
use Rattle.fork_drawings.specs.Lines.{line}
use Rattle.fork_drawings.specs.Palettes.{colour_of}
use Rattle.fork_drawings.specs.Regions.{has_at}
use Rattle.fork_drawings.specs.Spans.{columns, origin, rows}

-- a dot that nothing draws
abbrev pub blank : Pixel
blank = record { colour = white; is_seen = true }

-- what is past the last dot
abbrev pub unseen : Pixel
unseen = record { colour = black; is_seen = false }

-- the colours of the values of a picture's dots
abbrev pub palette_of : Bits → List ℕ → List Colour
palette_of bits bytes = map (colour_of bits.colours bytes) (range_with_len 0 (levels bits.map.depth))

-- the colour of the dot of 32 bits in a column of a row: of those kept part by part, the last three parts
abbrev pub full_dot : Packing → Bits → List ℕ → ℕ → Colour
full_dot Parts bits row x = parts_at row ((bits.map.parts - 3) * width bits.map.bounds + x) (width bits.map.bounds)
full_dot NoPadding bits row x = parts_at row (3 * x) 1
full_dot other bits row x = parts_at row (4 * x + 1) 1

-- the colour of the dot in a column of a row
abbrev pub dot_of : Depth → Bits → List Colour → List ℕ → ℕ → Colour
dot_of Sixteen bits palette row x = dot_15 row x
dot_of ThirtyTwo bits palette row x = full_dot bits.packing bits row x
dot_of depth bits palette row x = get_or palette (value_in depth row x) black

-- whether a dot is in a region, if there is one
abbrev pub in_mask : List ℕ → Option ℕ → ℕ → ℕ → Bool
in_mask bytes None x y = true
in_mask bytes (Some region) x y = has_at bytes region x y

-- a dot at coordinates, where a row of a picture is drawn over it: in the column that the map has there
abbrev pub in_column : List ℕ → Option ℕ → Bits → List ℕ → Option ℕ → ℕ → ℕ → Pixel → Pixel
in_column bytes clip bits row None x y pixel = pixel
in_column bytes clip bits row (Some column) x y pixel =
    if in_mask bytes clip x y && in_mask bytes bits.mask x y
    then record { colour = dot_of bits.map.depth bits (palette_of bits bytes) row column; is_seen = true }
    else pixel

-- a dot at coordinates, where a picture is drawn over it
abbrev pub in_row : List ℕ → Option ℕ → Bits → Option ℕ → ℕ → ℕ → Pixel → Pixel
in_row bytes clip bits None x y pixel = pixel
in_row bytes clip bits (Some row) x y pixel = in_column bytes clip bits (line bits bytes row) (origin (columns bits) x) x y pixel

unfoldable pub painted : List ℕ → Option ℕ → Bits → ℕ → ℕ → Pixel → Pixel
painted bytes clip bits x y pixel = in_row bytes clip bits (origin (rows bits) y) x y pixel

-- a mode that copies: srcCopy, or ditherCopy, which is the same where all colours can be shown
abbrev pub is_copy : ℕ → Bool
is_copy mode = mode == 0 || mode == 64

-- the picture within a picture that an opcode draws: a map whose mode copies
abbrev pub right : Result Bits Fault → Option Bits
right (Ok bits) = if is_copy bits.mode then Some bits else None
right (Err fault) = None

abbrev pub bits_in : Shape → List ℕ → ℕ → Option Bits
bits_in (shape.Bits storage masked) bytes at = right (bits_at storage masked bytes at)
bits_in other bytes at = None

-- a dot at coordinates, after an opcode
abbrev pub drawn_bits : List ℕ → Option ℕ → Option Bits → ℕ → ℕ → Pixel → Pixel
drawn_bits bytes clip (Some bits) x y pixel = painted bytes clip bits x y pixel
drawn_bits bytes clip None x y pixel = pixel

abbrev pub drawn_once : List ℕ → Option ℕ → Opcode → ℕ → ℕ → Pixel → Pixel
drawn_once bytes clip opcode x y pixel = drawn_bits bytes clip (bits_in (shape_of opcode.code) bytes opcode.start) x y pixel

-- the clip after an opcode: that of the last opcode $01, or none
abbrev pub clip_after : Option ℕ → Opcode → Option ℕ
clip_after clip opcode = if opcode.code == 1 then Some opcode.start else clip

-- a dot at coordinates, after opcodes
unfoldable pub drawn_by : List ℕ → Option ℕ → List Opcode → ℕ → ℕ → Pixel → Pixel
drawn_by bytes clip [] x y pixel = pixel
drawn_by bytes clip (opcode ∷ opcodes) x y pixel =
    drawn_by bytes (clip_after clip opcode) opcodes x y (drawn_once bytes clip opcode x y pixel)

-- the dot in a column and a row of a frame, after opcodes
abbrev pub dot : List ℕ → Rect → List Opcode → ℕ → ℕ → Pixel
dot bytes frame opcodes x y = drawn_by bytes None opcodes (frame.left + x) (frame.top + y) blank

-- dots before and after something is drawn: each place from one on and below another has what a function makes of it,
-- and all others are as they were
pub record IsPainted (old new : List Pixel) (from to : ℕ) (paint : ℕ → Pixel → Pixel) : Type 0 where
  pub long : length new ≡ length old
  pub before : (place : ℕ) → place < from → get_or new place unseen ≡ get_or old place unseen
  pub inside : (place : ℕ) → from ≤ place → place < to → get_or new place unseen ≡ paint place (get_or old place unseen)
  pub past : (place : ℕ) → to ≤ place → get_or new place unseen ≡ get_or old place unseen

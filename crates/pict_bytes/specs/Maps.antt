-- Rectangles, bit maps and pixel maps (Inside Macintosh: Imaging With QuickDraw, appendix A, "Data types for picture
-- opcodes").
use Rattle.std.specs.Prelude.{ℕ, ◌+◌, ◌-◌, ◌*◌, ◌%◌, ◌==◌, nat_lt, if◌then◌else◌, Bool, true, false, List, Option, Some, None, Result, Ok, Err}
use Rattle.byteorder.specs.Endian.{big_from}
use Rattle.pict_bytes.specs.declared.bits.Depth.{Depth}
use Rattle.pict_bytes.specs.declared.bits.Depth.TheVariants.{One, Two, Four, Eight, Sixteen, ThirtyTwo}
use Rattle.pict_bytes.specs.declared.bits.Map.{Map}
use Rattle.pict_bytes.specs.declared.bits.Rect.{Rect}
use Rattle.pict_bytes.specs.declared.fault.Fault.{Fault}
use Rattle.pict_bytes.specs.declared.fault.Fault.TheVariants as fault
use Rattle.pict_bytes.specs.Reading.{and_then, within}

-- how far a signed number of two bytes at a place is above the least, -32768
abbrev pub coordinate : List ℕ → ℕ → ℕ
coordinate bytes at = (big_from at 2 bytes + 32768) % 65536

-- the rectangle at a place
abbrev pub rect_at : List ℕ → ℕ → Rect
rect_at bytes at = record {
  top = coordinate bytes at;
  left = coordinate bytes (at + 2);
  bottom = coordinate bytes (at + 4);
  right = coordinate bytes (at + 6);
}

abbrev pub width : Rect → ℕ
width rect = rect.right - rect.left

abbrev pub height : Rect → ℕ
height rect = rect.bottom - rect.top

-- how many bits a dot has
abbrev pub bits : Depth → ℕ
bits One = 1
bits Two = 2
bits Four = 4
bits Eight = 8
bits Sixteen = 16
bits ThirtyTwo = 32

-- whether a dot is a colour, and no place in a table
abbrev pub is_direct : Depth → Bool
is_direct Sixteen = true
is_direct ThirtyTwo = true
is_direct other = false

-- the depth of so many bits
abbrev pub depth_from : ℕ → Option Depth
depth_from bits =
    if bits == 1 then Some One
    else if bits == 2 then Some Two
    else if bits == 4 then Some Four
    else if bits == 8 then Some Eight
    else if bits == 16 then Some Sixteen
    else if bits == 32 then Some ThirtyTwo
    else None

-- a map at a place, if its rows have enough bytes
abbrev pub enough : ℕ → Map → Result Map Fault
enough at map = if nat_lt (8 * map.row) (bits map.depth * width map.bounds) then Err (fault.RowBytes at) else Ok map

-- a bit map: the bytes of a row, whose two highest bits are flags, and the bounds
abbrev pub bit_map : List ℕ → ℕ → Result Map Fault
bit_map bytes at =
    and_then (within bytes (at + 10)) (λ end.
    enough at (record { row = big_from at 2 bytes % 16384; bounds = rect_at bytes (at + 2); depth = One; packing = 0; parts = 1 }))

-- a pixel map of such a depth
abbrev pub with_depth : List ℕ → ℕ → Option Depth → Result Map Fault
with_depth bytes at None = Err (fault.Depth (at + 28))
with_depth bytes at (Some depth) =
    enough at
    (record {
      row = big_from at 2 bytes % 16384;
      bounds = rect_at bytes (at + 2);
      depth = depth;
      packing = big_from (at + 12) 2 bytes;
      parts = big_from (at + 30) 2 bytes;
    })

-- a pixel map: a bit map, and of its other 36 bytes those at 12, its packing, at 28, its depth, and at 30, how many parts
-- a dot has
abbrev pub pixel_map : List ℕ → ℕ → Result Map Fault
pixel_map bytes at = and_then (within bytes (at + 46)) (λ end. with_depth bytes at (depth_from (big_from (at + 28) 2 bytes)))

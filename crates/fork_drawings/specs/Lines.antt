-- The rows of a picture within a picture (Inside Macintosh: Imaging With QuickDraw, appendix A, "PixData").
use Rattle.std.specs.Prelude.{ℕ, ◌+◌, ◌-◌, ◌*◌, ◌/◌, List, length, take, drop, Result, Ok, Err}
use Rattle.std.specs.Fn.{iterate}
use Rattle.pict_bytes.specs.declared.fault.Fault.{Fault}
use Rattle.pict_bytes.specs.declared.operands.Bits.{Bits}
use Rattle.pict_bytes.specs.declared.bits.Map.{Map}
use Rattle.pict_bytes.specs.declared.plane.Packing.{Packing}
use Rattle.pict_bytes.specs.declared.plane.Packing.TheVariants as kept
use Rattle.pict_bytes.specs.Planes.{counter, is_wide, row_end}
use Rattle.fork_drawings.specs.Packed.{unpacked}

-- how many bytes count those of a row
abbrev pub head_of : Packing → Map → ℕ
head_of kept.None map = 0
head_of kept.NoPadding map = 0
head_of kept.Bytes map = counter (is_wide map)
head_of kept.Words map = counter (is_wide map)
head_of kept.Parts map = counter (is_wide map)

abbrev pub head_long : Bits → ℕ
head_long bits = head_of bits.packing bits.map

-- a place, or another where there is none
abbrev pub place_or : ℕ → Result ℕ Fault → ℕ
place_or other (Ok place) = place
place_or other (Err fault) = other

-- where the row after the one at a place is
abbrev pub next_of : Packing → Map → List ℕ → ℕ → ℕ
next_of kept.None map bytes at = at + map.row
next_of kept.NoPadding map bytes at = at + 3 * (map.row / 4)
next_of kept.Bytes map bytes at = place_or (length bytes) (row_end bytes at (is_wide map))
next_of kept.Words map bytes at = place_or (length bytes) (row_end bytes at (is_wide map))
next_of kept.Parts map bytes at = place_or (length bytes) (row_end bytes at (is_wide map))

abbrev pub next_place : Bits → List ℕ → ℕ → ℕ
next_place bits bytes at = next_of bits.packing bits.map bytes at

-- the bytes of the row at a place, as they are kept
abbrev pub piece : Bits → List ℕ → ℕ → List ℕ
piece bits bytes at = let start = at + head_long bits in take (next_place bits bytes at - start) (drop start bytes)

-- those bytes unpacked, until there are enough for a row
abbrev pub expanded : Packing → Map → List ℕ → List ℕ
expanded kept.None map piece = piece
expanded kept.NoPadding map piece = piece
expanded kept.Bytes map piece = unpacked 1 map.row (length piece) piece
expanded kept.Words map piece = unpacked 2 map.row (length piece) piece
expanded kept.Parts map piece = unpacked 1 map.row (length piece) piece

-- the bytes of a row
unfoldable pub line : Bits → List ℕ → ℕ → List ℕ
line bits bytes row = expanded bits.packing bits.map (piece bits bytes (iterate (next_place bits bytes) row bits.start))

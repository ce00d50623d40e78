-- Where the rows of a picture are, how they are kept, and where they end (Inside Macintosh: Imaging With QuickDraw,
-- appendix A, "Data types for picture opcodes", "PixData").
use Rattle.std.specs.Prelude.{◌≤◌, ⊤, ℕ, zero, suc, ◌+◌, ◌*◌, ◌/◌, ◌%◌, ◌==◌, ◌||◌, nat_lt, nat_le, if◌then◌else◌, Bool, List, length, Result, Ok, Err}
use Rattle.byteorder.specs.Endian.{big_from}
use Rattle.pict_bytes.specs.declared.bits.Depth.{Depth}
use Rattle.pict_bytes.specs.declared.bits.Depth.TheVariants.{Sixteen, ThirtyTwo}
use Rattle.pict_bytes.specs.declared.bits.Map.{Map}
use Rattle.pict_bytes.specs.declared.fault.Fault.{Fault}
use Rattle.pict_bytes.specs.declared.fault.Fault.TheVariants as fault
use Rattle.pict_bytes.specs.declared.plane.Colours.{Colours}
use Rattle.pict_bytes.specs.declared.plane.Colours.TheVariants as colours
use Rattle.pict_bytes.specs.declared.plane.Packing.{Packing}
use Rattle.pict_bytes.specs.declared.plane.Packing.TheVariants as kept
use Rattle.pict_bytes.specs.declared.plane.Plane.{Plane}
use Rattle.pict_bytes.specs.declared.shape.Storage.{Storage}
use Rattle.pict_bytes.specs.declared.shape.Storage.TheVariants.{Plain, Packed, Direct}
use Rattle.pict_bytes.specs.Maps.{bit_map, height, is_direct, pixel_map}
use Rattle.pict_bytes.specs.Reading.{and_then, within}

-- where the table of colours at a place ends: it has the number of its last entry, and each has 8 bytes
abbrev pub table_end : List ℕ → ℕ → Result ℕ Fault
table_end bytes at = and_then (within bytes (at + 8)) (λ start. within bytes (at + 8 + 8 * ((big_from (at + 6) 2 bytes + 1) % 65536)))

-- a table, if there is one, begins within bytes
abbrev pub IsInside : Colours → List ℕ → Type 0
IsInside (colours.Table at) bytes = at ≤ length bytes
IsInside colours.BlackAndWhite bytes = ⊤
IsInside colours.Direct bytes = ⊤

-- a bit map; a pixel map and its table of colours; a pixel map of colours, after four bytes that mean nothing
abbrev pub flat_plane : List ℕ → ℕ → Result Plane Fault
flat_plane bytes at = and_then (bit_map bytes at) (λ map. Ok (record { map = map; colours = colours.BlackAndWhite; end = at + 10 }))

abbrev pub mapped_plane : List ℕ → ℕ → Result Plane Fault
mapped_plane bytes at =
    and_then (pixel_map bytes at) (λ map.
    if is_direct map.depth then Err (fault.Depth (at + 28))
    else and_then (table_end bytes (at + 46)) (λ end. Ok (record { map = map; colours = colours.Table (at + 46); end = end })))

abbrev pub direct_plane : List ℕ → ℕ → Result Plane Fault
direct_plane bytes at =
    and_then (pixel_map bytes (at + 4)) (λ map.
    if is_direct map.depth then Ok (record { map = map; colours = colours.Direct; end = at + 50 }) else Err (fault.Depth (at + 32)))

-- a pixel map's first bit is 1
abbrev pub indexed_plane : List ℕ → ℕ → Result Plane Fault
indexed_plane bytes at =
    and_then (within bytes (at + 2)) (λ end. if nat_le 32768 (big_from at 2 bytes) then mapped_plane bytes at else flat_plane bytes at)

-- the map at a place, with its colours
abbrev pub plane_at : Storage → List ℕ → ℕ → Result Plane Fault
plane_at Plain bytes at = indexed_plane bytes at
plane_at Packed bytes at = indexed_plane bytes at
plane_at Direct bytes at = direct_plane bytes at

-- rows of fewer than 8 bytes aren't packed
abbrev pub packed : Map → Packing
packed map = if nat_lt map.row 8 then kept.None else kept.Bytes

abbrev pub parted : Map → ℕ → Result Packing Fault
parted map at = if map.parts == 3 || map.parts == 4 then Ok kept.Parts else Err (fault.Parts (at + 30))

-- how rows of colours are kept, by the number in the map at a place; 0 is the best way for the depth
abbrev pub numbered : Depth → Map → ℕ → Result Packing Fault
numbered Sixteen map at =
    if map.packing == 1 then Ok kept.None
    else if map.packing == 0 || map.packing == 3 then Ok kept.Words
    else Err (fault.Packing (at + 12))
numbered ThirtyTwo map at =
    if map.packing == 1 then Ok kept.None
    else if map.packing == 2 then Ok kept.NoPadding
    else if map.packing == 0 || map.packing == 4 then parted map at
    else Err (fault.Packing (at + 12))
numbered other map at = if map.packing == 1 then Ok kept.None else Err (fault.Packing (at + 12))

abbrev pub direct_packing : Map → ℕ → Result Packing Fault
direct_packing map at = numbered map.depth map at

-- how the rows of an opcode are kept, whose operands are at a place
abbrev pub packing_of : Storage → Map → ℕ → Result Packing Fault
packing_of Plain map at = Ok kept.None
packing_of Packed map at = Ok (packed map)
packing_of Direct map at = if nat_lt map.row 8 then Ok kept.None else direct_packing map (at + 4)

-- whether two bytes count those of a packed row, and not one
abbrev pub is_wide : Map → Bool
is_wide map = nat_lt 250 map.row

abbrev pub counter : Bool → ℕ
counter wide = if wide then 2 else 1

-- where the packed row at a place ends: after its count, and so many bytes
abbrev pub row_end : List ℕ → ℕ → Bool → Result ℕ Fault
row_end bytes at wide = and_then (within bytes (at + counter wide)) (λ start. within bytes (start + big_from at (counter wide) bytes))

-- where so many packed rows from a place on end
abbrev pub rows_end : List ℕ → ℕ → Bool → ℕ → Result ℕ Fault
rows_end bytes at wide zero = Ok at
rows_end bytes at wide (suc count) = and_then (row_end bytes at wide) (λ next. rows_end bytes next wide count)

-- where the rows end that begin at a place
abbrev pub data_end : Packing → Map → List ℕ → ℕ → Result ℕ Fault
data_end kept.None map bytes at = within bytes (at + map.row * height map.bounds)
data_end kept.NoPadding map bytes at = within bytes (at + 3 * (map.row / 4) * height map.bounds)
data_end kept.Bytes map bytes at = rows_end bytes at (is_wide map) (height map.bounds)
data_end kept.Words map bytes at = rows_end bytes at (is_wide map) (height map.bounds)
data_end kept.Parts map bytes at = rows_end bytes at (is_wide map) (height map.bounds)

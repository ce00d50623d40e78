-- Where the operands of opcodes end, and pictures within a picture (Inside Macintosh: Imaging With QuickDraw, appendix A).
use Rattle.std.specs.Prelude.{◌≤◌, ⊤, ℕ, ◌+◌, ◌==◌, nat_lt, if◌then◌else◌, Bool, List, length, slice_index, Option, Some, None, Result, Ok, Err}
use Rattle.byteorder.specs.Endian.{big_from}
use Rattle.pict_bytes.specs.declared.fault.Fault.{Fault}
use Rattle.pict_bytes.specs.declared.fault.Fault.TheVariants as fault
use Rattle.pict_bytes.specs.declared.operands.Bits.{Bits}
use Rattle.pict_bytes.specs.declared.shape.Shape.{Shape}
use Rattle.pict_bytes.specs.declared.shape.Shape.TheVariants as shape
use Rattle.pict_bytes.specs.declared.shape.Storage.{Storage}
use Rattle.pict_bytes.specs.Maps.{rect_at}
use Rattle.pict_bytes.specs.Planes.{data_end, mapped_plane, packed, packing_of, plane_at}
use Rattle.pict_bytes.specs.Reading.{and_then, within}

-- where a text ends that one byte counts, before which are so many bytes
abbrev pub text_end : List ℕ → ℕ → ℕ → Result ℕ Fault
text_end bytes at before = and_then (within bytes (at + before + 1)) (λ start. within bytes (start + slice_index bytes (at + before)))

-- where bytes end that two bytes count, before which are so many bytes
abbrev pub counted_end : List ℕ → ℕ → ℕ → Result ℕ Fault
counted_end bytes at before = and_then (within bytes (at + before + 2)) (λ start. within bytes (start + big_from (at + before) 2 bytes))

-- where bytes end that four bytes count
abbrev pub long_end : List ℕ → ℕ → Result ℕ Fault
long_end bytes at = and_then (within bytes (at + 4)) (λ start. within bytes (start + big_from at 4 bytes))

-- where a region or a polygon ends, whose first two bytes count all of it: at least these and its rectangle
abbrev pub sized_end : List ℕ → ℕ → Result ℕ Fault
sized_end bytes at =
    and_then (within bytes (at + 2)) (λ start.
    if nat_lt (big_from at 2 bytes) 10 then Err (fault.Size at) else within bytes (at + big_from at 2 bytes))

-- where a pattern ends: its type, the same pattern in black and white, and a pixel map with its colours and rows, or one
-- colour
abbrev pub full_pattern_end : List ℕ → ℕ → Result ℕ Fault
full_pattern_end bytes at = and_then (mapped_plane bytes (at + 10)) (λ plane. data_end (packed plane.map) plane.map bytes plane.end)

abbrev pub pattern_end : List ℕ → ℕ → Result ℕ Fault
pattern_end bytes at =
    and_then (within bytes (at + 2)) (λ start.
    if big_from at 2 bytes == 1 then full_pattern_end bytes at
    else if big_from at 2 bytes == 2 then within bytes (at + 16)
    else Err (fault.Pattern at))

-- where the mask ends, if there is one
abbrev pub mask_end : Bool → List ℕ → ℕ → Result ℕ Fault
mask_end masked bytes at = if masked then sized_end bytes at else Ok at

-- the place of a mask, if there is one; it is within bytes
abbrev pub mask_place : Bool → ℕ → Option ℕ
mask_place masked at = if masked then Some at else None

abbrev pub IsMaskInside : Option ℕ → List ℕ → Type 0
IsMaskInside None bytes = ⊤
IsMaskInside (Some at) bytes = at ≤ length bytes

-- a picture within a picture: its map and colours, two rectangles, a mode, perhaps a region, and the rows
abbrev pub bits_at : Storage → Bool → List ℕ → ℕ → Result Bits Fault
bits_at storage masked bytes at =
    and_then (plane_at storage bytes at) (λ plane.
    and_then (packing_of storage plane.map at) (λ packing.
    and_then (within bytes (plane.end + 18)) (λ frames.
    and_then (mask_end masked bytes frames) (λ start.
    and_then (data_end packing plane.map bytes start) (λ end.
    Ok
    (record {
      map = plane.map;
      colours = plane.colours;
      source = rect_at bytes plane.end;
      target = rect_at bytes (plane.end + 8);
      mode = big_from (plane.end + 16) 2 bytes;
      mask = mask_place masked frames;
      packing = packing;
      start = start;
      end = end;
    }))))))

-- where operands of a shape end
abbrev pub end_of : Shape → List ℕ → ℕ → Result ℕ Fault
end_of (shape.Fixed count) bytes at = within bytes (at + count)
end_of (shape.Text before) bytes at = text_end bytes at before
end_of (shape.Counted before) bytes at = counted_end bytes at before
end_of shape.Long bytes at = long_end bytes at
end_of shape.Sized bytes at = sized_end bytes at
end_of shape.Pattern bytes at = pattern_end bytes at
end_of (shape.Bits storage masked) bytes at = and_then (bits_at storage masked bytes at) (λ bits. Ok bits.end)

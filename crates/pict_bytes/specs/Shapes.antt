-- How many bytes the operands of opcodes have (Inside Macintosh: Imaging With QuickDraw, appendix A, table A-2).
use Rattle.std.specs.Prelude.{ℕ, ◌*◌, ◌/◌, ◌%◌, ◌==◌, ◌||◌, nat_lt, nat_le, if◌then◌else◌, Bool, true, false, List, [], ◌∷◌, get_or}
use Rattle.pict_bytes.specs.declared.shape.Shape.{Shape}
use Rattle.pict_bytes.specs.declared.shape.Shape.TheVariants.{Fixed, Text, Counted, Long, Sized, Pattern, Bits}
use Rattle.pict_bytes.specs.declared.shape.Storage.{Storage}
use Rattle.pict_bytes.specs.declared.shape.Storage.TheVariants.{Plain, Packed, Direct}

-- those below $30, in their order
abbrev pub first_shapes : List Shape
first_shapes =
    Fixed 0 ∷ Sized ∷ Fixed 8 ∷ Fixed 2 ∷ Fixed 1 ∷ Fixed 2 ∷ Fixed 4 ∷ Fixed 4
    ∷ Fixed 2 ∷ Fixed 8 ∷ Fixed 8 ∷ Fixed 4 ∷ Fixed 4 ∷ Fixed 2 ∷ Fixed 4 ∷ Fixed 4
    ∷ Fixed 8 ∷ Fixed 1 ∷ Pattern ∷ Pattern ∷ Pattern ∷ Fixed 2 ∷ Fixed 2 ∷ Fixed 0
    ∷ Fixed 0 ∷ Fixed 0 ∷ Fixed 6 ∷ Fixed 6 ∷ Fixed 0 ∷ Fixed 6 ∷ Fixed 0 ∷ Fixed 6
    ∷ Fixed 8 ∷ Fixed 4 ∷ Fixed 6 ∷ Fixed 2 ∷ Counted 0 ∷ Counted 0 ∷ Counted 0 ∷ Counted 0
    ∷ Text 4 ∷ Text 1 ∷ Text 1 ∷ Text 2 ∷ Counted 0 ∷ Counted 0 ∷ Counted 0 ∷ Counted 0 ∷ []

abbrev pub first_shape : ℕ → Shape
first_shape code = get_or first_shapes code (Fixed 0)

-- those from $30 to $8F: rectangles, round rectangles and ovals, arcs with two angles, polygons and regions; those that
-- draw the same once more have no more than an arc's angles
abbrev pub drawn_shape : ℕ → Bool → Shape
drawn_shape family true = if family == 6 then Fixed 4 else Fixed 0
drawn_shape family false = if family == 6 then Fixed 12 else if family == 7 || family == 8 then Sized else Fixed 8

-- those from $90 to $9F
abbrev pub bits_shape : ℕ → Shape
bits_shape code =
    let is_masked = code % 2 == 1 in
    if code / 2 == 0x48 then Bits Plain is_masked
    else if code / 2 == 0x4C then Bits Packed is_masked
    else if code / 2 == 0x4D then Bits Direct is_masked
    else Counted 0

-- the shape of an opcode's operands
abbrev pub shape_of : ℕ → Shape
shape_of code =
    if nat_lt code 0x30 then first_shape code
    else if nat_lt code 0x90 then drawn_shape (code / 16) (nat_le 8 (code % 16))
    else if nat_lt code 0xA0 then bits_shape code
    else if code == 0xA0 then Fixed 2
    else if code == 0xA1 then Counted 2
    else if nat_lt code 0xB0 then Counted 0
    else if nat_lt code 0xD0 then Fixed 0
    else if nat_lt code 0xFF then Long
    else if code == 0xFF then Fixed 0
    else if nat_lt code 0x8000 then Fixed (2 * (code / 256))
    else if nat_lt code 0x8100 then Fixed 0
    else Long

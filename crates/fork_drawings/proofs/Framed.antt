-- Which rows of a frame something is drawn in.
use Rattle.std.proofs.Common.{◌≡◌, ℕ, zero, suc, ◌+◌, ◌*◌, ◌/◌, ◌<◌, ◌≤◌, List, Option, Some, None, ap, ◌∙◌, arith}
use Rattle.std.specs.Fn.{iterate}
use Rattle.std.proofs.Math.Nat.{le-div_iff_mul-le}
use Rattle.std.proofs.lemmas.Bool.Decides.{nat_tests}
use Rattle.std.proofs.lemmas.Nat.{div_below}
use Rattle.fork_pictures.specs.declared.pixel.Pixel.{Pixel}
use Rattle.pict_bytes.specs.declared.bits.Rect.{Rect}
use Rattle.pict_bytes.specs.declared.operands.Bits.{Bits}
use Rattle.pict_bytes.specs.Maps.{height, width}
use Rattle.fork_drawings.specs.declared.brush.Brush.{Brush}
use Rattle.fork_drawings.specs.declared.span.Course.{Course}
use Rattle.fork_drawings.specs.Brushes.{brushed, brushed_by, in_line}
use Rattle.fork_drawings.specs.Lines.{expanded, line, next_place, piece}
use Rattle.fork_drawings.specs.Spans.{first_row, last_row, origin, rows}

-- nothing comes before the target, nor after it
origin_before : (course : Course) (at : ℕ) → at < course.target.low → origin course at ≡ None
origin_before course at low = grind (arith, nat_tests)

origin_past : (course : Course) (at : ℕ) → course.target.high ≤ at → origin course at ≡ None
origin_past course at high = grind (arith, nat_tests)

-- the row of a place
row_before : (width place row : ℕ) → place < width * row → place / width < row
row_before zero place row low = absurd (omega arith)
row_before (suc across) place row low = div_below place (suc across) row (omega arith) (omega arith)

wide : (width height place : ℕ) → place < width * height → 0 < width
wide zero height place within = absurd (omega arith)
wide (suc across) height place within = omega arith

row_from : (width place row : ℕ) → 0 < width → width * row ≤ place → row ≤ place / width
row_from width place row some high = let both = le-div_iff_mul-le {k = width} {x = row} {y = place} some in both.1 (omega arith)

-- a row that isn't there draws nothing
nothing : (brush : Brush) (bytes : List ℕ) (x y : ℕ) (pixel : Pixel) → origin (rows brush.bits) y ≡ None → brushed_by brush bytes x y pixel ≡ pixel
nothing brush bytes x y pixel none = ap (λ (row : Option ℕ). in_line brush bytes row x y pixel) none

pub before_first : (brush : Brush) (bytes : List ℕ) (frame : Rect) (place x : ℕ) (pixel : Pixel) → place < width frame * first_row frame brush.bits.target
    → brushed_by brush bytes x (frame.top + place / width frame) pixel ≡ pixel
before_first brush bytes frame place x pixel low =
    let row = row_before (width frame) place (first_row frame brush.bits.target) low in
    nothing brush bytes x (frame.top + place / width frame) pixel (origin_before (rows brush.bits) (frame.top + place / width frame) (omega arith))

pub after_last : (brush : Brush) (bytes : List ℕ) (frame : Rect) (place x : ℕ) (pixel : Pixel) → width frame * last_row frame brush.bits.target ≤ place
    → place < width frame * height frame → brushed_by brush bytes x (frame.top + place / width frame) pixel ≡ pixel
after_last brush bytes frame place x pixel high within =
    let some = wide (width frame) (height frame) place within in
    let row = row_from (width frame) place (last_row frame brush.bits.target) some high in
    let inside = row_before (width frame) place (height frame) within in
    nothing brush bytes x (frame.top + place / width frame) pixel (origin_past (rows brush.bits) (frame.top + place / width frame) (omega arith))

-- the bytes of a row
pub line_is : (bits : Bits) (bytes row : List ℕ) (number place : ℕ) → place ≡ iterate (next_place bits bytes) number bits.start
    → row ≡ expanded bits.packing bits.map (piece bits bytes place) → row ≡ line bits bytes number
unfolding line
line_is bits bytes row number place at is = is ∙ ap (λ (n : ℕ). expanded bits.packing bits.map (piece bits bytes n)) at

-- a row that is there
pub row_is : (brush : Brush) (bytes row : List ℕ) (number x y : ℕ) (pixel : Pixel) → Some number ≡ origin (rows brush.bits) y
    → row ≡ line brush.bits bytes number → brushed brush row x y pixel ≡ brushed_by brush bytes x y pixel
row_is brush bytes row number x y pixel there is =
    ap (λ (own : List ℕ). brushed brush own x y pixel) is ∙ ap (λ (own : Option ℕ). in_line brush bytes own x y pixel) there

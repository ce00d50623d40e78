-- What is needed to draw a picture draws it.
use Rattle.std.proofs.Common.{◌≡◌, ℕ, ◌+◌, Bool, true, List, Option, Some, None, refl, ap, ◌∙◌}
use Rattle.std.specs.Prelude.{◌&&◌, if◌then◌else◌}
use Rattle.fork_pictures.specs.declared.pixel.Colour.{Colour}
use Rattle.fork_pictures.specs.declared.pixel.Pixel.{Pixel}
use Rattle.pict_bytes.specs.declared.bits.Rect.{Rect}
use Rattle.pict_bytes.specs.declared.operands.Bits.{Bits}
use Rattle.pict_bytes.specs.Maps.{rect_at}
use Rattle.fork_drawings.specs.declared.brush.Brush.{Brush}
use Rattle.fork_drawings.specs.declared.region.Point.{Point}
use Rattle.fork_drawings.specs.declared.region.Region.{Region}
use Rattle.fork_drawings.specs.Brushes.{IsBrush, IsMask, brushed_by, has_in, in_line, in_place}
use Rattle.fork_drawings.specs.Lines.{line}
use Rattle.fork_drawings.specs.Painting.{dot_of, in_column, in_mask, in_row, painted, palette_of}
use Rattle.fork_drawings.specs.Regions.{has, has_at, is_rectangle}
use Rattle.fork_drawings.specs.Spans.{columns, origin, rows}

-- a region that was read has the dots of that in the bytes
mask_is : (region : Option Region) (bytes : List ℕ) (place : Option ℕ) (x y : ℕ) → IsMask region bytes place → has_in region x y ≡ in_mask bytes place x y
unfolding has_at
mask_is None bytes None x y is = refl
mask_is None bytes (Some at) x y is = absurd is
mask_is (Some region) bytes None x y is = absurd is
mask_is (Some region) bytes (Some at) x y is =
    ap (λ (bounds : Rect). has bounds region.is_rectangle region.points.items x y) is.bounds
    ∙ ap (λ (whole : Bool). has (rect_at bytes (at + 2)) whole region.points.items x y) is.shape
    ∙ ap (λ (points : List Point). has (rect_at bytes (at + 2)) (is_rectangle bytes at) points x y) is.points

-- in a column
in_place_is : (brush : Brush) (bytes : List ℕ) (clip : Option ℕ) (bits : Bits) (row : List ℕ) (column : Option ℕ) (x y : ℕ) (pixel : Pixel)
    → IsBrush brush bytes clip bits → in_place brush row column x y pixel ≡ in_column bytes clip bits row column x y pixel
in_place_is brush bytes clip bits row None x y pixel is = refl
in_place_is brush bytes clip bits row (Some column) x y pixel is =
    let dot : Bool → Bool → Bits → List Colour → Pixel =
    λ one other own palette. if one && other then record { colour = dot_of own.map.depth own palette row column; is_seen = true } else pixel in
    let other = has_in brush.mask x y in
    ap (λ (one : Bool). dot one other brush.bits brush.palette.items) (mask_is brush.clip bytes clip x y is.clip)
    ∙ ap (λ (two : Bool). dot (in_mask bytes clip x y) two brush.bits brush.palette.items) (mask_is brush.mask bytes bits.mask x y is.mask)
    ∙ ap (λ (palette : List Colour). dot (in_mask bytes clip x y) (in_mask bytes bits.mask x y) brush.bits palette) is.palette
    ∙ ap (λ (own : Bits). dot (in_mask bytes clip x y) (in_mask bytes bits.mask x y) own (palette_of bits bytes)) is.bits

-- in a row
in_line_is : (brush : Brush) (bytes : List ℕ) (clip : Option ℕ) (bits : Bits) (row : Option ℕ) (x y : ℕ) (pixel : Pixel)
    → IsBrush brush bytes clip bits → in_line brush bytes row x y pixel ≡ in_row bytes clip bits row x y pixel
in_line_is brush bytes clip bits None x y pixel is = refl
in_line_is brush bytes clip bits (Some row) x y pixel is =
    in_place_is brush bytes clip bits (line brush.bits bytes row) (origin (columns brush.bits) x) x y pixel is
    ∙ ap (λ (own : Bits). in_column bytes clip bits (line own bytes row) (origin (columns own) x) x y pixel) is.bits

pub brushed_is : (brush : Brush) (bytes : List ℕ) (clip : Option ℕ) (bits : Bits) (x y : ℕ) (pixel : Pixel)
    → IsBrush brush bytes clip bits → brushed_by brush bytes x y pixel ≡ painted bytes clip bits x y pixel
unfolding painted
brushed_is brush bytes clip bits x y pixel is =
    in_line_is brush bytes clip bits (origin (rows brush.bits) y) x y pixel is
    ∙ ap (λ (own : Bits). in_row bytes clip bits (origin (rows own) y) x y pixel) is.bits

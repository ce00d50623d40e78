-- A picture within a picture, with all that its dots need.
use Rattle.std.specs.Prelude.{◌≡◌, ◌<◌, ⊤, ℕ, ◌^◌, ◌&&◌, if◌then◌else◌, Bool, true, List, Option, Some, None}
use Rattle.fork_pictures.specs.declared.pixel.Pixel.{Pixel}
use Rattle.pict_bytes.specs.declared.operands.Bits.{Bits}
use Rattle.fork_drawings.specs.declared.brush.Brush.{Brush}
use Rattle.fork_drawings.specs.declared.region.Region.{Region}
use Rattle.fork_drawings.specs.Lines.{line}
use Rattle.fork_drawings.specs.Painting.{dot_of, palette_of}
use Rattle.fork_drawings.specs.Regions.{IsRegion, has}
use Rattle.fork_drawings.specs.Spans.{columns, origin, rows}

-- a place, if there is one, is one of 39 bits
abbrev pub IsBelow : Option ℕ → Type 0
IsBelow None = ⊤
IsBelow (Some place) = place < 2 ^ 39

-- the region that was read at a place, if there is one
abbrev pub IsMask : Option Region → List ℕ → Option ℕ → Type 0
IsMask None bytes None = ⊤
IsMask (Some region) bytes (Some at) = IsRegion region bytes at
IsMask other bytes place = ⊥

-- whether a dot is in a region, if there is one
abbrev pub has_in : Option Region → ℕ → ℕ → Bool
has_in None x y = true
has_in (Some region) x y = has region.bounds region.is_rectangle region.points.items x y

-- what is needed to draw a picture
pub record IsBrush (brush : Brush) (bytes : List ℕ) (place : Option ℕ) (picture : Bits) : Type 0 where
  pub bits : brush.bits ≡ picture
  pub palette : brush.palette.items ≡ palette_of picture bytes
  pub clip : IsMask brush.clip bytes place
  pub mask : IsMask brush.mask bytes picture.mask

-- a dot at coordinates, where a row of a picture is drawn over it
abbrev pub in_place : Brush → List ℕ → Option ℕ → ℕ → ℕ → Pixel → Pixel
in_place brush row None x y pixel = pixel
in_place brush row (Some column) x y pixel =
    if has_in brush.clip x y && has_in brush.mask x y
    then record { colour = dot_of brush.bits.map.depth brush.bits brush.palette.items row column; is_seen = true }
    else pixel

abbrev pub brushed : Brush → List ℕ → ℕ → ℕ → Pixel → Pixel
brushed brush row x y pixel = in_place brush row (origin (columns brush.bits) x) x y pixel

-- a dot at coordinates, where the picture is drawn over it
abbrev pub in_line : Brush → List ℕ → Option ℕ → ℕ → ℕ → Pixel → Pixel
in_line brush bytes None x y pixel = pixel
in_line brush bytes (Some row) x y pixel = brushed brush (line brush.bits bytes row) x y pixel

abbrev pub brushed_by : Brush → List ℕ → ℕ → ℕ → Pixel → Pixel
brushed_by brush bytes x y pixel = in_line brush bytes (origin (rows brush.bits) y) x y pixel

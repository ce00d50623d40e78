-- What a picture is.
use Rattle.std.specs.Prelude.{◌≡◌, ℕ, ◌+◌, ◌*◌, ◌/◌, ◌%◌, ◌≤◌, false, nat_lt, if◌then◌else◌, List, length, map, get_or, Result, Ok, Err}
use Rattle.std.specs.List.{range_with_len}
use Rattle.fork_pictures.specs.declared.fault.Fault.{Fault}
use Rattle.fork_pictures.specs.declared.fault.Fault.TheVariants.{TooLarge}
use Rattle.fork_pictures.specs.declared.pixel.Pixel.{Pixel}
use Rattle.fork_pictures.specs.Colours.{black}

-- how many pixels a row has, how many rows there are, and all pixels, row after row from the top
pub record Image : Type 0 where
  pub width : ℕ
  pub height : ℕ
  pub pixels : List Pixel

-- the most pixels of a picture, and the most bytes of a resource that is drawn
abbrev pub most : ℕ
most = 16777216

-- a picture has a pixel, not too many of them, and all of them
pub record IsImage (image : Image) : Type 0 where
  pub wide : 1 ≤ image.width
  pub high : 1 ≤ image.height
  pub small : image.width * image.height ≤ most
  pub whole : length image.pixels ≡ image.width * image.height

-- the pixels of a function of column and row, row after row
abbrev pub pixels_of : ℕ → ℕ → (ℕ → ℕ → Pixel) → List Pixel
pixels_of width height pixel = map (λ place. pixel (place % width) (place / width)) (range_with_len 0 (width * height))

-- the picture with these pixels
abbrev pub raster : ℕ → ℕ → (ℕ → ℕ → Pixel) → Image
raster width height pixel = record { width = width; height = height; pixels = pixels_of width height pixel }

-- the pixel of a picture in a column and a row
abbrev pub pixel_at : Image → ℕ → ℕ → Pixel
pixel_at image x y = get_or image.pixels (image.width * y + x) (record { colour = black; is_seen = false })

-- the picture with each pixel so many pixels wide and high
abbrev pub enlarged : ℕ → Image → Image
enlarged times image = raster (times * image.width) (times * image.height) (λ x y. pixel_at image (x / times) (y / times))

-- that picture, if it hasn't too many pixels
abbrev pub scaled : ℕ → Image → Result Image Fault
scaled times image = if nat_lt most (times * times * (image.width * image.height)) then Err TooLarge else Ok (enlarged times image)

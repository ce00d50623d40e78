-- Pictures by columns and rows.
use Rattle.std.proofs.Common.{◌≡◌, ℕ, ◌+◌, ◌*◌, ◌/◌, ◌%◌, ◌<◌, ap, ◌∙◌, arith}
use Rattle.std.proofs.lemmas.List.FromFn.{get_or-map-range_with_len}
use Rattle.std.proofs.lemmas.Nat.{mul-add-lt, div-mul-add, mod-mul-add}
use Rattle.fork_pictures.specs.declared.pixel.Pixel.{Pixel}
use Rattle.fork_pictures.specs.Image.{pixel_at, raster}

turned : (width x y : ℕ) → width * y + x ≡ y * width + x
turned width x y = omega arith

pub within : (width height x y : ℕ) → x < width → y < height → width * y + x < width * height
within width height x y left low = omega (arith, mul-add-lt y width x height low left)

pub drawn_by_places : (width height : ℕ) (pixel : ℕ → ℕ → Pixel) (x y : ℕ) → x < width → y < height → pixel_at (raster width height pixel) x y ≡ pixel x y
drawn_by_places width height pixel x y left low =
    let place = width * y + x in
    let column = ap (λ (n : ℕ). n % width) (turned width x y) ∙ mod-mul-add y width x left in
    let row = ap (λ (n : ℕ). n / width) (turned width x y) ∙ div-mul-add y width x left in
    get_or-map-range_with_len (λ (n : ℕ). pixel (n % width) (n / width)) 0 (width * height) place place _ (within width height x y left low) (omega arith)
    ∙ ap (λ (n : ℕ). pixel n (place / width)) column
    ∙ ap (λ (n : ℕ). pixel x n) row

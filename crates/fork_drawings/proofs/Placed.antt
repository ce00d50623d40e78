-- Where the dots of a frame are, and places in bytes.
use Rattle.std.proofs.Common.{◌≡◌, ℕ, ◌+◌, ◌-◌, ◌*◌, ◌/◌, ◌%◌, ◌<◌, ◌≤◌, List, Option, Some, None, length, ap, ◌∙◌, arith}
use Rattle.std.proofs.lemmas.Nat.{div-mul-add, mod-mul-add}
use Rattle.pict_bytes.specs.declared.plane.Colours.{Colours}
use Rattle.pict_bytes.specs.declared.plane.Colours.TheVariants.{BlackAndWhite, Table, Direct}
use Rattle.pict_bytes.specs.Operands.{IsMaskInside}
use Rattle.pict_bytes.specs.Planes.{IsInside}
use Rattle.fork_drawings.specs.Brushes.{IsBelow}
use Rattle.fork_drawings.specs.Palettes.{IsLow}

pub mask_below : (mask : Option ℕ) (bytes : List ℕ) → IsMaskInside mask bytes → length bytes ≤ 16777216 → IsBelow mask
mask_below None bytes inside small = tt
mask_below (Some place) bytes inside small = omega arith

pub colours_low : (colours : Colours) (bytes : List ℕ) → IsInside colours bytes → length bytes ≤ 16777216 → IsLow colours
colours_low (Table place) bytes inside small = omega arith
colours_low BlackAndWhite bytes inside small = tt
colours_low Direct bytes inside small = tt

-- the column and the row of a place that is in a row
pub column_of : (width row place : ℕ) → width * row ≤ place → place < width * row + width → place % width ≡ place - width * row
column_of width row place low high =
    let x = place - width * row in
    let is : place ≡ row * width + x = omega arith in
    let short : x < width = omega arith in
    ap (λ (n : ℕ). n % width) is ∙ mod-mul-add row width x short

pub row_of : (width row place : ℕ) → width * row ≤ place → place < width * row + width → place / width ≡ row
row_of width row place low high =
    let x = place - width * row in
    let is : place ≡ row * width + x = omega arith in
    let short : x < width = omega arith in
    ap (λ (n : ℕ). n / width) is ∙ div-mul-add row width x short

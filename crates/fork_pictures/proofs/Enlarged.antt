-- Pictures with each pixel so many pixels wide and high.
use Rattle.std.proofs.Common.{ℕ, ◌+◌, ◌*◌, ◌/◌, ◌%◌, ◌<◌, ◌≤◌, arith}
use Rattle.std.proofs.lemmas.Nat.{div_below, mod_below}
use Rattle.std.proofs.Math.Nat.{mul-le-mul_left}
use Rattle.fork_pictures.proofs.Rasters.{within}

-- the picture itself is no larger
pub few : (times size : ℕ) → 0 < times → times * times * size ≤ 16777216 → size ≤ 16777216
few times size some small =
    let square : times * 1 ≤ times * times = mul-le-mul_left times some in
    let all : size * 1 ≤ size * (times * times) = mul-le-mul_left size (omega arith) in
    omega arith

-- its pixels, counted by its sides
pub sides_small : (times width height : ℕ) → times * times * (width * height) ≤ 16777216 → times * width * (times * height) ≤ 16777216
sides_small times width height small = omega arith

-- a pixel of it is one of the picture
pub origin_within : (times width height place : ℕ) → 0 < times → 1 ≤ width → place < times * width * (times * height)
    → width * (place / (times * width) / times) + place % (times * width) / times < width * height
origin_within times width height place some wide inside =
    let line = times * width in
    let whole : times * 1 ≤ times * width = mul-le-mul_left times wide in
    let line_some : 0 < line = omega arith in
    let column : place % line / times < width = div_below (place % line) times width some (let short : place % line < line = mod_below place line line_some in omega arith) in
    let upper : place / line < times * height = div_below place line (times * height) line_some (omega arith) in
    let row : place / line / times < height = div_below (place / line) times height some (omega arith) in
    within width height (place % line / times) (place / line / times) column row

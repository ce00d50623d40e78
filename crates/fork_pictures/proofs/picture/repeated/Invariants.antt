use Rattle.std.proofs.Common.{◌≡◌, ℕ, ◌*◌, ◌/◌, ◌%◌, map}
use Rattle.std.specs.List.{range_with_len}
use Rattle.fork_pictures.specs.Image.{Image, pixel_at}
use Rattle.fork_pictures.proofs.picture.repeated.Given as goal

-- the pixels so far
abbrev pub invariant-loop-place : goal.invariant-loop-place
invariant-loop-place l =
    let image : Image = record { width = l.width; height = l.height; pixels = l.pixels } in
    l.all.items ≡ map (λ (place : ℕ). pixel_at image (place % (l.times * l.width) / l.times) (place / (l.times * l.width) / l.times)) (range_with_len 0 l.place)

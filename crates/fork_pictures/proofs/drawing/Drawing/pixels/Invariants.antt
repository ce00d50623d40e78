use Rattle.std.proofs.Common.{◌≡◌, ℕ, ◌/◌, ◌%◌, map}
use Rattle.std.specs.List.{range_with_len}
use Rattle.fork_pictures.specs.Drawings.{pixel_of}
use Rattle.fork_pictures.proofs.drawing.Drawing.pixels.Given as goal

-- the pixels so far
abbrev pub invariant-loop-place : goal.invariant-loop-place
invariant-loop-place l =
    l.pixels.items ≡ map (λ (place : ℕ). pixel_of l.self l.bytes l.other (place % l.self.width) (place / l.self.width)) (range_with_len 0 l.place)

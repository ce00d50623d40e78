use Rattle.std.proofs.Common.{ℕ, ◌+◌, ◌-◌}
use Rattle.fork_pictures.specs.declared.pixel.Pixel.{Pixel}
use Rattle.fork_drawings.specs.Brushes.{brushed}
use Rattle.fork_drawings.specs.Painting.{IsPainted}
use Rattle.fork_drawings.proofs.brush.Brush.paint_row.Given as goal

-- the dots so far
abbrev pub invariant-loop-x : goal.invariant-loop-x
invariant-loop-x l =
    IsPainted l.fn.pixels l.pixels l.start (l.start + l.x) (λ (place : ℕ) (pixel : Pixel). brushed l.self l.row (l.left + (place - l.start)) l.y pixel)

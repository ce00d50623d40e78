use Rattle.std.proofs.Common.{ℕ, ◌+◌, ◌*◌, ◌/◌, ◌%◌}
use Rattle.fork_pictures.specs.declared.pixel.Pixel.{Pixel}
use Rattle.pict_bytes.specs.Maps.{width}
use Rattle.fork_drawings.specs.Brushes.{brushed_by}
use Rattle.fork_drawings.specs.Painting.{IsPainted}
use Rattle.fork_drawings.specs.Spans.{first_row}
use Rattle.fork_drawings.proofs.brush.Brush.paint.Given as goal

-- the rows so far
abbrev pub invariant-loop-y : goal.invariant-loop-y
invariant-loop-y l =
    IsPainted l.fn.pixels l.pixels (width l.frame * first_row l.frame l.self.bits.target) (width l.frame * l.y)
    (λ (place : ℕ) (pixel : Pixel). brushed_by l.self l.bytes (l.frame.left + place % width l.frame) (l.frame.top + place / width l.frame) pixel)

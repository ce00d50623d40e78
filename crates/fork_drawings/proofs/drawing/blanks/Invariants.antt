use Rattle.std.proofs.Common.{◌≡◌, replicate}
use Rattle.fork_drawings.specs.Painting.{blank}
use Rattle.fork_drawings.proofs.drawing.blanks.Given as goal

-- the dots so far
abbrev pub invariant-loop-dot : goal.invariant-loop-dot
invariant-loop-dot l = l.pixels.items ≡ replicate l._dot blank

use Rattle.std.proofs.Common.{◌≡◌, map}
use Rattle.std.specs.List.{range_with_len}
use Rattle.fork_drawings.specs.Palettes.{colour_of}
use Rattle.fork_drawings.proofs.palette.palette.Given as goal

-- the colours of the values so far
abbrev pub invariant-loop-value : goal.invariant-loop-value
invariant-loop-value l = l.all.items ≡ map (colour_of l.colours l.bytes) (range_with_len 0 l.value)

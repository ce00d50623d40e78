use Rattle.std.proofs.Common.{◌≡◌, map}
use Rattle.std.specs.List.{range_with_len}
use Rattle.fork_pictures.specs.Colours.{colour_of}
use Rattle.fork_pictures.proofs.colours.Colours.first.Given as goal

-- the colours of the values so far
abbrev pub invariant-loop-value : goal.invariant-loop-value
invariant-loop-value l = l.colours.items ≡ map (colour_of l.self l.bytes) (range_with_len 0 l.value)

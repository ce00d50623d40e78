use Rattle.std.proofs.Common.{◌≡◌, map}
use Rattle.std.specs.List.{range_with_len}
use Rattle.fork_sounds.specs.Codings.{laid_at}
use Rattle.fork_sounds.proofs.samples.laid.Given as goal

-- the samples so far
abbrev pub invariant-loop-place : goal.invariant-loop-place
invariant-loop-place l = l.samples.items ≡ map (laid_at l.layout l.bytes l.start) (range_with_len 0 l.place)

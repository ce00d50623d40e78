use Rattle.std.proofs.Common.{◌≡◌, map}
use Rattle.std.specs.List.{range_with_len}
use Rattle.fork_sounds.specs.Codings.{sample_at}
use Rattle.fork_sounds.specs.declared.coding.Coding.TheVariants.{Packets}
use Rattle.fork_sounds.proofs.samples.decoded.Given as goal

-- the samples so far
abbrev pub invariant-loop-place : goal.invariant-loop-place
invariant-loop-place l = l.samples.items ≡ map (sample_at Packets l.bytes l.start l.channels) (range_with_len 0 l.place)

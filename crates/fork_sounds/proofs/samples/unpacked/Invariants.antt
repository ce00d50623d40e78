use Rattle.std.proofs.Common.{◌≡◌, ◌*◌, ◌/◌, ◌%◌, map}
use Rattle.std.specs.List.{range_with_len}
use Rattle.fork_sounds.specs.Codings.{packed_at}
use Rattle.fork_sounds.proofs.samples.unpacked.Given as goal

-- the samples of the packets so far
abbrev pub invariant-loop-packet : goal.invariant-loop-packet
invariant-loop-packet l = l.samples.items ≡ map (λ place. packed_at l.bytes l.start (place / 64) (place % 64)) (range_with_len 0 (64 * l.packet))

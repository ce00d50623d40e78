use Rattle.std.proofs.Common.{◌≡◌, ◌++◌, map}
use Rattle.std.specs.List.{range_with_len}
use Rattle.fork_sounds.specs.Packets.{packet_sample, state_after}
use Rattle.fork_sounds.proofs.samples.push_packet.Given as goal

-- the samples so far, and the state after their codes
abbrev pub invariant-loop-place : goal.invariant-loop-place
invariant-loop-place l =
    record {
      samples : l.samples.items ≡ l.fn.samples.items ++ map (packet_sample l.bytes l.at) (range_with_len 0 l.place);
      state : l.state ≡ state_after l.bytes l.at l.place;
    }

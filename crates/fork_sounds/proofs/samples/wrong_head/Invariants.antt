use Rattle.std.proofs.Common.{◌≡◌, ◌+◌, ◌-◌, ◌*◌, ◌%◌, nat_lt, map}
use Rattle.std.specs.List.{find, range_with_len}
use Rattle.fork_sounds.specs.Bytes.{word_at}
use Rattle.fork_sounds.specs.Packets.{wrong_head}
use Rattle.fork_sounds.proofs.samples.wrong_head.Given as goal

-- the first of the heads that are left is the first of all
abbrev pub invariant-loop-packet : goal.invariant-loop-packet
invariant-loop-packet l =
    find (λ at. nat_lt 88 (word_at l.bytes at % 128)) (map (λ packet. l.start + 34 * packet) (range_with_len l.packet (l.count - l.packet)))
    ≡ wrong_head l.bytes l.start l.count

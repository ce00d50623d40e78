use Rattle.std.proofs.Common.{◌≡◌, ℕ, ◌+◌, ◌*◌, ◌/◌, ◌%◌, ◌<◌, List, ◌++◌, map, ◌∙◌, ap, arith}
use Rattle.std.specs.List.{range_with_len}
use Rattle.fork_sounds.specs.Codings.{packed_at}
use Rattle.fork_sounds.specs.Packets.{packet_sample}
use Rattle.fork_sounds.proofs.Steps.{origin_parts, pieces_more}
use Rattle.fork_sounds.proofs.samples.unpacked.Goals as goal

pub loop-packet-preserved : goal.loop-packet-preserved
loop-packet-preserved c =
    let bytes = c.args.bytes.now in
    let start = c.args.start in
    let packet = c.loop-packet.packet in
    let all : ℕ → ℕ = λ place. packed_at bytes start (place / 64) (place % 64) in
    let own : ℕ → ℕ = packet_sample bytes (start + 34 * packet) in
    let same : (place : ℕ) → place < 64 → all (64 * packet + place) ≡ own place =
    λ place below. let parts = origin_parts packet place below in
    ap (λ (n : ℕ). packed_at bytes start n ((64 * packet + place) % 64)) parts.0 ∙ ap (λ (n : ℕ). packed_at bytes start packet n) parts.1 in
    let more : 64 * packet + 64 ≡ 64 * (packet + 1) = omega arith in
    c.in_ok-push_packet.ensures
    ∙ ap (λ (xs : List ℕ). xs ++ map own (range_with_len 0 64)) c.loop-packet.invariant
    ∙ pieces_more all own (64 * packet) 64 same
    ∙ ap (λ (n : ℕ). map all (range_with_len 0 n)) more

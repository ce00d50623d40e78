use Rattle.std.proofs.Common.{◌≡◌, ℕ, ◌+◌, ◌*◌, ◌/◌, ◌%◌, ◌<◌, List, get_or, length, ◌∙◌, ap, arith}
use Rattle.fork_sounds.specs.Codings.{packed_at, sample_at}
use Rattle.fork_sounds.specs.declared.coding.Coding.TheVariants.{Packets}
use Rattle.fork_sounds.proofs.Steps.{by_place, long_by_places, one_more, origin_parts, packet_within}
use Rattle.fork_sounds.proofs.samples.decoded.Goals as goal

pub bounds-packets-origin : goal.bounds-packets-origin
bounds-packets-origin c =
    let all : ℕ → ℕ = λ place. packed_at c.args.bytes.now c.args.start (place / 64) (place % 64) in
    let long : length c.as_slice-packets.result.now ≡ 64 * (c.args.channels * c.args.units) =
    ap (λ (xs : List ℕ). length xs) c.as_slice-packets.ensures.value
    ∙ long_by_places all (64 * (c.args.channels * c.args.units)) c.in_ok-unpacked.unpacked.items c.in_ok-unpacked.ensures in
    let within = packet_within c.args.channels c.args.units c.loop-place.place c.requires.some c.loop-place-test.true in
    omega (arith, c.origin.ensures)

pub loop-place-preserved : goal.loop-place-preserved
loop-place-preserved c =
    let bytes = c.args.bytes.now in
    let start = c.args.start in
    let channels = c.args.channels in
    let place = c.loop-place.place in
    let frame = place / channels in
    let packet = channels * (frame / 64) + place % channels in
    let all : ℕ → ℕ = λ place. packed_at bytes start (place / 64) (place % 64) in
    let within = packet_within channels c.args.units place c.requires.some c.loop-place-test.true in
    let inside : c.origin.result < 64 * (channels * c.args.units) = omega (arith, c.origin.ensures) in
    let parts = origin_parts packet (frame % 64) (omega arith) in
    let is : get_or c.as_slice-packets.result.now c.origin.result 0 ≡ sample_at Packets bytes start channels place =
    by_place all (64 * (channels * c.args.units)) c.origin.result c.as_slice-packets.result.now 0
    (c.as_slice-packets.ensures.value ∙ c.in_ok-unpacked.ensures)
    inside
    ∙ ap all c.origin.ensures
    ∙ ap (λ (n : ℕ). packed_at bytes start n ((64 * packet + frame % 64) % 64)) parts.0
    ∙ ap (λ (n : ℕ). packed_at bytes start packet n) parts.1 in
    one_more (sample_at Packets bytes start channels) place c.loop-place.samples.items c.push.new.self.items _ c.loop-place.invariant
    c.in_ok-push.ensures.items is

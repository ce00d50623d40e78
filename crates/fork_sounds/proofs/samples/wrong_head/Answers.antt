use Rattle.std.proofs.Common.{◌≡◌, ℕ, ◌+◌, ◌-◌, ◌*◌, ◌%◌, nat_lt, Bool, false, List, map, ◌∙◌, sym, ap, arith}
use Rattle.std.proofs.lemmas.Bool.Decides.{nat_tests}
use Rattle.std.specs.List.{find, range_with_len}
use Rattle.fork_sounds.specs.Bytes.{word_at}
use Rattle.fork_sounds.proofs.Steps.{passed, rest_more}
use Rattle.fork_sounds.proofs.samples.wrong_head.Goals as goal

pub loop-packet-preserved : goal.loop-packet-preserved
loop-packet-preserved c =
    let packet = c.loop-packet.packet in
    let count = c.args.count in
    let head : ℕ → ℕ = λ packet. c.args.start + 34 * packet in
    let wrong : ℕ → Bool = λ at. nat_lt 88 (word_at c.args.bytes.now at % 128) in
    let right : nat_lt 88 (c.word_at.result % 128) ≡ false = let low = c.if-word_at-gt88.false in grind (arith, nat_tests) in
    let own : wrong (head packet) ≡ false = ap (λ (word : ℕ). nat_lt 88 (word % 128)) (sym c.word_at.ensures) ∙ right in
    sym (ap (λ (heads : List ℕ). find wrong heads) (rest_more head count packet c.loop-packet-test.true)
    ∙ passed wrong (head packet) (map head (range_with_len (packet + 1) (count - (packet + 1)))) own)
    ∙ c.loop-packet.invariant

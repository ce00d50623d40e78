use Rattle.std.proofs.Common.{◌≡◌, ◌+◌, ◌-◌, ◌%◌, ◌<◌, ◌≤◌, ℕ, subst}
use Rattle.std.specs.Int.{bit_at}
use Rattle.place_numbers.proofs.Marked.{read-marks}
use Rattle.place_numbers.proofs.words.Words.read.Goals as goal

pub returns : goal.returns
returns c =
    let place = c.args.place in let bits = c.bits_from.result in
    read-marks c.self.inside.items.items c.self.inside.count c.self.invariant.past c.args.self.now c.self.view_is place bits
    (subst (λ (n : ℕ). (i : ℕ) → place % 64 + i < 64 → bit_at bits i ≡ bit_at n (place % 64 + i)) c.word_at.ensures c.bits_from.ensures.word)
    (subst (λ (n : ℕ). (i : ℕ) → 64 ≤ place % 64 + i → i < 64 → bit_at bits i ≡ bit_at n (place % 64 + i - 64)) c.word_at-2.ensures c.bits_from.ensures.next)

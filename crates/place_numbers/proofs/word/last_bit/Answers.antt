use Rattle.std.proofs.Common.{ℕ, ◌≡◌, ◌≤◌, ◌/◌, ◌-◌, ◌^◌, ◌∙◌, sym, ap}
use Rattle.std.specs.Int.RustNames.{bit_and}
use Rattle.place_numbers.proofs.Marked.{last-bit, no-last-bit}
use Rattle.place_numbers.proofs.Shifts.{ones}
use Rattle.place_numbers.proofs.word.last_bit.Goals as goal

-- the bits that are looked at
front : (n end : ℕ) → end ≤ 64 → bit_and n ((2 ^ 64 - 1) / 2 ^ (64 - end)) ≡ bit_and n (2 ^ end - 1)
front n end most = ap (bit_and n) (ones end most)

pub returns-then-front-eq0-clause-none : goal.returns-then-front-eq0-clause-none
returns-then-front-eq0-clause-none c = no-last-bit c.args.word c.args.end (sym (front c.args.word c.args.end c.requires.inside) ∙ c.if-front-eq0.true)

pub returns-else-front-eq0-clause-last : goal.returns-else-front-eq0-clause-last
returns-else-front-eq0-clause-last c =
    let is = front c.args.word c.args.end c.requires.inside in
    last-bit c.args.word c.args.end c.ilog2.result (rw is at c.ilog2.ensures.power_le) (rw is at c.ilog2.ensures.next_power_gt)

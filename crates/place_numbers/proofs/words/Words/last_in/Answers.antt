use Rattle.std.proofs.Common.{◌-◌, ◌/◌, arith}
use Rattle.place_numbers.proofs.Marked.{last-in, none-before}
use Rattle.place_numbers.proofs.words.Words.last_in.Goals as goal

pub returns-in_err-bit-clause-none : goal.returns-in_err-bit-clause-none
returns-in_err-bit-clause-none c =
    rw c.from_residual.ensures (none-before c.self.inside.items.items c.self.inside.count c.self.invariant.past c.args.self.now c.self.view_is c.args.end ((c.args.end - 1) / 64) c.word_at.result c.word_at.ensures c.in_err-bit.ensures.none)

pub returns-clause-last : goal.returns-clause-last
returns-clause-last c =
    last-in c.self.inside.items.items c.self.inside.count c.self.invariant.past c.args.self.now c.self.view_is c.args.end ((c.args.end - 1) / 64) c.in_ok-bit.bit c.word_at.result c.word_at.ensures (omega arith) (omega arith) c.in_ok-bit.ensures.last

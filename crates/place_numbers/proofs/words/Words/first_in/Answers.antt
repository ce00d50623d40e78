use Rattle.place_numbers.proofs.Marked.{first-in, none-in}
use Rattle.place_numbers.proofs.words.Words.first_in.Goals as goal

pub returns-in_err-bit-clause-none : goal.returns-in_err-bit-clause-none
returns-in_err-bit-clause-none c =
    rw c.from_residual.ensures (none-in c.self.inside.items.items c.self.inside.count c.self.invariant.past c.args.self.now c.self.view_is c.args.from c.word_at.result c.word_at.ensures c.in_err-bit.ensures.none)

pub returns-clause-first : goal.returns-clause-first
returns-clause-first c = first-in c.self.inside.items.items c.self.inside.count c.self.invariant.past c.args.self.now c.self.view_is c.args.from c.in_ok-bit.bit c.word_at.result c.word_at.ensures c.in_ok-bit.ensures.first

use Rattle.std.proofs.Common.{sym}
use Rattle.place_numbers.proofs.Marked.{long}
use Rattle.place_numbers.proofs.words.Words.len.Goals as goal

pub returns-clause-value : goal.returns-clause-value
returns-clause-value c = sym (long c.self.inside.items.items c.self.inside.count c.self.invariant.past c.args.self.now c.self.view_is)

use Rattle.std.proofs.Common.{◌∙◌, sym}
use Rattle.place_numbers.proofs.Parts.{long}
use Rattle.place_numbers.proofs.Numbers.len.Goals as goal

pub returns : goal.returns
returns c = c.len.ensures ∙ sym (long c.self.inside.some c.self.inside.middle c.self.inside.most c.self.invariant c.args.self.now c.self.view_is)

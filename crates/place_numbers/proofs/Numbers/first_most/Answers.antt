use Rattle.place_numbers.proofs.Parts.{most-marked, first-number, no-first-number}
use Rattle.place_numbers.proofs.Numbers.first_most.Goals as goal

pub returns-clause-first : goal.returns-clause-first
returns-clause-first c =
    first-number c.self.inside.most c.args.self.now 3 (most-marked c.self.inside.some c.self.inside.middle c.self.inside.most c.self.invariant c.args.self.now c.self.view_is) c.first_from.result c.args.from c.first_from.ensures.first

pub returns-clause-none : goal.returns-clause-none
returns-clause-none c =
    no-first-number c.self.inside.most c.args.self.now 3 (most-marked c.self.inside.some c.self.inside.middle c.self.inside.most c.self.invariant c.args.self.now c.self.view_is) c.first_from.result c.args.from c.first_from.ensures.none

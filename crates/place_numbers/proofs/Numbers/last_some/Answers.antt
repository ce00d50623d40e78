use Rattle.std.proofs.Common.{arith}
use Rattle.place_numbers.proofs.Parts.{some-marked, last-number, no-last-number}
use Rattle.place_numbers.proofs.Numbers.last_some.Goals as goal

pub last_before-requires : goal.last_before-requires
last_before-requires c =
    let marked = some-marked c.self.inside.some c.self.inside.middle c.self.inside.most c.self.invariant c.args.self.now c.self.view_is in let count = marked.count in
    omega (arith, count, c.requires.inside)

pub returns-clause-last : goal.returns-clause-last
returns-clause-last c =
    last-number c.self.inside.some c.args.self.now 1 (some-marked c.self.inside.some c.self.inside.middle c.self.inside.most c.self.invariant c.args.self.now c.self.view_is) c.last_before.result c.args.end c.last_before.ensures.last

pub returns-clause-none : goal.returns-clause-none
returns-clause-none c =
    no-last-number c.self.inside.some c.args.self.now 1 (some-marked c.self.inside.some c.self.inside.middle c.self.inside.most c.self.invariant c.args.self.now c.self.view_is) c.last_before.result c.args.end c.last_before.ensures.none

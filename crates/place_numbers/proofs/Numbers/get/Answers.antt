use Rattle.std.proofs.Common.{arith}
use Rattle.place_numbers.proofs.Parts.{long, value}
use Rattle.place_numbers.proofs.Numbers.get.Goals as goal

pub get-requires : goal.get-requires
get-requires c = let l = long c.self.inside.some c.self.inside.middle c.self.inside.most c.self.invariant c.args.self.now c.self.view_is in omega (arith, l, c.requires)

pub returns-then-not-get : goal.returns-then-not-get
returns-then-not-get c =
    let v = value c.self.inside.some c.self.inside.middle c.self.inside.most c.self.invariant c.args.self.now c.self.view_is c.args.place in
    let each = c.self.invariant.each c.args.place in omega (arith, c.if-not-get.ensures)

pub returns-then-get : goal.returns-then-get
returns-then-get c =
    let v = value c.self.inside.some c.self.inside.middle c.self.inside.most c.self.invariant c.args.self.now c.self.view_is c.args.place in
    let each = c.self.invariant.each c.args.place in let one = c.self.invariant.one c.args.place in omega (arith, c.if-get.ensures)

pub returns-then-get-2 : goal.returns-then-get-2
returns-then-get-2 c =
    let v = value c.self.inside.some c.self.inside.middle c.self.inside.most c.self.invariant c.args.self.now c.self.view_is c.args.place in
    let each = c.self.invariant.each c.args.place in let one = c.self.invariant.one c.args.place in omega (arith, c.if-get-2.ensures)

pub returns-else-get-2 : goal.returns-else-get-2
returns-else-get-2 c =
    let v = value c.self.inside.some c.self.inside.middle c.self.inside.most c.self.invariant c.args.self.now c.self.view_is c.args.place in
    omega (arith, c.if-not-get.ensures, c.if-get.ensures, c.if-get-2.ensures)

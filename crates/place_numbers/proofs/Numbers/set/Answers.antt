use Rattle.std.proofs.Common.{◌∙◌, not, nat_eq, arith}
use Rattle.place_numbers.specs.Bits.{mark_of}
use Rattle.place_numbers.specs.Numbers.{numbers_of}
use Rattle.place_numbers.proofs.Parts.{long, marks-of, set-parts, set-numbers}
use Rattle.place_numbers.proofs.Numbers.set.Goals as goal

pub put-requires : goal.put-requires
put-requires c = let l = long c.self.inside.some c.self.inside.middle c.self.inside.most c.self.invariant c.args.self.now c.self.view_is in omega (arith, l, c.requires.inside)

pub put-requires-2 : goal.put-requires-2
put-requires-2 c =
    let l = long c.self.inside.some c.self.inside.middle c.self.inside.most c.self.invariant c.args.self.now c.self.view_is in
    let count = c.self.invariant.middle_count in omega (arith, l, c.requires.inside)

pub put-requires-3 : goal.put-requires-3
put-requires-3 c =
    let l = long c.self.inside.some c.self.inside.middle c.self.inside.most c.self.invariant c.args.self.now c.self.view_is in
    let count = c.self.invariant.most_count in omega (arith, l, c.requires.inside)

pub invariant_of-self : goal.invariant_of-self
invariant_of-self c =
    let n = c.args.number in let marks = marks-of n c.requires.most in
    rw (c.put.ensures, c.put-2.ensures, c.put-3.ensures)
    (set-parts c.self.inside.some c.self.inside.middle c.self.inside.most c.args.self.now c.self.invariant c.self.view_is c.args.place (mark_of (not (nat_eq n 0))) (mark_of (nat_eq n 2)) (mark_of (nat_eq n 3)) n
    c.requires.inside marks.0 marks.1 marks.2)

pub returns : goal.returns
returns c =
    let n = c.args.number in let marks = marks-of n c.requires.most in
    (λ i. numbers_of (c.put.ensures i) (c.put-2.ensures i) (c.put-3.ensures i))
    ∙ set-numbers c.self.inside.some c.self.inside.middle c.self.inside.most c.args.self.now c.self.invariant c.self.view_is c.args.place (mark_of (not (nat_eq n 0))) (mark_of (nat_eq n 2)) (mark_of (nat_eq n 3)) n
    c.requires.inside marks.0 marks.1 marks.2

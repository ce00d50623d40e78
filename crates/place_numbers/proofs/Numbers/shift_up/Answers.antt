use Rattle.std.proofs.Common.{List, ℕ, ◌∙◌, length, arith}
use Rattle.place_numbers.specs.Numbers.{numbers_of}
use Rattle.place_numbers.specs.Shifted.{shifted_up}
use Rattle.place_numbers.proofs.Parts.{IsMove, long, up-moves, moved-parts, moved-numbers}
use Rattle.place_numbers.proofs.Numbers.shift_up.Goals as goal
use Rattle.place_numbers.proofs.Numbers.shift_up.Goals.{After-shift_up-3}

pub shift_up-requires-clause-inside : goal.shift_up-requires-clause-inside
shift_up-requires-clause-inside c = let l = long c.self.inside.some c.self.inside.middle c.self.inside.most c.self.invariant c.args.self.now c.self.view_is in omega (arith, l, c.requires.inside)

pub shift_up-requires-2-clause-inside : goal.shift_up-requires-2-clause-inside
shift_up-requires-2-clause-inside c =
    let l = long c.self.inside.some c.self.inside.middle c.self.inside.most c.self.invariant c.args.self.now c.self.view_is in
    let count = c.self.invariant.middle_count in omega (arith, l, c.requires.inside)

pub shift_up-requires-3-clause-inside : goal.shift_up-requires-3-clause-inside
shift_up-requires-3-clause-inside c =
    let l = long c.self.inside.some c.self.inside.middle c.self.inside.most c.self.invariant c.args.self.now c.self.view_is in
    let count = c.self.invariant.most_count in omega (arith, l, c.requires.inside)

move : (c : After-shift_up-3) → IsMove (length c.self.inside.some) (λ (xs : List ℕ). shifted_up c.args.from c.args.to c.args.count xs)
move c =
    let l = long c.self.inside.some c.self.inside.middle c.self.inside.most c.self.invariant c.args.self.now c.self.view_is in
    up-moves (length c.self.inside.some) c.args.from c.args.to c.args.count c.requires.order (omega (arith, l, c.requires.inside))

pub invariant_of-self : goal.invariant_of-self
invariant_of-self c =
    rw (c.shift_up.ensures, c.shift_up-2.ensures, c.shift_up-3.ensures)
    (moved-parts c.self.inside.some c.self.inside.middle c.self.inside.most c.args.self.now c.self.invariant c.self.view_is (λ (xs : List ℕ). shifted_up c.args.from c.args.to c.args.count xs) (move c))

pub returns : goal.returns
returns c =
    (λ i. numbers_of (c.shift_up.ensures i) (c.shift_up-2.ensures i) (c.shift_up-3.ensures i))
    ∙ moved-numbers c.self.inside.some c.self.inside.middle c.self.inside.most c.args.self.now c.self.invariant c.self.view_is (λ (xs : List ℕ). shifted_up c.args.from c.args.to c.args.count xs) (move c)

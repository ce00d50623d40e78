use Rattle.std.proofs.Common.{List, ℕ, ◌∙◌, length, arith}
use Rattle.place_numbers.specs.Numbers.{numbers_of}
use Rattle.place_numbers.specs.Shifted.{shifted_down}
use Rattle.place_numbers.proofs.Parts.{IsMove, long, down-moves, moved-parts, moved-numbers}
use Rattle.place_numbers.proofs.Numbers.shift_down.Goals as goal
use Rattle.place_numbers.proofs.Numbers.shift_down.Goals.{After-shift_down-3}

pub shift_down-requires-clause-inside : goal.shift_down-requires-clause-inside
shift_down-requires-clause-inside c = let l = long c.self.inside.some c.self.inside.middle c.self.inside.most c.self.invariant c.args.self.now c.self.view_is in omega (arith, l, c.requires.inside)

pub shift_down-requires-2-clause-inside : goal.shift_down-requires-2-clause-inside
shift_down-requires-2-clause-inside c =
    let l = long c.self.inside.some c.self.inside.middle c.self.inside.most c.self.invariant c.args.self.now c.self.view_is in
    let count = c.self.invariant.middle_count in omega (arith, l, c.requires.inside)

pub shift_down-requires-3-clause-inside : goal.shift_down-requires-3-clause-inside
shift_down-requires-3-clause-inside c =
    let l = long c.self.inside.some c.self.inside.middle c.self.inside.most c.self.invariant c.args.self.now c.self.view_is in
    let count = c.self.invariant.most_count in omega (arith, l, c.requires.inside)

move : (c : After-shift_down-3) → IsMove (length c.self.inside.some) (λ (xs : List ℕ). shifted_down c.args.from c.args.to c.args.count xs)
move c =
    let l = long c.self.inside.some c.self.inside.middle c.self.inside.most c.self.invariant c.args.self.now c.self.view_is in
    down-moves (length c.self.inside.some) c.args.from c.args.to c.args.count c.requires.order (omega (arith, l, c.requires.inside))

pub invariant_of-self : goal.invariant_of-self
invariant_of-self c =
    rw (c.shift_down.ensures, c.shift_down-2.ensures, c.shift_down-3.ensures)
    (moved-parts c.self.inside.some c.self.inside.middle c.self.inside.most c.args.self.now c.self.invariant c.self.view_is (λ (xs : List ℕ). shifted_down c.args.from c.args.to c.args.count xs) (move c))

pub returns : goal.returns
returns c =
    (λ i. numbers_of (c.shift_down.ensures i) (c.shift_down-2.ensures i) (c.shift_down-3.ensures i))
    ∙ moved-numbers c.self.inside.some c.self.inside.middle c.self.inside.most c.args.self.now c.self.invariant c.self.view_is (λ (xs : List ℕ). shifted_down c.args.from c.args.to c.args.count xs) (move c)

use Rattle.std.proofs.Common.{◌+◌, ◌<◌, ◌≤◌, ℕ, ◌∙◌, get_or, refl, arith}
use Rattle.place_numbers.proofs.Cleared.{copied-zeros}
use Rattle.place_numbers.proofs.bits.Bits.copy_first.Goals as goal
use Rattle.place_numbers.proofs.bits.Bits.copy_first.Goals.{in-Some, in-None}

pub returns-clause-copied : goal.returns-clause-copied
returns-clause-copied c =
    let from = c.args.from in let to = c.args.to in let free = c.match-first_from.free in let inside = c.requires.inside in let down = c.requires.order in
    let most : free ≤ c.args.count = elim c.match-first_from.branch [
      | in-Some w ↦ omega (arith, w.min-free.ensures, w.free-is)
      | in-None w ↦ omega (arith, w.free-is)
    ] in
    let none : (j : ℕ) → from ≤ j → j < from + free → get_or c.args.self.now j 0 < 1 = elim c.match-first_from.branch [
      | in-Some w ↦ λ j past low. w.in-Some.ensures.first.first j past (omega (arith, w.min-free.ensures, w.free-is, low))
      | in-None w ↦ λ j past low. w.in-None.ensures.none j past (omega (arith, low, most, inside))
    ] in
    c.clear.ensures ∙ copied-zeros c.args.self.now from to free (to + free) refl (omega (arith, most, inside)) (omega (arith, most, inside, down)) none

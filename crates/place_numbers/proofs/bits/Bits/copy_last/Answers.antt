use Rattle.std.proofs.Common.{◌≡◌, ◌+◌, ◌-◌, ◌<◌, ◌≤◌, ℕ, ◌∙◌, get_or, sym, ap, inl, inr, arith}
use Rattle.std.specs.Int.{bit_at}
use Rattle.std.proofs.lemmas.Bool.{cases_lt}
use Rattle.std.proofs.lemmas.Nat.Bits.{bit_at-zero}
use Rattle.place_numbers.proofs.Moved.{same-place}
use Rattle.place_numbers.proofs.Cleared.{copied-zeros}
use Rattle.place_numbers.proofs.bits.Bits.copy_last.Goals as goal
use Rattle.place_numbers.proofs.bits.Bits.copy_last.Goals.{in-Some, in-None}

pub returns-clause-some : goal.returns-clause-some
returns-clause-some c = elim c.match-last_before.branch [
  | in-Some w ↦
      let from = c.args.from in let count = c.args.count in let piece = c.min.result in let at = w.in-Some.at in
      let least : 0 < piece = omega (arith, c.min.ensures, c.requires.some) in
      let few : piece < 65 = omega (arith, c.min.ensures) in
      let most : piece ≤ count = omega (arith, c.min.ensures) in
      let zero : get_or c.args.self.now (from + (count - piece) + (piece - 1)) 0 ≡ 0 =
      sym (c.read-marks.ensures (piece - 1) (omega (arith, least, few))) ∙ ap (λ (n : ℕ). bit_at n (piece - 1)) c.if-marks-ne0.false ∙ bit_at-zero (piece - 1) in
      let last = w.in-Some.ensures.last in
      elim (cases_lt (at + 1) (from + count)) [
        | inl low ↦ omega (arith, low, w.min-free.ensures, w.free-is, c.requires.some)
        | inr end ↦
            let is = same-place c.args.self.now at (from + (count - piece) + (piece - 1)) (omega (arith, end, last.inside, least, most)) in
            absurd (omega (arith, is, zero, last.large))
      ]
  | in-None w ↦ omega (arith, w.free-is, c.requires.some)
]

pub returns-clause-copied : goal.returns-clause-copied
returns-clause-copied c =
    let from = c.args.from in let to = c.args.to in let count = c.args.count in let free = c.match-last_before.free in
    let inside = c.requires.inside in let up = c.requires.order in
    let most : free ≤ count = elim c.match-last_before.branch [
      | in-Some w ↦ omega (arith, w.min-free.ensures, w.free-is)
      | in-None w ↦ omega (arith, w.free-is)
    ] in
    let none : (j : ℕ) → from + (count - free) ≤ j → j < from + (count - free) + free → get_or c.args.self.now j 0 < 1 = elim c.match-last_before.branch [
      | in-Some w ↦ λ j past low. w.in-Some.ensures.last.last j (omega (arith, w.min-free.ensures, w.free-is, past, most)) (omega (arith, low, most))
      | in-None w ↦ λ j past low. w.in-None.ensures.none j (omega (arith, low, most))
    ] in
    c.clear.ensures ∙ copied-zeros c.args.self.now (from + (count - free)) (to + (count - free)) free (to + count) (omega (arith, most))
    (omega (arith, most, inside, up)) (omega (arith, most, inside)) none

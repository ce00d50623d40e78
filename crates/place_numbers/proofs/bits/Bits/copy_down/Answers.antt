use Rattle.std.proofs.Common.{◌+◌, ◌≤◌, List, ℕ, ap, ◌∙◌, arith}
use Rattle.place_numbers.specs.Shifted.{copied}
use Rattle.place_numbers.proofs.Copied.{down-more}
use Rattle.place_numbers.proofs.bits.Bits.copy_down.Goals as goal

pub loop-done-preserved : goal.loop-done-preserved
loop-done-preserved c =
    let from = c.args.from in let to = c.args.to in let done = c.loop-done.done in let piece = c.copy_first-done.result in
    let fits : done + piece ≤ c.args.count = omega (arith, c.copy_first-done.ensures.most, c.loop-done.invariant.within) in
    record {
      within = fits;
      moved = c.copy_first-done.ensures.copied ∙ ap (λ (l : List ℕ). copied (from + done) (to + done) piece l) c.loop-done.invariant.moved
          ∙ down-more c.args.self.now from to done piece c.requires.order (omega (arith, c.requires.inside));
    }

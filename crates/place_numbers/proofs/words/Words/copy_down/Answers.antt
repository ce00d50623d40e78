use Rattle.std.proofs.Common.{◌+◌, ◌≤◌, List, ℕ, length, ap, ◌∙◌, arith}
use Rattle.place_numbers.specs.Shifted.{copied}
use Rattle.place_numbers.proofs.Cleared.{copied-word}
use Rattle.place_numbers.proofs.Copied.{is-copied, down-more}
use Rattle.place_numbers.proofs.words.Words.copy_down.Goals as goal

pub loop-done-preserved : goal.loop-done-preserved
loop-done-preserved c =
    let from = c.args.from in let to = c.args.to in let done = c.loop-done.done in let piece = c.min-piece.result in
    let xs = c.args.self.now in let ys = c.loop-done.self in let small = c.min-piece.ensures in
    let fits : done + piece ≤ c.args.count = omega (arith, small, c.loop-done.invariant.within) in
    let long = ap length c.loop-done.invariant.moved ∙ (let whole = is-copied xs from to done (omega (arith, c.requires.inside)) (omega (arith, c.requires.inside, c.requires.order)) in whole.len) in
    record {
      within = fits;
      moved = copied-word ys c.write.new.self (from + done) (to + done) piece c.read-marks.result (omega (arith, small)) (omega (arith, long, c.requires.inside)) (omega (arith, long, c.requires.inside, c.requires.order)) c.read-marks.ensures c.write.ensures.written
          ∙ ap (λ (l : List ℕ). copied (from + done) (to + done) piece l) c.loop-done.invariant.moved
          ∙ down-more xs from to done piece c.requires.order (omega (arith, c.requires.inside));
    }

use Rattle.std.proofs.Common.{◌≡◌, ◌+◌, ◌-◌, ◌≤◌, List, ℕ, length, ap, ◌∙◌, arith}
use Rattle.place_numbers.specs.Shifted.{copied}
use Rattle.place_numbers.proofs.Cleared.{copied-word}
use Rattle.place_numbers.proofs.Copied.{is-copied, up-more}
use Rattle.place_numbers.proofs.words.Words.copy_up.Goals as goal

pub loop-left-preserved : goal.loop-left-preserved
loop-left-preserved c =
    let n = c.args.count in let left = c.loop-left.left in let piece = c.min-piece.result in let rest = left - piece in
    let from = c.args.from + rest in let to = c.args.to + rest in let xs = c.args.self.now in let ys = c.loop-left.self in let small = c.min-piece.ensures in
    let less : piece ≤ left = omega (arith, small) in
    let within : left ≤ n = c.loop-left.invariant.within in
    let from-end : c.args.from + left ≡ from + piece = omega arith in let to-end : c.args.to + left ≡ to + piece = omega arith in
    let all : piece + (n - left) ≡ n - rest = omega arith in
    let inside = c.requires.inside in let up = c.requires.order in
    let whole = is-copied xs (c.args.from + left) (c.args.to + left) (n - left) (omega (arith, inside, up, within)) (omega (arith, inside, within)) in
    let long = ap length c.loop-left.invariant.moved ∙ whole.len in
    record {
      within = omega arith;
      moved = copied-word ys c.write.new.self from to piece c.read-marks.result (omega (arith, small)) (omega (arith, long, inside, up)) (omega (arith, long, inside)) c.read-marks.ensures c.write.ensures.written
          ∙ ap (λ (l : List ℕ). copied from to piece l) (c.loop-left.invariant.moved ∙ (λ i. copied (from-end i) (to-end i) (n - left) xs))
          ∙ up-more xs from to piece (n - left) (omega (arith, c.requires.order)) (omega (arith, c.requires.inside)) ∙ ap (λ (k : ℕ). copied from to k xs) all;
    }

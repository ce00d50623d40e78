use Rattle.std.proofs.Common.{◌≡◌, ◌+◌, ◌-◌, ◌≤◌, List, ℕ, ap, ◌∙◌, arith}
use Rattle.place_numbers.specs.Shifted.{copied}
use Rattle.place_numbers.proofs.Copied.{up-more}
use Rattle.place_numbers.proofs.bits.Bits.copy_up.Goals as goal

pub loop-left-preserved : goal.loop-left-preserved
loop-left-preserved c =
    let n = c.args.count in let left = c.loop-left.left in let piece = c.copy_last-left.result in let rest = left - piece in
    let from = c.args.from + rest in let to = c.args.to + rest in let xs = c.args.self.now in
    let less : piece ≤ left = c.copy_last-left.ensures.most in
    let within : left ≤ n = c.loop-left.invariant.within in
    let from-end : c.args.from + left ≡ from + piece = omega arith in let to-end : c.args.to + left ≡ to + piece = omega arith in
    let all : piece + (n - left) ≡ n - rest = omega arith in
    record {
      within = omega arith;
      moved = c.copy_last-left.ensures.copied ∙ ap (λ (l : List ℕ). copied from to piece l) (c.loop-left.invariant.moved ∙ (λ i. copied (from-end i) (to-end i) (n - left) xs))
          ∙ up-more xs from to piece (n - left) (omega (arith, c.requires.order)) (omega (arith, c.requires.inside)) ∙ ap (λ (k : ℕ). copied from to k xs) all;
    }

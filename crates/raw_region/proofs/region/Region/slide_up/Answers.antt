use Rattle.std.proofs.Common.{◌≡◌, ◌+◌, ◌-◌, ◌≤◌, ℕ, refl, ap, ◌∙◌, arith}
use Rattle.raw_region.specs.Bytes.{part, written}
use Rattle.raw_region.proofs.Pieces.{up_more, up_all}
use Rattle.raw_region.proofs.region.Region.slide_up.Goals as goal
use Rattle.raw_region.proofs.region.Region.slide_up.Goals.{then-left-lt-PIECE, else-left-lt-PIECE}

pub loop-left-init : goal.loop-left-init
loop-left-init c = (omega arith, up_all c.args.self.now.bytes c.args.from c.args.to c.args.n, refl, refl, refl)

pub loop-left-preserved : goal.loop-left-preserved
loop-left-preserved c =
    let n = c.args.n in let left = c.loop-left.left in let piece = c.if-left-lt-PIECE.piece in let rest = left - piece in
    let from = c.args.from + rest in let to = c.args.to + rest in let xs = c.args.self.now.bytes in
    let kept = c.loop-left.invariant in let fits = kept.0 in
    let less : piece ≤ left = elim c.if-left-lt-PIECE.branch [ then-left-lt-PIECE w ↦ omega arith | else-left-lt-PIECE w ↦ omega arith ] in
    let from_end : c.args.from + left ≡ from + piece = omega arith in let to_end : c.args.to + left ≡ to + piece = omega arith in
    let moved : c.loop-left.self.bytes ≡ written xs (to + piece) (part xs (from + piece) (n - left)) = kept.1 ∙ (λ j. written xs (to_end j) (part xs (from_end j) (n - left))) in
    let all : piece + (n - left) ≡ n - rest = omega arith in (
      omega arith,
      c.carry.ensures.bytes ∙ (λ j. written (moved j) to (part (moved j) from piece))
          ∙ up_more xs from to piece (n - left) (omega (arith, c.requires.up)) (omega (arith, c.requires.inside)) ∙ ap (λ (k : ℕ). written xs to (part xs from k)) all,
      c.carry.ensures.len ∙ kept.2,
      c.carry.ensures.name ∙ kept.3,
      c.carry.ensures.lent ∙ kept.4,
    )

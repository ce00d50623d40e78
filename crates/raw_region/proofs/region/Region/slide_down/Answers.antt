use Rattle.std.proofs.Common.{◌+◌, ◌≤◌, refl, sym, ◌∙◌, arith}
use Rattle.raw_region.specs.Bytes.{part, written}
use Rattle.raw_region.proofs.Pieces.{written-nothing, down_more}
use Rattle.raw_region.proofs.region.Region.slide_down.Goals as goal
use Rattle.raw_region.proofs.region.Region.slide_down.Goals.{then-n-done-lt-PIECE, else-n-done-lt-PIECE}

pub loop-done-init : goal.loop-done-init
loop-done-init c = (omega arith, sym (written-nothing c.args.self.now.bytes c.args.to), refl, refl, refl)

pub loop-done-preserved : goal.loop-done-preserved
loop-done-preserved c =
    let from = c.args.from in let to = c.args.to in let done = c.loop-done.done in let piece = c.if-n-done-lt-PIECE.piece in
    let kept = c.loop-done.invariant in
    let fits : done + piece ≤ c.args.n = elim c.if-n-done-lt-PIECE.branch [ then-n-done-lt-PIECE w ↦ omega arith | else-n-done-lt-PIECE w ↦ omega arith ] in (
      fits,
      c.carry.ensures.bytes ∙ (λ j. written (kept.1 j) (to + done) (part (kept.1 j) (from + done) piece))
          ∙ down_more c.args.self.now.bytes from to done piece c.requires.down (omega (arith, c.requires.inside)),
      c.carry.ensures.len ∙ kept.2,
      c.carry.ensures.name ∙ kept.3,
      c.carry.ensures.lent ∙ kept.4,
    )

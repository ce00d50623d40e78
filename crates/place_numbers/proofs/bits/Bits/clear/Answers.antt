use Rattle.std.proofs.Common.{◌+◌, List, ℕ, subst, arith}
use Rattle.place_numbers.specs.Bits.{AreWritten}
use Rattle.place_numbers.proofs.Cleared.{skip-cleared, more-cleared, only-cleared}
use Rattle.place_numbers.proofs.bits.Bits.clear.Goals as goal

pub loop-place-preserved : goal.loop-place-preserved
loop-place-preserved c =
    let xs = c.args.self.now in let from = c.args.from in let place = c.loop-place.place in let piece = c.min-piece.result in
    let before = c.loop-place.invariant.inside in let passed = c.pass-place.ensures in
    record {
      inside = (omega (arith, before.0, passed.order), passed.most);
      done = skip-cleared xs c.put.new.self from (place + piece)
          (more-cleared xs c.loop-place.self from place c.loop-place.invariant.done c.put.new.self piece before.0 (omega (arith, c.min-piece.ensures)) (subst (λ (l : List ℕ). AreWritten l c.put.new.self place piece 0) c.self.view_is c.put.ensures))
          c.pass-place.result passed.order passed.none;
    }

pub returns : goal.returns
returns c =
    let from = c.args.from in let end = c.args.end in let xs = c.args.self.now in
    only-cleared xs c.loop-place.self from end c.requires.order c.requires.inside
    (skip-cleared xs c.loop-place.self from c.loop-place.place c.loop-place.invariant.done end c.loop-place.invariant.inside.1 (λ j low high. absurd (omega arith)))

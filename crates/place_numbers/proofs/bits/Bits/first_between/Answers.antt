use Rattle.std.proofs.Common.{◌+◌, inl, inr, arith}
use Rattle.std.proofs.lemmas.Bool.{cases_lt}
use Rattle.place_numbers.proofs.Between.{none-to, first-in}
use Rattle.place_numbers.proofs.bits.Bits.first_between.Goals as goal

pub returns-then-bit-left-clause-first : goal.returns-then-bit-left-clause-first
returns-then-bit-left-clause-first c =
    first-in c.args.self.now c.args.from c.loop-place.place c.read.result c.loop-place.invariant.order c.loop-place.invariant.none c.read.ensures
    c.in-Some.bit c.in-Some.ensures.first (omega (arith, c.if-bit-left.true, c.requires, c.loop-place-test.true))

pub returns-else-bit-left-clause-none : goal.returns-else-bit-left-clause-none
returns-else-bit-left-clause-none c =
    let it = c.in-Some.ensures.first in let within = it.inside in
    λ j past low. none-to c.args.self.now c.args.from c.loop-place.place c.read.result c.loop-place.invariant.order c.loop-place.invariant.none c.read.ensures
    c.in-Some.bit (omega (arith, within.1)) (λ i before. it.first i (omega arith) before) j past (omega (arith, c.if-bit-left.false, c.loop-place-test.true, low))

pub loop-place-preserved : goal.loop-place-preserved
loop-place-preserved c =
    let place = c.loop-place.place in let passed = c.pass-place.ensures in
    record {
      order = omega (arith, c.loop-place.invariant.order, passed.order);
      none = λ j past low. elim (cases_lt j (place + c.min.result)) [
        | inl near ↦
            none-to c.args.self.now c.args.from place c.read.result c.loop-place.invariant.order c.loop-place.invariant.none c.read.ensures
            c.min.result (omega (arith, c.min.ensures)) (λ i before. c.in_default.ensures.none i (omega arith)) j past near
        | inr far ↦ passed.none j far low
      ];
    }

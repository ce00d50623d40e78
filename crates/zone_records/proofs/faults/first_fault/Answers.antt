use Rattle.std.proofs.Common.{◌≡◌, ◌∙◌, length, Option, Some, None, refl, ap, arith}
use Rattle.std.specs.Prelude.{IfNone}
use Rattle.mac_base.proofs.Reach.{end-small}
use Rattle.zone_records.proofs.FaultFronts.{front-begins, front-ends, front-goes-on, front-wrong, own-long}
use Rattle.zone_records.proofs.faults.first_fault.Goals as goal

-- what a clause says of `None` holds where nothing is found
none_found : {A P : Type 0} (o : Option A) → IfNone o P → ((x : A) → o ≡ Some x → ⊥) → P
none_found None h not = h
none_found (Some x) h not = absurd (not x refl)

pub loop-at-init : goal.loop-at-init
loop-at-init c = front-begins c.args.blocks.now c.requires.sound c.image-own.ensures.blocks c.image-own.result.now c.args.bytes.now c.image-own.ensures.bytes c.requires.whole

pub overflow_cast-result : goal.overflow_cast-result
overflow_cast-result c =
    let l = c.args.blocks.now in
    let high = c.requires.sound.high in
    let small = end-small l.heads in
    let long = ap length c.image-own.ensures.bytes ∙ own-long l in
    omega arith

pub returns-in-Some-clause-fault : goal.returns-in-Some-clause-fault
returns-in-Some-clause-fault c =
    front-wrong c.args.blocks.now c.requires.sound c.image-own.ensures.blocks c.image-own.result.now c.args.bytes.now c.image-own.ensures.bytes c.requires.whole
    c.loop-at.at c.in-Some.part (omega arith) c.loop-at.invariant c.in-Some.ensures.fault.0 c.in-Some.ensures.fault.1

pub loop-at-preserved : goal.loop-at-preserved
loop-at-preserved c =
    front-goes-on c.args.blocks.now c.requires.sound c.image-own.ensures.blocks c.image-own.result.now c.args.bytes.now c.image-own.ensures.bytes c.requires.whole
    c.loop-at.at (omega arith) c.loop-at.invariant (none_found c.wrong_at.result c.wrong_at.ensures.none c.in_default.not-Some)

pub returns-clause-none : goal.returns-clause-none
returns-clause-none c =
    front-ends c.args.blocks.now c.requires.sound c.image-own.ensures.blocks c.image-own.result.now c.args.bytes.now c.image-own.ensures.bytes c.requires.whole
    c.loop-at.at (omega arith) c.loop-at.invariant

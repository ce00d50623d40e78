use Rattle.std.proofs.Common.{◌∙◌, ◌≤◌, ap, arith, length, refl, subst, sym}
use Rattle.mac_base.specs.HeadKind.{zone_header}
use Rattle.raw_region.specs.State.{State as Region}
use Rattle.held_calls.specs.Holding.{loans_of}
use Rattle.held_zone.specs.Asleep.{AwakeTaking, SleepsOn}
use Rattle.held_zone.specs.Fields.{fielded}
use Rattle.held_zone.specs.NilFlags.{Takes}
use Rattle.held_zone.specs.State.{State}
use Rattle.held_zone.proofs.Guests.{managed-long, other-length, woken}
use Rattle.held_zone.proofs.Headers.{fielded-back}
use Rattle.held_zone.proofs.Made.{state}
use Rattle.held_zone.proofs.session.Session.wake_told.Goals as goal

pub returns-then-len-limit-clause-asleep : goal.returns-then-len-limit-clause-asleep
returns-then-len-limit-clause-asleep c =
    (other-length c.args.self.now.zone c.args.region.bytes (λ same. c.if-len-limit.true (c.len.ensures ∙ same ∙ sym c.limit.ensures.value)), refl, refl)

pub wake_taking-requires-clause-long : goal.wake_taking-requires-clause-long
wake_taking-requires-clause-long c =
    managed-long c.args.region c.put_aside-fields.new.region c.put_aside-fields.ensures.region ∙ sym c.len.ensures ∙ c.if-len-limit.false ∙ c.limit.ensures.value

pub write_in-requires-clause-long : goal.write_in-requires-clause-long
write_in-requires-clause-long c =
    let back = ap (λ (r : Region). length r.bytes) c.in-Err.ensures.asleep.1 in
    let same = managed-long c.args.region c.put_aside-fields.new.region c.put_aside-fields.ensures.region in
    let len = c.len.ensures in let limit = c.if-len-limit.false in let large = c.limit.ensures.large in
    omega arith

pub returns-in-Ok-clause-awake : goal.returns-in-Ok-clause-awake
returns-in-Ok-clause-awake c =
    let old = c.args.self.now in let inside = c.self.inside in
    let now : State = state inside.memory (loans_of inside.loans) inside.answers.left inside.answers.asks inside.waiting.items inside.guest inside.purges in
    let given = c.in-Ok.ensures.awake in
    let takes = subst (λ (r : Region). Takes old.zone r.bytes given.0) c.put_aside-fields.ensures.region given.1 in
    let wakes = subst (λ (r : Region). AwakeTaking given.0 r old c.wake_taking.new.self) c.put_aside-fields.ensures.region given.2 in
    woken old now c.args.region given.0 c.put_aside-fields.result takes (record { structure = wakes.structure; lendable = wakes.lendable; awake = c.self.view_is ∙ wakes.awake }) c.put_aside-fields.ensures.fields

pub returns-in-Err-clause-asleep : goal.returns-in-Err-clause-asleep
returns-in-Err-clause-asleep c =
    let old = c.args.self.now in let slept = c.in-Err.ensures.asleep in
    let region = slept.1 ∙ c.put_aside-fields.ensures.region in
    let len = c.len.ensures in let limit = c.if-len-limit.false in let large = c.limit.ensures.large in
    let long : zone_header ≤ length c.args.region.bytes = omega arith in (
      subst (λ (r : Region). SleepsOn c.in-Err.field-0.why old r.bytes) c.put_aside-fields.ensures.region slept.0,
      c.write_in.ensures.region ∙ (λ i. fielded (c.put_aside-fields.ensures.fields i) (region i)) ∙ fielded-back c.args.region long,
      slept.2,
    )

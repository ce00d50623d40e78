use mir.Syntax.{w16}
use mir.Val.{of_z, to_z}
use Rattle.std.proofs.Common.{rules, ◌≡◌, ◌∙◌, ℤ, ap, length, Option, Some, subst, sym}
use Rattle.std.proofs.lemmas.Option.{IfSome_then}
use Rattle.raw_region.specs.State.{State as Region}
use Rattle.linked_zone.specs.Written.{DifferIn}
use Rattle.held_zone.specs.Asleep.{IsAwakeIn, SleepsOn, region_of}
use Rattle.held_zone.specs.Fields.{managed}
use Rattle.held_zone.specs.State.{State}
use Rattle.macheap_c.specs.Guest.{IsTold, code_asleep}
use Rattle.macheap_c.proofs.Guests.{as_told, not_woken, woken_in}
use Rattle.macheap_c.proofs.guest.wake.Goals as goal

pub wake_in-requires-clause-told : goal.wake_in-requires-clause-told
wake_in-requires-clause-told c =
    let there : region_of c.args.memory.now.host ≡ Some c.in-Some.region = search rules in
    let long : length c.in-Some.region.bytes ≡ c.args.session.value.zone.shape.limit = search rules in
    IfSome_then c.args.written c.requires.told (λ ranges told.
    subst (λ (s : State). DifferIn s.zone (managed c.in-Some.region.bytes) ranges.now) (sym c.deref_mut.ensures.value) (subst (λ (r : Option Region). IsTold (Some c.args.session.value) r ranges.now) there told long))

pub returns-in-Ok : goal.returns-in-Ok
returns-in-Ok c =
    let there : region_of c.args.memory.now.host ≡ Some c.in-Some.region = search rules in
    let long : length c.in-Some.region.bytes ≡ c.args.session.value.zone.shape.limit = search rules in
    let wakes = subst (λ (s : State). IsAwakeIn s c.in-Some.region c.wake_in.new.session) c.deref_mut.ensures.value c.in-Ok.ensures.awake in
    woken_in c.args.session.value c.wake_in.new.session (region_of c.args.memory.now.host) (region_of c.take.new.self.host) c.put-in-Ok.new.self.held.session c.args.asleep.now.zone.held.session c.in-Some.region
    there long wakes c.put-in-Ok.ensures c.requires.out (search rules)

pub returns-in-Err : goal.returns-in-Err
returns-in-Err c =
    let there : region_of c.args.memory.now.host ≡ Some c.in-Some.region = search rules in
    let long : length c.in-Some.region.bytes ≡ c.args.session.value.zone.shape.limit = search rules in
    let on = subst (λ (s : State). SleepsOn c.in-Err.field-0.why s (managed c.in-Some.region.bytes)) c.deref_mut.ensures.value c.in-Err.ensures.asleep.0 in
    let told : c.code_of_sleep.result ≡ code_asleep c.in-Err.field-0.why = search rules in
    not_woken c.args.session.value (region_of c.args.memory.now.host) (region_of c.put-in-Err-2.new.self.host) c.args.zone.now.held.session c.put-in-Err.new.self.zone.held.session c.in-Some.region c.in-Err.field-0.region c.in-Err.field-0.why (to_z w16 (of_z w16 c.code_of_sleep.result))
    there long on (ap (λ (n : ℤ). to_z w16 (of_z w16 n)) told ∙ as_told c.in-Err.field-0.why) (search rules) c.requires.none (search rules) c.put-in-Err-2.ensures

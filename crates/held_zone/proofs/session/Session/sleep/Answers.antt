use Rattle.std.proofs.Common.{◌∙◌, ap, length, subst, sym}
use Rattle.raw_region.specs.State.{State as Region}
use Rattle.held_zone.specs.declared.fields.GuestFields.{GuestFields}
use Rattle.held_zone.specs.Asleep.{IsGivenBack}
use Rattle.held_zone.specs.Fields.{AreFields, fielded}
use Rattle.held_zone.specs.State.{State}
use Rattle.held_zone.proofs.Guests.{given-back}
use Rattle.held_zone.proofs.Headers.{length-with}
use Rattle.held_zone.proofs.session.Session.sleep.Goals as goal

pub returns-clause-given : goal.returns-clause-given
returns-clause-given c =
    let old = c.args.self.now in let new = c.sleep_managed.new.self in let region = c.in_ok-region.region in let slept = c.in_ok-region.ensures in
    let guest = ap (λ (s : State). s.guest) c.self.view_is ∙ slept.asleep.guest in
    let is = c.write_in.ensures.region ∙ ap (λ (g : GuestFields). fielded g region) guest in
    subst (λ (r : Region). IsGivenBack old r new) (sym is)
    (given-back old new region (subst AreFields guest c.write_in.ensures.fields) slept.region slept.asleep slept.again)

pub returns-clause-long : goal.returns-clause-long
returns-clause-long c =
    let old = c.args.self.now in let region = c.in_ok-region.region in let slept = c.in_ok-region.ensures in
    let guest = ap (λ (s : State). s.guest) c.self.view_is ∙ slept.asleep.guest in
    ap (λ (r : Region). length r.bytes) (c.write_in.ensures.region ∙ ap (λ (g : GuestFields). fielded g region) guest)
    ∙ length-with old.guest region.bytes ∙ slept.region.bytes.all

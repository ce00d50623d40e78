use Rattle.std.proofs.Common.{refl, subst, ◌∙◌}
use Rattle.mac_base.specs.ZoneState.{ZoneState}
use Rattle.linked_zone.specs.Places.{NamedAt}
use Rattle.linked_zone.proofs.Standing.{stands-now}
use Rattle.linked_zone.proofs.Found.{of-named}
use Rattle.linked_zone.proofs.EndsWritten.{lent-kept}
use Rattle.linked_zone.proofs.zone.LinkedZone.contents_mut.Goals as goal

pub contents_mut-requires : goal.contents_mut-requires
contents_mut-requires c =
    let place = subst (λ (z : ZoneState). NamedAt z c.args.block c.address_of-at.result) c.self.view_is c.address_of-at.ensures in
    record { held = (of-named _ _ (stands-now c.self.invariant c.self.view_is) c.args.block c.address_of-at.result c.requires.here place).there }

pub invariant_of-self-lent : goal.invariant_of-self-lent
invariant_of-self-lent c ws =
    let place = subst (λ (z : ZoneState). NamedAt z c.args.block c.address_of-at.result) c.self.view_is c.address_of-at.ensures in
    (lent-kept _ _ (stands-now c.self.invariant c.self.view_is) c.args.block c.address_of-at.result c.requires.block place ws).inside

pub returns : goal.returns
returns c =
    let place = subst (λ (z : ZoneState). NamedAt z c.args.block c.address_of-at.result) c.self.view_is c.address_of-at.ensures in
    let mine = of-named _ _ (stands-now c.self.invariant c.self.view_is) c.args.block c.address_of-at.result c.requires.here place in (
      (refl, λ ws. (lent-kept _ _ (stands-now c.self.invariant c.self.view_is) c.args.block c.address_of-at.result c.requires.block place ws).same),
      record { writes_back = tt; value = c.contents_mut.ensures.value mine.there ∙ mine.bytes },
    )

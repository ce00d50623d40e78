use Rattle.std.proofs.Common.{subst}
use Rattle.linked_zone.specs.Changes.{unfixed}
use Rattle.linked_zone.specs.Places.{NamedAt}
use Rattle.linked_zone.proofs.Standing.{Kept, stands-now}
use Rattle.linked_zone.proofs.EndsGiven.{unfix-can, unfix-ends}
use Rattle.linked_zone.proofs.zone.LinkedZone.unfix.Goals as goal

pub set_free-requires : goal.set_free-requires
set_free-requires c = unfix-can _ _ (stands-now c.self.invariant c.self.view_is) c.args.pointer c.address_of-at.result c.requires.live c.requires.here (subst (λ p. NamedAt c.args.self.now p c.address_of-at.result) c.number.ensures c.address_of-at.ensures)

-- how it ends
ends : (c : goal.After-set_free) → Kept c.set_free.new.self (unfixed c.args.pointer c.args.self.now)
ends c = unfix-ends _ _ (stands-now c.self.invariant c.self.view_is) c.args.pointer c.address_of-at.result c.requires.live c.requires.here (subst (λ p. NamedAt c.args.self.now p c.address_of-at.result) c.number.ensures c.address_of-at.ensures)
    c.set_free.new.self c.set_free.ensures

pub invariant_of-self : goal.invariant_of-self
invariant_of-self c = (ends c).inside

pub returns : goal.returns
returns c = (ends c).same

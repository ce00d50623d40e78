use Rattle.linked_zone.specs.Changes.{given_back}
use Rattle.linked_zone.proofs.Standing.{Kept, stands-now}
use Rattle.linked_zone.proofs.ChangeGivenBack.{given_back-slot}
use Rattle.linked_zone.proofs.EndsSlots.{own-slot, front-said, release-ends}
use Rattle.linked_zone.proofs.zone.LinkedZone.release.Goals as goal

pub set_slot-requires-clause-there : goal.set_slot-requires-clause-there
set_slot-requires-clause-there c =
    let held = stands-now c.self.invariant c.self.view_is in
    own-slot _ _ held c.args.handle c.number-slot.result c.number-slot.ensures (given_back-slot c.args.self.now c.args.handle held.fits c.requires)

pub set_slot-requires-clause-sayable : goal.set_slot-requires-clause-sayable
set_slot-requires-clause-sayable c = front-said _ _ (stands-now c.self.invariant c.self.view_is) c.front-next.result c.front-next.ensures

-- how it ends
ends : (c : goal.After-set_front) → Kept c.set_front.new.self (given_back c.args.handle c.args.self.now)
ends c = release-ends _ _ (stands-now c.self.invariant c.self.view_is) c.args.handle c.number-slot.result c.number-slot.result c.front-next.result
    c.set_slot.new.self c.set_front.new.self c.requires c.number-slot.ensures c.number-slot.ensures c.front-next.ensures c.set_slot.ensures c.set_front.ensures

pub invariant_of-self : goal.invariant_of-self
invariant_of-self c = (ends c).inside

pub returns : goal.returns
returns c = (ends c).same

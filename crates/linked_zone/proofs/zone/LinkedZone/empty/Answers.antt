use Rattle.linked_zone.specs.Changes.{without_block}
use Rattle.linked_zone.proofs.Standing.{Kept, stands-now}
use Rattle.linked_zone.proofs.EndsGiven.{empty-can, empty-slot, empty-ends}
use Rattle.linked_zone.proofs.zone.LinkedZone.empty.Goals as goal

pub set_free-requires : goal.set_free-requires
set_free-requires c = empty-can _ _ (stands-now c.self.invariant c.self.view_is) c.args.handle c.block_of-at.result c.requires.full c.requires.here c.block_of-at.ensures

pub set_slot-requires-clause-there : goal.set_slot-requires-clause-there
set_slot-requires-clause-there c = empty-slot _ _ (stands-now c.self.invariant c.self.view_is) c.args.handle c.block_of-at.result c.requires.full c.requires.here c.block_of-at.ensures c.set_free.new.self c.set_free.ensures c.number.result c.number.ensures

-- how it ends
ends : (c : goal.After-set_slot) → Kept c.set_slot.new.self (without_block c.args.handle c.args.self.now)
ends c = empty-ends _ _ (stands-now c.self.invariant c.self.view_is) c.args.handle c.block_of-at.result c.requires.full c.requires.here c.block_of-at.ensures c.set_free.new.self c.set_free.ensures c.number.result c.number.ensures
    c.set_slot.new.self c.set_slot.ensures

pub invariant_of-self : goal.invariant_of-self
invariant_of-self c = (ends c).inside

pub returns : goal.returns
returns c = (ends c).same

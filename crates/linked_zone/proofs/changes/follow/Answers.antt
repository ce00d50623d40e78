use Rattle.linked_zone.proofs.EndsFollow.{follow-kept, follow-said, follow-written}
use Rattle.linked_zone.proofs.changes.follow.Goals as goal

pub returns-in_default-slot : goal.returns-in_default-slot
returns-in_default-slot c can = follow-kept c.args.records.now c.args.kind c.in-Rel.handle c.number.result c.args.contents c.in-Rel.is c.number.ensures c.slot.result c.slot.ensures c.in_default-slot.not-Full can

pub set_slot-requires-clause-sayable : goal.set_slot-requires-clause-sayable
set_slot-requires-clause-sayable c = follow-said c.args.records.now c.args.kind c.in-Rel.handle c.number.result c.args.contents c.in-Rel.is c.number.ensures c.in-Full.flags c.in-Full.field-1 c.in-Full.ensures c.requires

pub returns : goal.returns
returns c can = follow-written c.args.records.now c.args.kind c.in-Rel.handle c.number.result c.args.contents c.in-Rel.is c.number.ensures c.in-Full.flags c.in-Full.field-1 c.in-Full.ensures can c.number-2.result c.set_slot.new.self c.number-2.ensures c.set_slot.ensures

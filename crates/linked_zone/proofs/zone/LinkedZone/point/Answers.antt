use Rattle.std.proofs.Common.{◌+◌, ap, arith}
use Rattle.linked_zone.specs.Changes.{pointed}
use Rattle.linked_zone.specs.Places.{RoomFor}
use Rattle.linked_zone.proofs.Standing.{Kept, stands-now}
use Rattle.linked_zone.proofs.EndsSwapped.{room-can, head-is, room-begins}
use Rattle.linked_zone.proofs.EndsGiven.{point-above, point-slot, point-said, point-ends}
use Rattle.linked_zone.proofs.zone.LinkedZone.point.Goals as goal

pub overflow_add-contents : goal.overflow_add-contents
overflow_add-contents c = let below = room-begins _ _ (stands-now c.self.invariant c.self.view_is) c.args.at c.args.length c.requires.room c.spec.result c.heads.result c.head_size.result c.spec.ensures c.heads.ensures c.head_size.ensures in omega arith

pub place_handle-requires-clause-room : goal.place_handle-requires-clause-room
place_handle-requires-clause-room c = room-can _ _ (stands-now c.self.invariant c.self.view_is) c.args.at c.args.length c.requires.room

pub place_handle-requires-clause-above : goal.place_handle-requires-clause-above
place_handle-requires-clause-above c = point-above _ _ (stands-now c.self.invariant c.self.view_is) c.args.handle c.args.length c.args.at c.requires.empty c.requires.room

pub set_slot-requires-clause-there : goal.set_slot-requires-clause-there
set_slot-requires-clause-there c = point-slot _ _ (stands-now c.self.invariant c.self.view_is) c.args.handle c.args.length c.args.at c.requires.empty c.requires.room c.place_handle.new.self c.place_handle.ensures c.number.result c.number.ensures

pub set_slot-requires-clause-sayable : goal.set_slot-requires-clause-sayable
set_slot-requires-clause-sayable c = point-said _ _ (stands-now c.self.invariant c.self.view_is) c.args.handle c.args.length c.args.at c.requires.empty c.requires.room c.place_handle.new.self c.place_handle.ensures _
    (ap (λ n. c.args.at + n) (head-is _ _ (stands-now c.self.invariant c.self.view_is) c.spec.result c.heads.result c.head_size.result c.spec.ensures c.heads.ensures c.head_size.ensures))

-- how it ends
ends : (c : goal.After-set_slot) → (room : RoomFor c.args.self.now c.args.at c.args.length) → Kept c.set_slot.new.self (pointed c.args.handle c.args.length c.args.self.now room.free)
ends c room = point-ends _ _ (stands-now c.self.invariant c.self.view_is) c.args.handle c.args.length c.args.at c.requires.empty room c.place_handle.new.self c.place_handle.ensures c.number.result c.number.ensures
    c.set_slot.new.self _ (ap (λ n. c.args.at + n) (head-is _ _ (stands-now c.self.invariant c.self.view_is) c.spec.result c.heads.result c.head_size.result c.spec.ensures c.heads.ensures c.head_size.ensures)) c.set_slot.ensures

pub invariant_of-self : goal.invariant_of-self
invariant_of-self c = (ends c c.requires.room).inside

pub returns : goal.returns
returns c room = (ends c room).same

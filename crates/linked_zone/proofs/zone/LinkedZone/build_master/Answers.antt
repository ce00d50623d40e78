use Rattle.std.proofs.Common.{◌+◌, ◌∙◌, ap, arith}
use Rattle.mac_base.specs.HeadKind.{master_length}
use Rattle.zone_records.specs.Records.{ZoneRecords}
use Rattle.linked_zone.specs.Changes.{with_master}
use Rattle.linked_zone.specs.Places.{RoomFor}
use Rattle.linked_zone.proofs.Standing.{Kept, stands-now}
use Rattle.linked_zone.proofs.EndsSlots.{front-said}
use Rattle.linked_zone.proofs.EndsSwapped.{room-can, head-is, room-begins}
use Rattle.linked_zone.proofs.EndsMaster.{master-ends}
use Rattle.linked_zone.proofs.zone.LinkedZone.build_master.Goals as goal

pub overflow_add-first : goal.overflow_add-first
overflow_add-first c = let below = room-begins _ _ (stands-now c.self.invariant c.self.view_is) c.args.at master_length c.requires c.spec.result c.heads.result c.head_size.result c.spec.ensures c.heads.ensures c.head_size.ensures in omega arith

pub place_master-requires-clause-room : goal.place_master-requires-clause-room
place_master-requires-clause-room c = room-can _ _ (stands-now c.self.invariant c.self.view_is) c.args.at master_length c.requires

pub place_master-requires-clause-sayable : goal.place_master-requires-clause-sayable
place_master-requires-clause-sayable c = front-said _ _ (stands-now c.self.invariant c.self.view_is) c.front-last.result c.front-last.ensures

-- how it ends
ends : (c : goal.After-set_front) → (room : RoomFor c.args.self.now c.args.at master_length) → Kept c.set_front.new.self (with_master c.args.self.now room.free)
ends c room =
    let held = stands-now c.self.invariant c.self.view_is in
    master-ends _ _ held c.args.at c.front-last.result room (c.front-last.ensures ∙ ap (λ (r : ZoneRecords). r.front) held.blocks) _ c.place_master.new.self c.set_front.new.self
    (ap (λ n. c.args.at + n) (head-is _ _ held c.spec.result c.heads.result c.head_size.result c.spec.ensures c.heads.ensures c.head_size.ensures)) c.place_master.ensures c.set_front.ensures

pub invariant_of-self : goal.invariant_of-self
invariant_of-self c = (ends c c.requires).inside

pub returns : goal.returns
returns c room = (ends c room).same

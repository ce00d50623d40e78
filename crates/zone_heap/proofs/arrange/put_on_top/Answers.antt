use Rattle.zone_heap.proofs.Raising.{parcel_packed, loose_carried, parcel_carried, loose_sunk, topped_some, topped_none}
use Rattle.zone_heap.proofs.arrange.put_on_top.Goals as goal

pub carry_up-high-requires : goal.carry_up-high-requires
carry_up-high-requires c = record { parcel = parcel_packed c.args.zone.now c.args.at c.args.free c.args.end c.requires.sizes c.requires.packed; loose = loose_carried c.args.zone.now c.args.at c.args.free c.args.end c.requires.sizes c.requires.packed; sizes = c.requires.sizes }

pub sink-requires : goal.sink-requires
sink-requires c = record {
  parcel = parcel_carried c.args.zone.now c.args.at c.args.free c.args.end c.requires.sizes c.requires.packed c.carry_up-high.new.zone c.carry_up-high.result c.carry_up-high.ensures.zone c.carry_up-high.ensures.address c.if-free-end.true;
  loose = loose_sunk c.args.zone.now c.args.at c.args.free c.args.end c.requires.sizes c.requires.packed c.carry_up-high.new.zone c.carry_up-high.result c.carry_up-high.ensures.zone c.carry_up-high.ensures.address c.if-free-end.true;
}

pub returns-then-free-end : goal.returns-then-free-end
returns-then-free-end c packed = topped_some c.args.zone.now c.args.at c.args.free c.args.end c.requires.sizes packed c.carry_up-high.new.zone c.carry_up-high.result c.carry_up-high.ensures.zone c.carry_up-high.ensures.address c.if-free-end.true c.sink.new.self c.sink.ensures

pub returns-else-free-end : goal.returns-else-free-end
returns-else-free-end c packed = topped_none c.args.zone.now c.args.at c.args.free c.args.end c.requires.sizes packed c.carry_up-high.new.zone c.carry_up-high.result c.carry_up-high.ensures.zone c.carry_up-high.ensures.address c.if-free-end.false

use Rattle.linked_zone.proofs.Standing.{stands-now}
use Rattle.linked_zone.proofs.EndsSized.{hold-block, hold-can, hold-ends}
use Rattle.linked_zone.proofs.zone.LinkedZone.hold.Goals as goal

pub address_of-at-requires : goal.address_of-at-requires
address_of-at-requires c = hold-block _ _ (stands-now c.self.invariant c.self.view_is) c.args.block c.args.size c.args.length c.requires.here c.requires.room

pub hold-requires : goal.hold-requires
hold-requires c = hold-can _ _ (stands-now c.self.invariant c.self.view_is) c.args.block c.args.size c.args.length c.requires.here c.requires.room c.address_of-at.result c.address_of-at.ensures

pub invariant_of-self : goal.invariant_of-self
invariant_of-self c = (hold-ends _ _ (stands-now c.self.invariant c.self.view_is) c.args.block c.args.size c.args.length c.requires.here c.requires.room c.address_of-at.result c.address_of-at.ensures c.hold.new.self c.hold.ensures).inside

pub returns : goal.returns
returns c can = (hold-ends _ _ (stands-now c.self.invariant c.self.view_is) c.args.block c.args.size c.args.length c.requires.here can c.address_of-at.result c.address_of-at.ensures c.hold.new.self c.hold.ensures).same

use Rattle.linked_zone.proofs.Standing.{stands-now}
use Rattle.linked_zone.proofs.EndsSized.{grow-block, grow-can, grow-ends}
use Rattle.linked_zone.proofs.zone.LinkedZone.grow.Goals as goal

pub address_of-at-requires : goal.address_of-at-requires
address_of-at-requires c = grow-block _ _ (stands-now c.self.invariant c.self.view_is) c.args.block c.args.size c.args.length c.requires.here c.requires.room

pub grow-requires : goal.grow-requires
grow-requires c = grow-can _ _ (stands-now c.self.invariant c.self.view_is) c.args.block c.args.size c.args.length c.requires.here c.requires.room c.address_of-at.result c.address_of-at.ensures

pub invariant_of-self : goal.invariant_of-self
invariant_of-self c = (grow-ends _ _ (stands-now c.self.invariant c.self.view_is) c.args.block c.args.size c.args.length c.requires.here c.requires.room c.address_of-at.result c.address_of-at.ensures c.grow.new.self c.grow.ensures).inside

pub returns : goal.returns
returns c can = (grow-ends _ _ (stands-now c.self.invariant c.self.view_is) c.args.block c.args.size c.args.length c.requires.here can c.address_of-at.result c.address_of-at.ensures c.grow.new.self c.grow.ensures).same

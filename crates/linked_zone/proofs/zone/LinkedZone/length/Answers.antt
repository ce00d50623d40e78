use Rattle.linked_zone.proofs.Standing.{stands-now}
use Rattle.linked_zone.proofs.EndsLoans.{named-there, named-length_read}
use Rattle.linked_zone.proofs.zone.LinkedZone.length.Goals as goal

pub length_at-requires : goal.length_at-requires
length_at-requires c = named-there _ _ (stands-now c.self.invariant c.self.view_is) c.args.block c.address_of.result c.address_of.ensures

pub returns : goal.returns
returns c = named-length_read _ _ (stands-now c.self.invariant c.self.view_is) c.args.block c.address_of.result c.address_of.ensures c.length_at.result c.length_at.ensures

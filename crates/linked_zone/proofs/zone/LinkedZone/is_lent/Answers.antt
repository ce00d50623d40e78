use Rattle.linked_zone.proofs.Standing.{stands-now}
use Rattle.linked_zone.proofs.EndsLoans.{named-there, named-lent_read}
use Rattle.linked_zone.proofs.zone.LinkedZone.is_lent.Goals as goal

pub is_lent-requires : goal.is_lent-requires
is_lent-requires c = named-there _ _ (stands-now c.self.invariant c.self.view_is) c.args.block c.address_of.result c.address_of.ensures

pub returns : goal.returns
returns c = named-lent_read _ _ (stands-now c.self.invariant c.self.view_is) c.args.block c.address_of.result c.address_of.ensures c.is_lent.result c.is_lent.ensures

use Rattle.mac_base.specs.Loans.{returned}
use Rattle.mac_base.specs.ZoneState.{with_heap}
use Rattle.linked_zone.proofs.Standing.{Kept, stands-now}
use Rattle.linked_zone.proofs.EndsLoans.{lent-block, give_back-can, give_back-ends}
use Rattle.linked_zone.proofs.zone.LinkedZone.give_back.Goals as goal

pub address_of-at-requires : goal.address_of-at-requires
address_of-at-requires c = lent-block c.args.self.now (stands-now c.self.invariant c.self.view_is).fits c.args.block c.requires.lent

pub give_back-requires : goal.give_back-requires
give_back-requires c = give_back-can _ _ (stands-now c.self.invariant c.self.view_is) c.args.block c.address_of-at.result c.address_of-at.ensures c.args.loan c.requires

-- how it ends
ends : (c : goal.After-give_back) → Kept c.give_back.new.self (with_heap (returned c.args.block c.args.loan.bytes c.args.self.now.heap) c.args.self.now)
ends c = give_back-ends _ _ (stands-now c.self.invariant c.self.view_is) c.args.block c.address_of-at.result c.address_of-at.ensures c.args.loan c.requires c.give_back.new.self c.give_back.ensures

pub invariant_of-self : goal.invariant_of-self
invariant_of-self c = (ends c).inside

pub returns : goal.returns
returns c = (ends c).same

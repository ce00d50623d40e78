use Rattle.linked_zone.proofs.Standing.{stands-now}
use Rattle.linked_zone.proofs.EndsCut.{merge-can, merge-ends}
use Rattle.linked_zone.proofs.zone.LinkedZone.merge.Goals as goal

pub merge-requires : goal.merge-requires
merge-requires c = merge-can _ _ (stands-now c.self.invariant c.self.view_is) c.args.at c.requires

pub invariant_of-self : goal.invariant_of-self
invariant_of-self c = (merge-ends _ _ (stands-now c.self.invariant c.self.view_is) c.args.at c.requires c.merge.new.self c.merge.ensures).inside

pub returns : goal.returns
returns c pair = (merge-ends _ _ (stands-now c.self.invariant c.self.view_is) c.args.at pair c.merge.new.self c.merge.ensures).same

use Rattle.linked_zone.proofs.Standing.{stands-now}
use Rattle.linked_zone.proofs.EndsCut.{split-can, split-ends}
use Rattle.linked_zone.proofs.zone.LinkedZone.split.Goals as goal

pub split-requires : goal.split-requires
split-requires c = split-can _ _ (stands-now c.self.invariant c.self.view_is) c.args.at c.args.size c.requires

pub invariant_of-self : goal.invariant_of-self
invariant_of-self c = (split-ends _ _ (stands-now c.self.invariant c.self.view_is) c.args.at c.args.size c.requires c.split.new.self c.split.ensures).inside

pub returns : goal.returns
returns c can = (split-ends _ _ (stands-now c.self.invariant c.self.view_is) c.args.at c.args.size can c.split.new.self c.split.ensures).same

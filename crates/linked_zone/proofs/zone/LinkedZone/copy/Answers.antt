use Rattle.linked_zone.specs.Copying.{copied}
use Rattle.linked_zone.proofs.Standing.{Kept, stands-now}
use Rattle.linked_zone.proofs.EndsCopied.{copy-can, copy-ends}
use Rattle.linked_zone.proofs.zone.LinkedZone.copy.Goals as goal

pub copy-requires : goal.copy-requires
copy-requires c = copy-can _ _ (stands-now c.self.invariant c.self.view_is) c.args.from c.args.start c.args.to c.args.offset c.args.count c.address_of-source.result c.address_of-target.result c.requires c.address_of-source.ensures c.address_of-target.ensures

-- how it ends
ends : (c : goal.After-copy) → Kept c.copy.new.self (copied c.args.from c.args.start c.args.to c.args.offset c.args.count c.args.self.now)
ends c = copy-ends _ _ (stands-now c.self.invariant c.self.view_is) c.args.from c.args.start c.args.to c.args.offset c.args.count c.address_of-source.result c.address_of-target.result c.requires c.address_of-source.ensures c.address_of-target.ensures c.copy.new.self c.copy.ensures

pub invariant_of-self : goal.invariant_of-self
invariant_of-self c = (ends c).inside

pub returns : goal.returns
returns c = (ends c).same

use Rattle.zone_records.proofs.Held.{held-now, fields}
use Rattle.zone_records.proofs.Copied.{copy_can, copy-ends}
use Rattle.zone_records.proofs.records.Records.copy.Goals as goal

pub copy-requires : goal.copy-requires
copy-requires c = copy_can _ _ (held-now c.self.invariant c.self.view_is) c.args.from c.args.start c.args.to c.args.offset c.args.count c.requires

pub invariant_of-self : goal.invariant_of-self
invariant_of-self c =
    fields _ _ (copy-ends _ _ (held-now c.self.invariant c.self.view_is) c.args.from c.args.start c.args.to c.args.offset c.args.count c.requires c.copy.new.self c.copy.ensures)

pub returns : goal.returns
returns c can =
    (copy-ends _ _ (held-now c.self.invariant c.self.view_is) c.args.from c.args.start c.args.to c.args.offset c.args.count can c.copy.new.self c.copy.ensures).shows

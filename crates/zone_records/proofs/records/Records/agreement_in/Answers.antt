use Rattle.zone_records.proofs.Held.{held-now}
use Rattle.zone_records.proofs.Touched.{agrees-in, whole}
use Rattle.zone_records.proofs.records.Records.agreement_in.Goals as goal

pub compare_ranges-requires-clause-whole : goal.compare_ranges-requires-clause-whole
compare_ranges-requires-clause-whole c = whole c.self.inside.blocks c.args.self.now (held-now c.self.invariant c.self.view_is) c.args.bytes.now c.args.written.now c.requires.told

pub returns : goal.returns
returns c = agrees-in c.self.inside.blocks c.args.self.now (held-now c.self.invariant c.self.view_is) c.args.bytes.now c.args.written.now c.requires.told c.compare_ranges.result c.compare_ranges.ensures

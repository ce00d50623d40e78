use Rattle.zone_records.proofs.Held.{held-now, fields}
use Rattle.zone_records.proofs.Carrying.{raw-parcel_up, sink-ends}
use Rattle.zone_records.proofs.records.Records.sink.Goals as goal

pub sink-requires : goal.sink-requires
sink-requires c = raw-parcel_up _ _ (held-now c.self.invariant c.self.view_is) c.args.start c.args.at c.requires

pub invariant_of-self : goal.invariant_of-self
invariant_of-self c = let held = held-now c.self.invariant c.self.view_is in fields _ _ (sink-ends _ _ held c.args.start c.args.at c.requires c.sink.new.self (c.sink.ensures (raw-parcel_up _ _ held c.args.start c.args.at c.requires)))

pub returns : goal.returns
returns c parcel = let held = held-now c.self.invariant c.self.view_is in (sink-ends _ _ held c.args.start c.args.at parcel c.sink.new.self (c.sink.ensures (raw-parcel_up _ _ held c.args.start c.args.at parcel))).shows

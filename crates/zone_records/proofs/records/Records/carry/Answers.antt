use Rattle.zone_records.proofs.Held.{held-now, fields}
use Rattle.zone_records.proofs.Carrying.{raw-parcel, carry-ends}
use Rattle.zone_records.proofs.records.Records.carry.Goals as goal

pub carry-requires : goal.carry-requires
carry-requires c = raw-parcel _ _ (held-now c.self.invariant c.self.view_is) c.args.at c.args.end c.requires

pub invariant_of-self : goal.invariant_of-self
invariant_of-self c = let held = held-now c.self.invariant c.self.view_is in fields _ _ (carry-ends _ _ held c.args.at c.args.end c.requires c.carry.new.self (c.carry.ensures (raw-parcel _ _ held c.args.at c.args.end c.requires)))

pub returns : goal.returns
returns c parcel = let held = held-now c.self.invariant c.self.view_is in (carry-ends _ _ held c.args.at c.args.end parcel c.carry.new.self (c.carry.ensures (raw-parcel _ _ held c.args.at c.args.end parcel))).shows

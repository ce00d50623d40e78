use Rattle.std.proofs.Common.{IfNone, IfSome, sym, subst}
use Rattle.zone_records.specs.Records.{ZoneRecords}
use Rattle.zone_records.specs.Structure.{FirstChanged, HasStructure, NoneChanged}
use Rattle.zone_records.proofs.records.Records.changed_slot.Goals as goal

pub first_changed-requires : goal.first_changed-requires
first_changed-requires c = record { sound = c.self.invariant.sound; same = subst (λ z. HasStructure z c.args.bytes.now) (sym c.self.view_is) c.requires }

pub returns : goal.returns
returns c = record {
  first = subst (λ (z : ZoneRecords). IfSome c.first_changed.result (λ found. FirstChanged z c.args.bytes.now c.args.from found.0 found.1)) c.self.view_is c.first_changed.ensures.first;
  none = subst (λ (z : ZoneRecords). IfNone c.first_changed.result (NoneChanged z c.args.bytes.now c.args.from)) c.self.view_is c.first_changed.ensures.none;
}

use Rattle.std.proofs.Common.{◌∙◌, ap, not, sym, subst}
use Rattle.std.specs.List.{list_all}
use Rattle.std.specs.Prelude.{IfNone, IfSome}
use Rattle.zone_records.specs.Faults.{IsFirstFault}
use Rattle.zone_records.specs.Records.{ZoneRecords}
use Rattle.zone_records.specs.Structure.{HasStructure}
use Rattle.zone_records.proofs.Freeing.{none-lent}
use Rattle.zone_records.proofs.MasterBlocks.{image-long}
use Rattle.zone_records.proofs.records.Records.first_fault.Goals as goal

pub first_fault-requires : goal.first_fault-requires
first_fault-requires c =
    let l = c.self.inside.blocks in
    record {
      sound = c.self.invariant.sound;
      nothing_lent = none-lent l.heads l.base l.blocks (ap (λ (z : ZoneRecords). list_all (λ b. not b.lent) z.blocks) c.self.view_is ∙ c.requires.nothing_lent);
      whole = c.requires.whole ∙ sym (image-long l ∙ ap (λ (z : ZoneRecords). z.shape.limit) c.self.view_is);
    }

pub returns : goal.returns
returns c = record {
  fault = subst (λ (z : ZoneRecords). IfSome c.first_fault.result (λ found. IsFirstFault z c.args.bytes.now found.0 found.1)) c.self.view_is c.first_fault.ensures.fault;
  none = subst (λ (z : ZoneRecords). IfNone c.first_fault.result (HasStructure z c.args.bytes.now)) c.self.view_is c.first_fault.ensures.none;
}

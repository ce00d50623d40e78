use Rattle.std.proofs.Common.{◌∙◌, ap, sym, subst}
use Rattle.std.proofs.lemmas.Option.{IfSome_then}
use Rattle.zone_records.specs.Records.{ZoneRecords}
use Rattle.zone_records.specs.Structure as records
use Rattle.linked_zone.proofs.EndsAsleep.{falls-from, inside-asleep, stays-from}
use Rattle.linked_zone.proofs.EndsStructure.{in-from}
use Rattle.linked_zone.proofs.Standing.{Stands, stands-now}
use Rattle.linked_zone.proofs.Unlent.{nothing-lent}
use Rattle.linked_zone.proofs.zone.LinkedZone.sleep.Goals as goal

pub sleep-requires : goal.sleep-requires
sleep-requires c = record { nothing_lent = nothing-lent _ _ (stands-now c.self.invariant c.self.view_is) c.requires.nothing_lent }

pub invariant_of-self : goal.invariant_of-self
invariant_of-self c = inside-asleep _ _ (stands-now c.self.invariant c.self.view_is) c.sleep.new.self c.sleep.result c.sleep.ensures.asleep c.sleep.ensures.none

pub returns : goal.returns
returns c =
    let r = c.self.inside.records in
    let z = c.args.self.now in
    let held : Stands r z = stands-now c.self.invariant c.self.view_is in
    record {
      asleep = IfSome_then c.sleep.result c.sleep.ensures.asleep (λ region falls. falls-from r z held c.sleep.new.self falls);
      name = IfSome_then c.sleep.result c.sleep.ensures.name (λ region is. is ∙ ap (λ (r : ZoneRecords). r.memory.region) held.blocks);
      bytes = IfSome_then c.sleep.result c.sleep.ensures.bytes (λ region is. in-from z region.bytes (subst (λ (r : ZoneRecords). records.IsIn r region.bytes) held.blocks is));
      lent = c.sleep.ensures.lent;
      none = stays-from r z held c.sleep.new.self c.sleep.result c.sleep.ensures.none;
    }

use Rattle.std.proofs.Common.{◌∙◌, ap, not, sym, subst}
use Rattle.std.specs.List.{list_all}
use Rattle.std.proofs.lemmas.Option.{IfSome_then}
use Rattle.zone_records.specs.Records.{ZoneRecords}
use Rattle.zone_records.specs.Structure.{IsIn}
use Rattle.zone_records.proofs.Freeing.{none-lent}
use Rattle.zone_records.proofs.Held.{held-now}
use Rattle.zone_records.proofs.Sleeping.{falls-asleep, sound-asleep, stays-as}
use Rattle.zone_records.proofs.Structures.{in-image}
use Rattle.zone_records.proofs.records.Records.sleep.Goals as goal

pub sleep-requires : goal.sleep-requires
sleep-requires c = let l = c.self.inside.blocks in
    record { nothing_lent = none-lent l.heads l.base l.blocks (ap (λ (z : ZoneRecords). list_all (λ b. not b.lent) z.blocks) c.self.view_is ∙ c.requires.nothing_lent) }

pub invariant_of-self : goal.invariant_of-self
invariant_of-self c = record { sound = sound-asleep c.sleep.result c.self.inside.blocks c.sleep.new.self c.args.self.now (held-now c.self.invariant c.self.view_is) c.sleep.ensures.asleep c.sleep.ensures.none }

pub returns : goal.returns
returns c =
    let l = c.self.inside.blocks in
    let z = c.args.self.now in
    let held = held-now c.self.invariant c.self.view_is in
    record {
      asleep = IfSome_then c.sleep.result c.sleep.ensures.asleep (λ region falls. falls-asleep l c.sleep.new.self z held falls);
      name = IfSome_then c.sleep.result c.sleep.ensures.name (λ region is. is ∙ ap (λ (z : ZoneRecords). z.memory.region) held.shows);
      bytes = IfSome_then c.sleep.result c.sleep.ensures.bytes (λ region is. subst (IsIn z) (sym is) (in-image l z held));
      lent = c.sleep.ensures.lent;
      none = stays-as c.sleep.result l c.sleep.new.self z held c.sleep.ensures.none;
    }

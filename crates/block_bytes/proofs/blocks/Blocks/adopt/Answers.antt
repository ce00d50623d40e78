use Rattle.std.proofs.Common.{None, List, ℕ, sym, ap, subst, ◌∙◌}
use Rattle.mac_base.specs.ZoneState.{own_memory}
use Rattle.raw_region.specs.State.{State}
use Rattle.block_bytes.specs.Adopting.{IsZoneIn, ZoneRead, zone_with}
use Rattle.block_bytes.specs.Reading.{layout_of}
use Rattle.block_bytes.proofs.AdoptedZone.{adopted}
use Rattle.block_bytes.proofs.Parts.{IsRead}
use Rattle.block_bytes.proofs.blocks.Blocks.adopt.Goals as goal

-- the zone that was read
zone : (c : goal.Then-is_zone) → ZoneRead c.args.spec c.of-memory.result c.is_zone.new.index
zone c = c.is_zone.ensures.yes c.if-is_zone.true

-- the fields stand for it
made : (c : goal.Then-is_zone) → IsRead (record { spec = c.args.spec; memory = c.of-memory.result; index = c.is_zone.new.index; loans = 0; kept = None }) (zone_with c.args.spec c.of-memory.result (zone c).blocks)
made c = adopted c.args.spec c.limit-limit.ensures.possible c.of-memory.result (ap (λ (m : State). m.lent) c.of-memory.ensures ∙ c.requires.whole) c.is_zone.new.index (zone c)

pub invariant_of-result : goal.invariant_of-result
invariant_of-result c = record { layout = (made c).whole; kept = tt }

pub returns-then-is_zone-clause-zone : goal.returns-then-is_zone-clause-zone
returns-then-is_zone-clause-zone c = (
  subst (λ (xs : List ℕ). IsZoneIn c.args.spec xs (layout_of (record { spec = c.args.spec; memory = c.of-memory.result; index = c.is_zone.new.index; loans = 0; kept = None }))) (ap (λ (m : State). m.bytes) c.of-memory.ensures) (subst (IsZoneIn c.args.spec c.of-memory.result.bytes) (sym (made c).view) (zone c).zone),
  ap (λ (m : State). own_memory m.name) c.of-memory.ensures,
)

pub returns-clause-none : goal.returns-clause-none
returns-clause-none c = λ why l zone. c.is_zone.ensures.no c.if-is_zone.false l
    (subst (λ (xs : List ℕ). IsZoneIn c.args.spec xs l) (sym (ap (λ (m : State). m.bytes) c.of-memory.ensures)) zone)

-- How the call ends that puts a zone to sleep.
use Rattle.std.proofs.Common.{◌≡◌, ℕ, List, false, Option, None, Some, IfNone, IfSome, ap, sym, ◌∙◌, subst}
use Rattle.mac_base.specs.ZoneState.{ZoneState}
use Rattle.zone_records.specs.Records.{ZoneRecords}
use Rattle.zone_records.specs.Sleeping as records
use Rattle.zone_records.specs.Written as written
use Rattle.zone_records.specs.declared.structure.Written.{Written}
use Rattle.linked_zone.specs.Reading.{StandsAsRead, state_in}
use Rattle.linked_zone.specs.Sleeping.{FallsAsleep}
use Rattle.linked_zone.specs.Structure.{shown}
use Rattle.linked_zone.specs.Written.{DifferIn}
use Rattle.linked_zone.proofs.EndsStructure.{exchanged, has-from, has-to, same-from, same-to}
use Rattle.linked_zone.proofs.Standing.{Stands, Kept, kept}

module _ (r : ZoneRecords) (z : ZoneState) (held : Stands r z) where
  -- bytes that were written are those of its blocks
  pub differ-to : (bytes : List ℕ) (ranges : List Written) → DifferIn z bytes ranges → written.DifferIn r bytes ranges
  differ-to bytes ranges d = record {
    before = d.before;
    structure = has-to r z held d.before d.structure;
    flags = same-to r z held d.before d.flags;
    long = d.long;
    same = d.same;
  }

  module _ (n : ZoneRecords) where
    asleep-kept : (falls : records.FallsAsleep r n) → Kept n (record (shown z falls.bytes) { memory = n.memory })
    asleep-kept falls = exchanged r z held falls.bytes n n.memory falls.zone

    pub falls-from : records.FallsAsleep r n → FallsAsleep z (state_in n)
    falls-from falls = record {
      kept = ap (λ (r : ZoneRecords). r.memory.kept) (sym held.blocks) ∙ falls.kept;
      bytes = falls.bytes;
      structure = has-from r z held falls.bytes falls.structure;
      flags = same-from r z held falls.bytes falls.flags;
      zone = (asleep-kept falls).same;
      own = falls.own;
    }

    -- whether it fell asleep or not, its blocks are those of a zone
    pub inside-asleep : {R : Type 0} (result : Option R) → IfSome result (λ region. records.FallsAsleep r n) → IfNone result ((r.memory.kept ≡ None) × (n ≡ r)) → StandsAsRead (record { records = n })
    inside-asleep None falls stays = subst (λ (r : ZoneRecords). StandsAsRead (record { records = r })) (sym stays.1) (kept r z held).inside
    inside-asleep (Some region) falls stays = (asleep-kept falls).inside

    -- a zone that didn't fall asleep is as it was
    pub stays-from : {R : Type 0} (result : Option R) → IfNone result ((r.memory.kept ≡ None) × (n ≡ r)) → IfNone result ((z.memory.kept ≡ None) × (state_in n ≡ z))
    stays-from None stays = (ap (λ (r : ZoneRecords). r.memory.kept) (sym held.blocks) ∙ stays.0, ap state_in stays.1 ∙ (kept r z held).same)
    stays-from (Some region) stays = tt

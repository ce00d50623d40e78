-- A zone of blocks that falls asleep.
use Rattle.std.proofs.Common.{◌≡◌, Option, None, Some, IfNone, IfSome, ap, sym, ◌∙◌, subst}
use Rattle.mac_base.specs.HeadKind.{slot_count, zone_header}
use Rattle.block_bytes.specs.Layout.{Layout}
use Rattle.block_bytes.specs.Sleeping as raw
use Rattle.block_bytes.specs.Structure.{EachMaster, shown as shown_bytes}
use Rattle.block_bytes.proofs.Structures.{structure-head, structure-headers}
use Rattle.zone_records.specs.Masters.{SlotsAgree}
use Rattle.zone_records.specs.Reading.{AreSound, records_in}
use Rattle.zone_records.specs.Records.{ZoneRecords}
use Rattle.zone_records.specs.Sleeping.{FallsAsleep}
use Rattle.zone_records.specs.Structure.{shown}
use Rattle.zone_records.proofs.Held.{Held}
use Rattle.zone_records.proofs.Structures.{elsewhere, flags-from, held-shown, structure-made}
use Rattle.zone_records.proofs.Writing.{written-agree, written-same}

module _ (l n : Layout) (z : ZoneRecords) (held : Held l z) (falls : raw.FallsAsleep l n) where
  -- its bytes agree with the master blocks
  agree : EachMaster (SlotsAgree l.heads falls.bytes slot_count) l.heads zone_header l.blocks
  agree = written-agree l held.sound falls.bytes falls.masters

  -- its blocks are those of the zone that sleeps
  asleep-held : Held n (record (shown z falls.bytes) { memory = n.memory })
  asleep-held = subst (λ m. Held m (record (shown z falls.bytes) { memory = n.memory })) (sym falls.zone)
      (elsewhere (shown_bytes l falls.bytes) (shown z falls.bytes) n.memory (held-shown l falls.bytes z held falls.structure.all agree))

  pub falls-asleep : FallsAsleep z (records_in n)
  falls-asleep = record {
    kept = ap (λ (z : ZoneRecords). z.memory.kept) (sym held.shows) ∙ falls.kept;
    bytes = falls.bytes;
    structure = structure-made l falls.bytes z held (structure-head l falls.bytes falls.structure) (record { headers = structure-headers l falls.bytes falls.structure; masters = agree });
    flags = flags-from l falls.bytes z held (written-same l held.sound falls.bytes falls.masters);
    zone = asleep-held.shows;
    own = falls.own;
  }

-- whether it fell asleep or not, its blocks are sound
pub sound-asleep : {R : Type 0} (result : Option R) (l n : Layout) (z : ZoneRecords) → Held l z → IfSome result (λ r. raw.FallsAsleep l n) → IfNone result ((l.memory.kept ≡ None) × (n ≡ l)) → AreSound n
sound-asleep None l n z held falls stays = subst AreSound (sym stays.1) held.sound
sound-asleep (Some r) l n z held falls stays = (asleep-held l n z held falls).sound

-- a zone that didn't fall asleep is as it was
pub stays-as : {R : Type 0} (result : Option R) (l n : Layout) (z : ZoneRecords) → Held l z → IfNone result ((l.memory.kept ≡ None) × (n ≡ l)) → IfNone result ((z.memory.kept ≡ None) × (records_in n ≡ z))
stays-as None l n z held stays = (ap (λ (z : ZoneRecords). z.memory.kept) (sym held.shows) ∙ stays.0, ap records_in stays.1 ∙ held.shows)
stays-as (Some r) l n z held stays = tt

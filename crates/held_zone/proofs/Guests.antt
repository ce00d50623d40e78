-- A zone of a guest: how it wakes and falls asleep, and how its bytes are repaired, with the guest's fields put aside.
use Rattle.std.proofs.Common.{◌≡◌, ◌∙◌, ℕ, ◌-◌, ◌≤◌, List, ◌++◌, length, replicate, take, Ok, Err, Result, refl, sym, ap, subst, inl, inr, IsTrue}
use Rattle.std.specs.Prelude.{IfErr}
use Rattle.mac_base.specs.ZoneSizes.{ZoneSizes}
use Rattle.mac_base.specs.ZoneState.{ZoneState}
use Rattle.raw_region.specs.State.{State as Region, with_bytes}
use Rattle.block_bytes.specs.declared.adopting.WhyNot.{WhyNot}
use Rattle.block_bytes.specs.declared.adopting.WhyNot.TheVariants.{NotZone}
use Rattle.linked_zone.specs.Adopting.{IsZoneIn}
use Rattle.linked_zone.specs.Structure.{HasStructure, IsIn, shown}
use Rattle.held_zone.specs.declared.fields.GuestFields.{GuestFields}
use Rattle.held_zone.specs.Asleep.{AwakeTaking, FallsAsleep, IsAwakeIn, IsGivenBack, IsInRegion, IsSettled, RefusesTaken, SleepsOn, WakesAsBefore, all_back, all_lendable, awake_as}
use Rattle.held_zone.specs.declared.waking.WhyAsleep.{WhyAsleep}
use Rattle.held_zone.specs.declared.waking.WhyAsleep.TheVariants.{Damaged, HostFull, Unlocked}
use Rattle.held_zone.specs.NilFlags.{IsCleared, Takes}
use Rattle.held_zone.specs.Attaching.{IsZoneOf}
use Rattle.held_zone.specs.Fields.{AreFields, fielded, fields_in, managed, managed_in, new_fields}
use Rattle.held_zone.specs.KeptFlags.{KeepsFlags}
use Rattle.held_zone.specs.Repairing.{IsMended}
use Rattle.held_zone.specs.State.{State}
use Rattle.held_zone.proofs.Filled.{zone-in}
use Rattle.held_zone.proofs.Headers.{in-long, in-with, length-with, managed-fielded, managed-in}
use Rattle.held_zone.proofs.NilFlags.{damaged-cleared, taken-long}
use Rattle.mem_calls.proofs.FlagsTaken.{written-all}

-- bytes of another length haven't the structure, as a zone takes them
pub other-length : (z : ZoneState) (bytes : List ℕ) → (length bytes ≡ z.shape.limit → ⊥) → (taken : List ℕ) → Takes z (managed bytes) taken → HasStructure z taken → ⊥
other-length z bytes other taken takes has = other (sym (length-with new_fields bytes) ∙ sym (taken-long z (managed bytes) taken takes) ∙ has.all)

-- a region is as long as the Memory Manager has it
pub managed-long : (r now : Region) → now ≡ managed_in r → length now.bytes ≡ length r.bytes
managed-long r now is = ap (λ (r : Region). length r.bytes) is ∙ length-with new_fields r.bytes

-- bytes that are written over all of a region
pub all-written : (r : Region) (new : List ℕ) (n : ℕ) → n ≡ length r.bytes → length new ≡ length r.bytes → with_bytes r 0 (take n new) ≡ record r { bytes = new }
all-written r new n all long = ap (λ (xs : List ℕ). let now : Region = record r { bytes = xs } in now) (written-all r.bytes new n all long)

-- a zone that is awake with its guest's fields
pub woken : (old new : State) (r : Region) (taken : List ℕ) (fields : GuestFields) → Takes old.zone (managed r.bytes) taken → AwakeTaking taken (managed_in r) old new → fields ≡ fields_in r.bytes → IsAwakeIn old r (record new { guest = fields })
woken old new r taken fields takes wakes read = record {
  taken = taken;
  takes = takes;
  structure = wakes.structure;
  lendable = wakes.lendable;
  awake = λ i. record (wakes.awake i) { guest = read i };
}

-- one that has the structure of bytes as they are
pub awake-plain : (old new : State) (r : Region) → HasStructure old.zone r.bytes → IsTrue (all_lendable old r.bytes) → new ≡ awake_as r old → (taken : List ℕ) × Takes old.zone r.bytes taken × AwakeTaking taken r old new
awake-plain old new r has may is = (r.bytes, inl (has, refl), record { structure = has; lendable = may; awake = is })

-- one that sleeps on in bytes that are cleared
pub sleeps-cleared : (why : WhyAsleep) (s : State) (bytes cleared : List ℕ) → (HasStructure s.zone bytes → ⊥) → IsCleared s.zone bytes cleared → RefusesTaken why s cleared → SleepsOn why s bytes
sleeps-cleared Damaged s bytes cleared damaged clear refuses = damaged-cleared s.zone bytes cleared damaged clear refuses
sleeps-cleared Unlocked s bytes cleared damaged clear refuses = (cleared, inr (damaged, clear), refuses)
sleeps-cleared HostFull s bytes cleared damaged clear refuses = absurd refuses

-- a zone that falls asleep gives the region back with them
pub given-back : (old new : State) (r : Region) → AreFields old.guest → IsInRegion (all_back old) r → FallsAsleep old r new → WakesAsBefore old r new → IsGivenBack old (fielded old.guest r) new
given-back old new r are place falls again =
    let long = in-long (all_back old).zone r.bytes place.bytes in
    let back : managed_in (fielded old.guest r) ≡ r = managed-fielded old.guest r are long (managed-in (all_back old).zone r.bytes place.bytes) in
    let fields : fields_in (fielded old.guest r).bytes ≡ old.guest = in-with r.bytes long old.guest are in
    record {
      fields = fields;
      place = subst (IsInRegion (all_back old)) (sym back) place;
      asleep = subst (λ (r : Region). FallsAsleep old r new) (sym back) falls;
      again = subst (λ (r : Region). WakesAsBefore old r new) (sym back) again;
      awake = (λ i. record (awake_as (back i) new) { guest = fields i }) ∙ ap (λ (s : State). record s { guest = old.guest }) again.awake;
    }

-- bytes that are repaired
pub mended : (old : State) (z : ZoneState) (given kept : Region) (fields : GuestFields) → fields ≡ fields_in given.bytes → AreFields fields → KeepsFlags old.zone (managed given.bytes) old.waiting z
    → IsSettled (record old { zone = z }) (managed_in given) kept → IsMended old given (fielded fields kept) (record old { zone = z })
mended old z given kept fields read are flags settled =
    let inside : IsIn (shown z kept.bytes) kept.bytes = settled.structure in
    let long = in-long (shown z kept.bytes) kept.bytes inside in
    let back : managed_in (fielded fields kept) ≡ kept = managed-fielded fields kept are long (managed-in (shown z kept.bytes) kept.bytes inside) in
    record {
      flags = flags;
      others = refl;
      settled = subst (IsSettled (record old { zone = z }) (managed_in given)) (sym back) settled;
      fields = in-with kept.bytes long fields are ∙ read;
    }

-- where no zone has a region's bytes, none has those of an image as the Memory Manager has them, with zeros after them
pub none-restored : {A : Type 0} (result : Result A WhyNot) (spec : ZoneSizes) (image bytes : List ℕ) → length image ≡ spec.size → spec.size ≤ spec.limit
    → bytes ≡ managed image ++ replicate (spec.limit - length image) 0 → IfErr result (λ why. why ≡ NotZone → (z : ZoneState) → IsZoneIn spec bytes z → ⊥)
    → IfErr result (λ why. why ≡ NotZone → (z : ZoneState) → IsZoneOf spec (managed image) z → ⊥)
none-restored (Ok a) spec image bytes long within is none = tt
none-restored (Err why) spec image bytes long within is none = λ not z zone.
    let same : length (managed image) ≡ length image = length-with new_fields image in
    let there : managed image ++ replicate (spec.limit - length (managed image)) 0 ≡ bytes = ap (λ n. managed image ++ replicate (spec.limit - n) 0) same ∙ sym is in
    none not z (subst (λ (bs : List ℕ). IsZoneIn spec bs z) there (zone-in spec (managed image) z (same ∙ long) within zone))

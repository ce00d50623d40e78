-- How a zone's structure is compared with bytes, and how the call ends that exchanges its bytes.
use Rattle.std.proofs.Common.{◌≡◌, ℕ, ◌+◌, ◌-◌, true, List, [], take, Option, Some, None, refl, ap, sym, ◌∙◌, subst}
use Rattle.mac_base.specs.declared.block.Flags.{Flags}
use Rattle.mac_base.specs.declared.block.HeadKind.{HeadKind}
use Rattle.mac_base.specs.declared.block.HeadKind.TheVariants.{Bits24, Bits32}
use Rattle.mac_base.specs.HeadKind.{zone_header}
use Rattle.mac_base.specs.ZoneMap.{address_after, contents_of}
use Rattle.mac_base.specs.HandleTable.{Live, EmptyHandle, FullHandle, Pointer, live_at, live_flags, live_full, flags_of}
use Rattle.mac_base.specs.ZoneState.{Memory, ZoneState}
use Rattle.zone_laws.proofs.Tables.{full_handle}
use Rattle.zone_records.specs.declared.slot.Slot.TheVariants as slot
use Rattle.zone_records.specs.declared.structure.Agreement.{Agreement}
use Rattle.zone_records.specs.declared.structure.Agreement.TheVariants.{Damaged, FlagsChanged, Same}
use Rattle.zone_records.specs.Image.{HasBytes}
use Rattle.zone_records.specs.Places.{SlotAt}
use Rattle.zone_records.specs.Records.{ZoneRecords}
use Rattle.zone_records.specs.Structure.{said_flags, shown_slot}
use Rattle.zone_records.specs.Structure as records
use Rattle.linked_zone.specs.Owned.{slot_flags, slot_of_live, next_free, slot_of, owners_of, records_of}
use Rattle.linked_zone.specs.Structure.{shown_live, shown, IsIn, HasStructure, SameFlags, Agrees, FirstChanged, NoneChanged}
use Rattle.linked_zone.proofs.Found.{of-slot, full-said}
use Rattle.linked_zone.proofs.Located.{map-slot}
use Rattle.linked_zone.proofs.Owning.{records-total}
use Rattle.linked_zone.proofs.Shown.{if_live, shown-at, shown-fits, shown-law}
use Rattle.linked_zone.proofs.Standing.{Stands, Kept, kept}

-- a zone is in the bytes that its blocks are in
pub in-from : (z : ZoneState) (bytes : List ℕ) → records.IsIn (records_of z) bytes → IsIn z bytes
in-from z bytes is = record { all = is.all; image = subst (λ n. HasBytes (records_of z) (take (zone_header + n) bytes)) (records-total (owners_of z) z.shape (address_after z.shape []) z.heap.map) is.image }

pub in-to : (z : ZoneState) (bytes : List ℕ) → IsIn z bytes → records.IsIn (records_of z) bytes
in-to z bytes is = record { all = is.all; image = subst (λ n. HasBytes (records_of z) (take (zone_header + n) bytes)) (sym (records-total (owners_of z) z.shape (address_after z.shape []) z.heap.map)) is.image }

-- flags that differ from those which a slot said are in slots
other_flags : (heads : HeadKind) (bytes : List ℕ) (at : ℕ) (flags old : Flags) → flags ≡ said_flags heads bytes at (slot_flags heads old) → (flags ≡ slot_flags heads old → ⊥) → (flags ≡ said_flags heads bytes at old) × (flags ≡ old → ⊥)
other_flags Bits24 bytes at flags old said differ = (said, differ)
other_flags Bits32 bytes at flags old said differ = absurd (differ said)

module _ (r : ZoneRecords) (z : ZoneState) (held : Stands r z) (bytes : List ℕ) where
  abbrev now : ZoneState
  now = shown z bytes

  -- the blocks that bytes show are those of the zone that they show
  shown-records : records.shown r bytes ≡ records_of (shown z bytes)
  shown-records = ap (λ r. records.shown r bytes) held.blocks ∙ sym (shown-law z bytes held.fits held.rooms)

  -- bytes have the structure of the zone where they have that of its blocks
  pub has-from : records.HasStructure r bytes → HasStructure z bytes
  has-from has = in-from now bytes (subst (λ r. records.IsIn r bytes) shown-records has)

  pub has-to : HasStructure z bytes → records.HasStructure r bytes
  has-to has = subst (λ r. records.IsIn r bytes) (sym shown-records) (in-to now bytes has)

  -- what the slot of x says in bytes, where one is
  abbrev SaysSame : ZoneRecords → ℕ → Type 0
  SaysSame r x = (s : SlotAt r x) → shown_slot r.shape.heads bytes (x - r.shape.base) s.here ≡ s.here

  -- the flags of x are the same where its slot says the same
  flags-from : (x : ℕ) → SaysSame r x → flags_of (shown z bytes).heap.table x ≡ flags_of z.heap.table x
  flags-from x same = ap live_flags (shown-at z bytes x) ∙ by_case z.shape.heads (live_at z.heap.table x) slot_same
    where
      slot_same : live_full (live_at z.heap.table x) ≡ true → shown_slot z.shape.heads bytes (x - z.shape.base) (slot_of z x) ≡ slot_of z x
      slot_same full =
          let own = subst (λ r. Stands r z) held.blocks held in
          let there = of-slot (records_of z) z own x (held.fits.coherent.in_slots x (full_handle z.heap.table x full)) in
          let says = subst (λ r. SaysSame r x) held.blocks same in
          subst (λ s. shown_slot z.shape.heads bytes (x - z.shape.base) s ≡ s) there.says (says there.there)

      by_case : (heads : HeadKind) (o : Option Live) → (live_full o ≡ true → shown_slot heads bytes (x - z.shape.base) (slot_of_live heads o (contents_of z.shape x z.heap.map) (next_free z.heap.free_slots x)) ≡ slot_of_live heads o (contents_of z.shape x z.heap.map) (next_free z.heap.free_slots x))
          → live_flags (if_live (shown_live (record { heads = heads; base = z.shape.base; limit = z.shape.limit }) z.heap.map bytes x) o) ≡ live_flags o
      by_case heads None says = refl
      by_case heads (Some EmptyHandle) says = refl
      by_case Bits24 (Some (FullHandle flags old)) says = cc (says refl)
      by_case Bits32 (Some (FullHandle flags old)) says = refl
      by_case heads (Some (Pointer old)) says = refl

  -- and its slot says the same where they are
  flags-to : (x : ℕ) → flags_of (shown z bytes).heap.table x ≡ flags_of z.heap.table x → SaysSame r x
  flags-to x same = subst (λ r. SaysSame r x) (sym held.blocks) (λ s.
      subst (λ said. shown_slot z.shape.heads bytes (x - z.shape.base) said ≡ said) (sym (map-slot (records_of z) z refl x s).says)
      (by_case z.shape.heads (live_at z.heap.table x) (sym (ap live_flags (shown-at z bytes x)) ∙ same)))
    where
      by_case : (heads : HeadKind) (o : Option Live) → live_flags (if_live (shown_live (record { heads = heads; base = z.shape.base; limit = z.shape.limit }) z.heap.map bytes x) o) ≡ live_flags o
          → shown_slot heads bytes (x - z.shape.base) (slot_of_live heads o (contents_of z.shape x z.heap.map) (next_free z.heap.free_slots x)) ≡ slot_of_live heads o (contents_of z.shape x z.heap.map) (next_free z.heap.free_slots x)
      by_case heads None is = refl
      by_case heads (Some EmptyHandle) is = refl
      by_case Bits24 (Some (FullHandle flags old)) is = ap (λ f. slot.Full f (contents_of z.shape x z.heap.map)) is
      by_case Bits32 (Some (FullHandle flags old)) is = refl
      by_case heads (Some (Pointer old)) is = refl

  pub same-from : records.SameFlags r bytes → SameFlags z bytes
  same-from same x = flags-from x (same x)

  pub same-to : SameFlags z bytes → records.SameFlags r bytes
  same-to same x = flags-to x (same x)

  -- bytes agree with the zone as they do with its blocks
  pub agrees-from : (a : Agreement) → records.Agrees r bytes a → Agrees z bytes a
  agrees-from Damaged other = λ has. other (has-to has)
  agrees-from FlagsChanged both = (has-from both.0, λ same. both.1 (same-to same))
  agrees-from Same both = (has-from both.0, same-from both.1)

  -- ---- the first handle with other flags

  pub none-changed : (from : ℕ) → records.NoneChanged r bytes from → NoneChanged z bytes from
  none-changed from none x above = flags-from x (λ s. none x s above)

  pub first-changed : (from at : ℕ) (flags : Flags) → records.FirstChanged r bytes from at flags → FirstChanged z bytes from at flags
  first-changed from at flags found =
      let there = map-slot r z held.blocks at found.named in
      let was = full-said z at found.old found.contents (sym found.full ∙ there.says) in
      let said : flags ≡ said_flags z.shape.heads bytes (at - z.shape.base) (slot_flags z.shape.heads (flags_of z.heap.table at)) = found.said ∙ ap (λ (r : ZoneRecords). said_flags r.shape.heads bytes (at - r.shape.base) found.old) held.blocks ∙ ap (said_flags z.shape.heads bytes (at - z.shape.base)) was.1 in
      let other = other_flags z.shape.heads bytes (at - z.shape.base) flags (flags_of z.heap.table at) said (λ is. found.differ (is ∙ sym was.1)) in
      record {
        full = was.2;
        said = other.0 ∙ sym (ap live_flags (shown-at z bytes at) ∙ by_case (live_at z.heap.table at) was.2);
        differ = other.1;
        reached = found.reached;
        first = λ x above below. flags-from x (λ s. found.first x s above below);
      }
    where
      by_case : (o : Option Live) → live_full o ≡ true → live_flags (if_live (shown_live z.shape z.heap.map bytes at) o) ≡ said_flags z.shape.heads bytes (at - z.shape.base) (live_flags o)
      by_case None full = absurd (cc full)
      by_case (Some EmptyHandle) full = absurd (cc full)
      by_case (Some (FullHandle old contents)) full = refl
      by_case (Some (Pointer old)) full = absurd (cc full)

  -- ---- the zone in other bytes

  -- its blocks with the bytes in their places stand for the zone that bytes show
  pub exchanged : (n : ZoneRecords) (memory : Memory) → n ≡ record (records.shown r bytes) { memory = memory } → Kept n (record (shown z bytes) { memory = memory })
  exchanged n memory is =
      let fits = shown-fits z bytes held.fits in
      kept n (record (shown z bytes) { memory = memory }) (record {
        blocks = is ∙ ap (λ (r : ZoneRecords). record r { memory = memory }) shown-records;
        fits = record { coherent = fits.coherent; slots = fits.slots; loans = fits.loans };
        sizes = held.sizes;
        rooms = held.rooms;
        within = held.within;
        even = held.even;
        low = held.low;
        high = held.high;
      })

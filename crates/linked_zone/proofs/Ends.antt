-- How the changes of a zone end: another part of its blocks, another slot, and when these stand for the changed zone.
use Rattle.std.proofs.Common.{◌≡◌, ℕ, ◌+◌, Bool, true, false, cond, eqb, List, [], ◌++◌, refl, ap, sym, ◌∙◌, subst, arith, Contains}
use Rattle.std.specs.List.{list_all}
use Rattle.std.proofs.lemmas.Bool.{eqb-true}
use Rattle.mac_base.specs.declared.block.Entry.{Entry}
use Rattle.mac_base.specs.HeadKind.{Shape}
use Rattle.mac_base.specs.ZoneMap.{ZoneMap, total_size, address_after}
use Rattle.mac_base.specs.Heap.{Heap}
use Rattle.mac_base.specs.Suits.{slots, is_block_size}
use Rattle.mac_base.specs.ZoneState.{Memory, ZoneState, with_heap}
use Rattle.zone_laws.proofs.Maps.{Exchanged, total_size-exchanged, list_all-exchanged}
use Rattle.zone_laws.proofs.Tables.{eqb_same}
use Rattle.zone_records.specs.declared.slot.Slot.{Slot}
use Rattle.zone_records.specs.Records.{BlockRecord, ZoneRecords}
use Rattle.zone_records.specs.Records as records
use Rattle.zone_records.specs.Changes.{with_slot}
use Rattle.zone_records.specs.Places.{SlotAt}
use Rattle.linked_zone.specs.Fit.{Fits, has_room}
use Rattle.linked_zone.specs.Owned.{Owners, owners_of, records_of, records_from}
use Rattle.linked_zone.proofs.Standing.{Stands, Kept, kept}
use Rattle.linked_zone.proofs.Owning.{image, records-middle, records-place, records-replaced, SameNamed, SameSlots, slot_set, slot-at, slot-written, image-same}

-- ---- a slot

module _ (r : ZoneRecords) (memory : Memory) (s : Shape) (front : ℕ) (o : Owners) (m : ZoneMap) (is : r ≡ image memory s front o m) (rooms : list_all (has_room s) m ≡ true) (h : ℕ) (c : Contains (slots s m) h) where
  -- it is there
  pub slot-there : SlotAt r h
  slot-there = subst (λ r. SlotAt r h) (sym is) (slot-at memory s front o m h rooms c)

  -- what is read there
  pub slot-read : (said : Slot) → ((t : SlotAt r h) → said ≡ t.here) → said ≡ o.slot h
  slot-read said reads = (subst (λ (r : ZoneRecords). (t : SlotAt r h) → said ≡ t.here) is reads) (slot-at memory s front o m h rooms c)

  -- and what it is to write there
  pub slot-write : (n : ZoneRecords) (w : Slot) → ((t : SlotAt r h) → n ≡ with_slot w r t) → n ≡ image memory s front (slot_set o h w) m
  slot-write n w writes = (subst (λ (r : ZoneRecords). (t : SlotAt r h) → n ≡ with_slot w r t) is writes) (slot-at memory s front o m h rooms c) ∙ slot-written memory s front o m h rooms c w

-- with one slot written the blocks are those of owners who say this there and the same elsewhere
pub slot-settled : (memory : Memory) (s : Shape) (front : ℕ) (o p : Owners) (m : ZoneMap) (h : ℕ) (w : Slot) → p.slot h ≡ w → ((x : ℕ) → (x ≡ h → ⊥) → p.slot x ≡ o.slot x) → ((x : ℕ) → p.flags x ≡ o.flags x) → ((x : ℕ) → p.bytes x ≡ o.bytes x) → ((x : ℕ) → p.lent x ≡ o.lent x)
    → image memory s front (slot_set o h w) m ≡ image memory s front p m
slot-settled memory s front o p m h w here others flags bytes lent = sym (image-same memory s front (slot_set o h w) p m (λ x _. by_test x (eqb x h) refl) flags bytes lent)
  where
    by_test : (x : ℕ) (b : Bool) → eqb x h ≡ b → p.slot x ≡ cond b w (o.slot x)
    by_test x true is = ap p.slot (eqb-true x h is) ∙ here
    by_test x false is = others x (λ same. absurd (cc (ap (λ y. eqb y h) same ∙ eqb_same h, is)))

-- ---- a part of the blocks

-- the blocks before a part
abbrev pub lower : Owners → Shape → ZoneMap → List BlockRecord
lower o s before = records_from o s (address_after s []) before

-- a part
abbrev pub middle : Owners → Shape → ZoneMap → ZoneMap → List BlockRecord
middle o s before part = records_from o s (address_after s [] + total_size before) part

-- and the blocks after it
abbrev pub upper : Owners → Shape → ZoneMap → ZoneMap → ZoneMap → List BlockRecord
upper o s before part after = records_from o s ((address_after s [] + total_size before) + total_size part) after

module _ (z : ZoneState) (heap : Heap) (x : Exchanged z.heap.map heap.map) where
  abbrev o : Owners
  o = owners_of z

  -- the blocks of a zone in three parts
  pub parts-before : (records_of z).blocks ≡ lower (owners_of z) z.shape x.before ++ (middle (owners_of z) z.shape x.before x.left ++ upper (owners_of z) z.shape x.before x.left x.after)
  parts-before = ap (records_from o z.shape (address_after z.shape [])) x.was ∙ records-middle o z.shape (address_after z.shape []) x.before x.left x.after

  -- what is after the first part begins where its own map ends
  pub parts-place : (at : ℕ) → at ≡ address_after z.shape x.before → at ≡ records.address_after z.shape (lower (owners_of z) z.shape x.before)
  parts-place at is = is ∙ records-place o z.shape x.before

  -- with another middle part they are those of the new map, for owners who say the same in slots and have the same
  -- before and after
  pub parts-after : (n : ZoneRecords) (front : ℕ) (q : Owners) → SameSlots (owners_of z) q z.shape (address_after z.shape []) x.before
      → SameSlots (owners_of z) q z.shape ((address_after z.shape [] + total_size x.before) + total_size x.left) x.after → SameNamed (owners_of z) q x.before → SameNamed (owners_of z) q x.after
      → n ≡ record { memory = z.memory; shape = z.shape; front = front; blocks = lower (owners_of z) z.shape x.before ++ (middle q z.shape x.before x.right ++ upper (owners_of z) z.shape x.before x.left x.after) }
      → n ≡ image z.memory z.shape front q heap.map
  parts-after n front q slot later first second is =
      is ∙ ap (λ bs. record { memory = z.memory; shape = z.shape; front = front; blocks = bs }) (sym (records-replaced o q z.shape (address_after z.shape []) x.before x.left x.right x.after x.as_large slot later first second))
      ∙ ap (image z.memory z.shape front q) (sym x.is)

  -- blocks of the changed zone stand for it
  pub ended : (r n : ZoneRecords) → Stands r z → Fits (with_heap heap z) → list_all (λ (e : Entry). is_block_size z.shape e.size) x.right ≡ true → list_all (has_room z.shape) x.right ≡ true
      → n ≡ records_of (with_heap heap z) → Kept n (with_heap heap z)
  ended r n held fits sizes rooms is = kept n (with_heap heap z) (record {
    blocks = is;
    fits = fits;
    sizes = list_all-exchanged z.heap.map heap.map x (λ (e : Entry). is_block_size z.shape e.size) sizes held.sizes;
    rooms = list_all-exchanged z.heap.map heap.map x (has_room z.shape) rooms held.rooms;
    within = (let same = total_size-exchanged z.heap.map heap.map x in let within = held.within in omega arith);
    even = held.even;
    low = held.low;
    high = held.high;
  })

-- blocks of a zone that has the same map stand for it
pub ended-same : (r n : ZoneRecords) (z : ZoneState) (heap : Heap) → Stands r z → heap.map ≡ z.heap.map → Fits (with_heap heap z) → n ≡ records_of (with_heap heap z) → Kept n (with_heap heap z)
ended-same r n z heap held same fits is = ended z heap (record { before = []; left = []; right = []; after = z.heap.map; was = refl; is = same; as_large = refl }) r n held fits refl refl is

-- How the calls end that give a slot and take it back.
use Rattle.std.proofs.Common.{◌≡◌, ℕ, List, [], ◌∷◌, drop, true, refl, ap, sym, ◌∙◌, subst, Contains, Some}
use Rattle.std.specs.Prelude.{slice_index}
use Rattle.mac_base.specs.HandleTable.{EmptyHandle, live_at}
use Rattle.mac_base.specs.Heap.{front_slot}
use Rattle.mac_base.specs.Suits.{slots}
use Rattle.mac_base.specs.ZoneState.{ZoneState}
use Rattle.zone_records.specs.declared.slot.Slot.{Slot}
use Rattle.zone_records.specs.declared.slot.Slot.TheVariants as slot
use Rattle.zone_records.specs.Changes.{with_slot, with_front}
use Rattle.zone_records.specs.Places.{SlotAt, can_say}
use Rattle.zone_records.specs.Records.{ZoneRecords}
use Rattle.linked_zone.specs.Changes.{taken, given_back}
use Rattle.linked_zone.specs.Owned.{owners_of, header_flags}
use Rattle.linked_zone.proofs.Standing.{Stands, Kept}
use Rattle.linked_zone.proofs.Ends.{slot-there, slot-read, slot-write, slot-settled, ended-same}
use Rattle.linked_zone.proofs.EndsSaid.{front-none, next-said}
use Rattle.linked_zone.proofs.ChangeTaken as t
use Rattle.linked_zone.proofs.ChangeGivenBack as g

module _ (r : ZoneRecords) (z : ZoneState) (held : Stands r z) where
  front-is : r.front ≡ front_slot z.heap
  front-is = ap (λ (r : ZoneRecords). r.front) held.blocks

  -- a zone's slot is one of its blocks'
  pub own-slot : (h k : ℕ) → k ≡ h → Contains (slots z.shape z.heap.map) h → SlotAt r k
  own-slot h k same c = subst (λ k. SlotAt r k) (sym same) (slot-there r z.memory z.shape (front_slot z.heap) (owners_of z) z.heap.map held.blocks held.rooms h c)

  -- its blocks say slots as the zone's kind does
  pub says-kind : (s : Slot) → can_say z.shape.heads s ≡ true → can_say r.shape.heads s ≡ true
  says-kind s said = ap (λ (r : ZoneRecords). can_say r.shape.heads s) held.blocks ∙ said

  -- ---- the next slot

  -- there is none
  pub take-none : (front : ℕ) → front ≡ r.front → front ≡ 0 → z.heap.free_slots ≡ []
  take-none front is none = front-none r z held (sym front-is ∙ sym is ∙ none)

  module _ (front : ℕ) (is : front ≡ r.front) (some : front ≡ 0 → ⊥) where
    -- it is in front
    pub take-first : z.heap.free_slots ≡ front ∷ drop 1 z.heap.free_slots
    take-first = first z.heap.free_slots (λ zero. some (is ∙ front-is ∙ zero)) ∙ ap (λ x. x ∷ drop 1 z.heap.free_slots) (sym (is ∙ front-is))
      where
        first : (xs : List ℕ) → (slice_index xs 0 ≡ 0 → ⊥) → xs ≡ slice_index xs 0 ∷ drop 1 xs
        first [] some = absurd (some refl)
        first (x ∷ xs) some = refl

    pub take-slot : SlotAt r front
    take-slot = own-slot front front refl (t.taken-slot z front (drop 1 z.heap.free_slots) held.fits held.rooms take-first)

    -- it says which is next
    pub take-says : (said : Slot) → ((s : SlotAt r front) → said ≡ s.here) → said ≡ slot.Free (front_slot (taken front z).heap)
    take-says said reads =
        slot-read r z.memory z.shape (front_slot z.heap) (owners_of z) z.heap.map held.blocks held.rooms front (t.taken-slot z front (drop 1 z.heap.free_slots) held.fits held.rooms take-first) said reads
        ∙ t.taken-next z front (drop 1 z.heap.free_slots) held.fits held.rooms take-first

    -- it is taken
    pub take-ends : (m n : ZoneRecords) (next : ℕ) → ((s : SlotAt r front) → slot.Free next ≡ s.here) → ((s : SlotAt r front) → m ≡ with_slot slot.Empty r s) → n ≡ with_front next m → Kept n (taken front z)
    take-ends m n next reads writes last =
        let hs = drop 1 z.heap.free_slots in
        let c = t.taken-slot z front hs held.fits held.rooms take-first in
        let next_is : next ≡ front_slot (taken front z).heap = cc (take-says (slot.Free next) reads) in
        ended-same r n z (taken front z).heap held refl (t.taken-fits z front hs held.fits held.rooms take-first)
        (last ∙ ap (λ x. with_front x m) next_is
        ∙ ap (with_front (front_slot (taken front z).heap)) (slot-write r z.memory z.shape (front_slot z.heap) (owners_of z) z.heap.map held.blocks held.rooms front c m slot.Empty writes)
        ∙ slot-settled z.memory z.shape (front_slot (taken front z).heap) (owners_of z) (owners_of (taken front z)) z.heap.map front slot.Empty (t.taken-pointer z front hs held.fits held.rooms take-first)
        (t.taken-others z front hs held.fits held.rooms take-first) (λ x. ap (header_flags z.shape.heads) (t.taken-flags z front hs held.fits held.rooms take-first x)) (t.taken-bytes z front hs held.fits held.rooms take-first) (λ x. refl))

  -- ---- a slot given back

  -- the next slot to be given can be said
  pub front-said : (next : ℕ) → next ≡ r.front → can_say r.shape.heads (slot.Free next) ≡ true
  front-said next is = says-kind (slot.Free next) (ap (λ x. can_say z.shape.heads (slot.Free x)) (is ∙ front-is) ∙ next-said r z held z.heap.free_slots (λ x c. c))

  pub release-ends : (h k a next : ℕ) (m n : ZoneRecords) → live_at z.heap.table h ≡ Some EmptyHandle → k ≡ h → a ≡ h → next ≡ r.front → ((s : SlotAt r k) → m ≡ with_slot (slot.Free next) r s) → n ≡ with_front a m → Kept n (given_back h z)
  release-ends h k a next m n empty same again is writes last =
      let there : (s : SlotAt r h) → m ≡ with_slot (slot.Free next) r s = subst (λ k. (s : SlotAt r k) → m ≡ with_slot (slot.Free next) r s) same writes in
      ended-same r n z (given_back h z).heap held refl (g.given_back-fits z h held.fits empty)
      (last ∙ ap (λ x. with_front x m) again
      ∙ ap (with_front h) (slot-write r z.memory z.shape (front_slot z.heap) (owners_of z) z.heap.map held.blocks held.rooms h (g.given_back-slot z h held.fits empty) m (slot.Free next) there)
      ∙ slot-settled z.memory z.shape h (owners_of z) (owners_of (given_back h z)) z.heap.map h (slot.Free next) (g.given_back-pointer z h held.fits empty ∙ ap slot.Free (sym (is ∙ front-is)))
      (g.given_back-others z h held.fits empty) (λ x. ap (header_flags z.shape.heads) (g.given_back-flags z h held.fits empty x)) (g.given_back-bytes z h held.fits empty) (λ x. refl))

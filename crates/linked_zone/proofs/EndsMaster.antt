-- How the call ends that makes a free block a master block.
use Rattle.std.proofs.Common.{◌≡◌, ℕ, zero, suc, ◌+◌, ◌*◌, ◌<◌, true, [], ◌∷◌, ◌++◌, map, refl, ap, sym, ◌∙◌, subst, arith, Contains}
use Rattle.std.proofs.lemmas.Bool.{and_from}
use Rattle.mac_base.specs.declared.block.Kind.TheVariants as kind
use Rattle.mac_base.specs.HeadKind.{head_size, slot_count, master_length}
use Rattle.mac_base.specs.Heap.{front_slot}
use Rattle.mac_base.specs.Suits.{is_block_size, slots_from}
use Rattle.mac_base.specs.ZoneMap.{block, total_size, address_after}
use Rattle.mac_base.specs.ZoneState.{ZoneState}
use Rattle.zone_laws.proofs.Maps.{Exchanged}
use Rattle.zone_laws.proofs.SlotPlaces.{Contains-here, Contains-later}
use Rattle.zone_records.specs.declared.slot.Slot.{Slot}
use Rattle.zone_records.specs.declared.slot.Slot.TheVariants as slot
use Rattle.zone_records.specs.Changes as records
use Rattle.zone_records.specs.Changes.{chained, with_front}
use Rattle.zone_records.specs.Places as places
use Rattle.zone_records.specs.Records.{ZoneRecords, Master, block_record}
use Rattle.linked_zone.specs.Changes.{with_master}
use Rattle.linked_zone.specs.Fit.{has_room}
use Rattle.linked_zone.specs.Owned.{owners_of, slot_of}
use Rattle.linked_zone.specs.Places.{RoomFor}
use Rattle.linked_zone.proofs.Standing.{Stands, Kept}
use Rattle.linked_zone.proofs.Ends.{lower, upper, parts-after, ended}
use Rattle.linked_zone.proofs.EndsSaid.{part-passes}
use Rattle.linked_zone.proofs.EndsSwapped.{block_swapped, room-there, room-size}
use Rattle.linked_zone.proofs.ChangeMaster.{next_free-more, next_free-last, master-slot, master-before, master-after, master-old_pointer, master-rooms, master-fits}

-- slots of which each says that the next one is free, and the last one says another
chained-map : (f : ℕ → Slot) (n at last : ℕ) → ((x : ℕ) → Contains (slots_from n at) x → x + 4 < at + 4 * n → f x ≡ slot.Free (x + 4)) → ((x : ℕ) → Contains (slots_from n at) x → x + 4 ≡ at + 4 * n → f x ≡ slot.Free last)
    → chained n at last ≡ map f (slots_from n at)
chained-map f zero at last more end = refl
chained-map f (suc zero) at last more end = ap (λ y. y ∷ []) (sym (end at (Contains-here at []) (omega arith)))
chained-map f (suc (suc n)) at last more end =
    ap (λ y. y ∷ chained (suc n) (at + 4) last) (sym (more at (Contains-here at (slots_from (suc n) (at + 4))) (omega arith)))
    ∙ ap (λ ys. f at ∷ ys) (chained-map f (suc n) (at + 4) last (λ x c below. more x (Contains-later at (slots_from (suc n) (at + 4)) x c) (omega arith)) (λ x c is. end x (Contains-later at (slots_from (suc n) (at + 4)) x c) (omega arith)))

module _ (r : ZoneRecords) (z : ZoneState) (held : Stands r z) (at last : ℕ) (room : RoomFor z at master_length) (next : last ≡ front_slot z.heap) where
  abbrev now : ZoneState
  now = with_master z room.free

  abbrev first : ℕ
  first = at + head_size z.shape.heads

  -- the new block has just the slots of the new zone there
  own : chained slot_count first last ≡ map (slot_of now) (slots_from slot_count first)
  own = chained-map (slot_of now) slot_count first last
      (λ x c below. master-slot z at room held.fits held.rooms x (x + 4) c (next_free-more slot_count first z.heap.free_slots x c below))
      (λ x c is. master-slot z at room held.fits held.rooms x last c (next_free-last slot_count first z.heap.free_slots x c is ∙ sym next))

  abbrev x : Exchanged z.heap.map now.heap.map
  x = block_swapped z.heap.map now.heap.map room.free.before kind.Free kind.Master room.free.size room.free.after room.free.map refl

  pub master-ends : (front : ℕ) (m n : ZoneRecords) → front ≡ first → ((w : places.RoomFor r at master_length) → m ≡ records.filled (Master (chained slot_count (at + head_size r.shape.heads) last)) r w.free)
      → n ≡ with_front front m → Kept n (with_master z room.free)
  master-ends front m n is fills last_is =
      let filled = (subst (λ (r : ZoneRecords). (w : places.RoomFor r at master_length) → m ≡ records.filled (Master (chained slot_count (at + head_size r.shape.heads) last)) r w.free) held.blocks fills) (room-there r z held at master_length room) in
      let there : first ≡ (address_after z.shape [] + total_size room.free.before) + head_size z.shape.heads = (let place = room.free.place in omega arith) in
      ended z now.heap x r n held (master-fits z at room held.fits held.rooms) (and_from (is_block_size z.shape room.free.size) true (room-size r z held at master_length room) refl)
      (part-passes (has_room z.shape) room.free.before (block kind.Master room.free.size ∷ []) room.free.after now.heap.map refl (master-rooms z at room held.fits held.rooms))
      (parts-after z now.heap x n (front_slot now.heap) (owners_of now)
      (λ y c. master-old_pointer z at room held.fits held.rooms y (master-before z at room held.fits held.rooms y c))
      (λ y c. master-old_pointer z at room held.fits held.rooms y (master-after z at room held.fits held.rooms y c)) (λ y _. (refl, refl, refl)) (λ y _. (refl, refl, refl))
      (last_is ∙ ap (λ f. with_front f m) is ∙ ap (with_front first) filled
      ∙ ap (λ ss. record { memory = z.memory; shape = z.shape; front = first; blocks = lower (owners_of z) z.shape room.free.before ++ block_record (Master ss) room.free.size ∷ upper (owners_of z) z.shape room.free.before x.left room.free.after })
      (own ∙ ap (λ a. map (slot_of now) (slots_from slot_count a)) there)))

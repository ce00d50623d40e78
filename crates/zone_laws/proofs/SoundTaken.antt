-- A sound heap stays sound where a block is taken from any free block of a map that was rearranged: for a handle, a
-- pointer, or a block resized in a new place.
use Rattle.std.proofs.Common.{◌≡◌, ℕ, ◌+◌, ◌-◌, ◌≤◌, ◌↔◌, true, List, ◌∷◌, refl, ap, sym, ◌∙◌, subst, IsTrue, IsFalse, Contains}
use Rattle.std.proofs.lemmas.List.{length-replicate}
use Rattle.mac_base.specs.declared.block.Kind.TheVariants.{Ptr, Rel}
use Rattle.mac_base.specs.HeadKind.{Shape, need, head_size, zone_header}
use Rattle.mac_base.specs.ZoneMap.{ZoneMap, is_master, released, total_size, address_after}
use Rattle.mac_base.specs.HandleTable.{HandleTable, EmptyHandle, FullHandle, Pointer, live_full, live_handle, live_pointer, is_handle, with_live, no_flags, zeros}
use Rattle.mac_base.specs.Suits.{Suits, slots}
use Rattle.mac_base.specs.Gap.{is_fixed}
use Rattle.mac_base.specs.declared.request.Request.TheVariants.{NewBlock, NewPointer, Replace}
use Rattle.mac_base.specs.Heap.{Heap, granted, with_map}
use Rattle.mac_base.specs.Sound.{Sound, is_growth}
use Rattle.zone_laws.proofs.Placing.{TakenAt}
use Rattle.zone_laws.proofs.Maps.{total_size-exchanged}
use Rattle.zone_laws.proofs.SlotOwners.{free_contents_no_handle, free_contents_no_pointer}
use Rattle.zone_laws.proofs.SoundPlaced.{front_slot-free, sound-slot_taken}
use Rattle.zone_laws.proofs.SuitsReleased.{Suits-released, slots-released, total_size-released}
use Rattle.zone_laws.proofs.SuitsTaken.{Suits-new_handle, Suits-new_pointer, addresses-untaken, slots-same}
use Rattle.zone_laws.proofs.Tables.{by_number, in_order-with_live, live_at-with_live_same, not_live, with_live_agrees}
use Rattle.zone_laws.proofs.Taken.{taken_exchange}
use Rattle.zone_laws.proofs.RearrangedSuits.{Sound-rearranged, slots-rearranged}
use Rattle.zone_laws.proofs.ServedBase.{Base}

-- a rearranged map, where it suits the table, leaves a sound heap
pub sound-base : (s : Shape) (heap : Heap) (base : ZoneMap) → Sound s heap → Base s heap.table heap.table heap.map base → Sound s (with_map base heap)
sound-base s heap base sound b = let suits = b.suits in Sound-rearranged s heap.table heap base b.rearranged suits.apart suits.sizes sound

-- another map and table, with the size, the slots and the handles of the old ones, leave a sound heap
pub sound-kept : (s : Shape) (heap : Heap) (u : HandleTable) (m : ZoneMap) → Sound s heap → Suits s u m → total_size m ≡ total_size heap.map → slots s m ≡ slots s heap.map → ((y : ℕ) → is_handle u y ≡ is_handle heap.table y)
    → Sound s (record { table = u; map = m; free_slots = heap.free_slots })
sound-kept s heap u m sound suits same_size same_slots handles = record {
  suits = suits;
  within = subst (λ n. zone_header + n ≤ s.limit) (sym same_size) sound.within;
  growth = subst (λ n. IsTrue (is_growth s (s.limit - (zone_header + n)))) (sym same_size) sound.growth;
  slots = record {
    free = subst (λ all. (y : ℕ) → Contains heap.free_slots y ↔ (Contains all y × IsFalse (is_handle u y))) (sym same_slots)
        (λ y. ((λ c. let fact = (sound.slots.free y).0 c in (fact.0, handles y ∙ fact.1)), (λ c. (sound.slots.free y).1 (c.0, sym (handles y) ∙ c.1))));
    once = sound.slots.once;
  };
}

-- a new handle of n bytes takes a free block
pub sound-handle_taken : (s : Shape) (heap : Heap) (h : ℕ) (hs : List ℕ) (n : ℕ) (m : ZoneMap) → Sound s heap → heap.free_slots ≡ h ∷ hs → TakenAt s (need s.heads n) (Rel h) heap.map m → Sound s (granted (NewBlock n) h m heap)
sound-handle_taken s heap h hs n m sound front at =
    let slot = front_slot-free s heap h hs sound front in
    let l = FullHandle no_flags (zeros n) in
    let u = with_live h l heap.table in
    let agree = with_live_agrees h l heap.table in
    let has = live_at-with_live_same h l heap.table in
    sound-slot_taken s heap h hs sound front m u
    (Suits-new_handle s n h heap.map m heap.table u at sound.suits agree slot.not_full slot.no_pointer slot.slot no_flags (zeros n) has (length-replicate n 0) (in_order-with_live h l heap.table sound.suits.coherent.in_order))
    (total_size-exchanged heap.map m (taken_exchange s (need s.heads n) (Rel h) heap.map m at))
    (slots-same s heap.map m (addresses-untaken s (need s.heads n) (Rel h) heap.map m at is_master refl refl))
    agree (ap live_handle has)

-- a new pointer to n bytes takes a free block, and is the address of its contents
pub sound-pointer_taken : (s : Shape) (heap : Heap) (n p : ℕ) (m : ZoneMap) → Sound s heap → (at : TakenAt s (need s.heads n) (Ptr p) heap.map m) → p ≡ address_after s at.before + head_size s.heads → Sound s (granted (NewPointer n) p m heap)
sound-pointer_taken s heap n p m sound at here =
    let there = subst (Suits s heap.table) at.was sound.suits in
    let no_handle = free_contents_no_handle s heap.table at.before at.after at.size p there here in
    let no_pointer = free_contents_no_pointer s heap.table at.before at.after at.size p there here in
    let l = Pointer (zeros n) in
    let u = with_live p l heap.table in
    let agree = with_live_agrees p l heap.table in
    let has = live_at-with_live_same p l heap.table in
    sound-kept s heap u m sound
    (Suits-new_pointer s n p heap.map m heap.table u at sound.suits agree (ap live_full (not_live heap.table p no_handle no_pointer)) no_pointer (zeros n) has (length-replicate n 0) here (in_order-with_live p l heap.table sound.suits.coherent.in_order))
    (total_size-exchanged heap.map m (taken_exchange s (need s.heads n) (Ptr p) heap.map m at))
    (slots-same s heap.map m (addresses-untaken s (need s.heads n) (Ptr p) heap.map m at is_master refl refl))
    (by_number (λ y. is_handle u y ≡ is_handle heap.table y) p (ap live_handle has ∙ sym no_handle) (λ y apart. ap live_handle (agree.others y apart)))

-- ---- the old block of a handle is free before a new one is taken

module _ (s : Shape) (heap : Heap) (h n : ℕ) (sound : Sound s heap) (live : is_handle heap.table h ≡ true) where
  -- the table in which the handle is empty, and that in which it has n bytes of zero
  abbrev pub no_block : HandleTable
  no_block = with_live h EmptyHandle heap.table

  -- without the old block the map suits the table in which the handle is empty
  pub Suits-no_block : (m : ZoneMap) → Suits s heap.table m → Suits s no_block (released h m)
  Suits-no_block m suits =
      let has = live_at-with_live_same h EmptyHandle heap.table in
      Suits-released s h m heap.table no_block suits (with_live_agrees h EmptyHandle heap.table) (ap live_full has) (ap live_pointer has) (λ _. suits.coherent.in_slots h live) (in_order-with_live h EmptyHandle heap.table suits.coherent.in_order)

  -- and a new block of n bytes, taken there, makes the heap sound again
  pub sound-replaced : (base m : ZoneMap) → Base s heap.table no_block (released h heap.map) base → TakenAt s (need s.heads n) (Rel h) base m → Sound s (granted (Replace h n) h m heap)
  sound-replaced base m b at =
      let suits = b.suits in
      let r = b.rearranged in
      let l = FullHandle no_flags (zeros n) in
      let v = with_live h l heap.table in
      let empty = live_at-with_live_same h EmptyHandle heap.table in
      let has = live_at-with_live_same h l heap.table in
      let first = with_live_agrees h EmptyHandle heap.table in
      let second = with_live_agrees h l heap.table in
      let same_slots = slots-same s base m (addresses-untaken s (need s.heads n) (Rel h) base m at is_master refl refl) ∙ slots-rearranged s (is_fixed heap.table) (released h heap.map) base refl r ∙ slots-released s h heap.map in
      sound-kept s heap v m sound
      (Suits-new_handle s n h base m no_block v at suits (record { others = λ y apart. second.others y apart ∙ sym (first.others y apart) }) (ap live_full empty) (ap live_pointer empty)
      (suits.coherent.in_slots h (ap live_handle empty)) no_flags (zeros n) has (length-replicate n 0) (in_order-with_live h l heap.table sound.suits.coherent.in_order))
      (total_size-exchanged base m (taken_exchange s (need s.heads n) (Rel h) base m at) ∙ r.same_total ∙ total_size-released h heap.map)
      same_slots
      (by_number (λ y. is_handle v y ≡ is_handle heap.table y) h (ap live_handle has ∙ sym live) (λ y apart. ap live_handle (second.others y apart)))

-- A sound heap stays sound where a new handle takes the front slot.
use Rattle.std.proofs.Common.{◌≡◌, ℕ, ◌+◌, ◌-◌, ◌≤◌, ◌↔◌, Bool, true, false, eqb, List, ◌∷◌, drop, Some, None, refl, ap, sym, ◌∙◌, arith, IsTrue, IsFalse, Contains, subst, inl, inr, nat_eq}
use Rattle.std.specs.List.{IsDistinct}
use Rattle.std.proofs.lemmas.Bool.Decides.{nat_tests}
use Rattle.std.proofs.lemmas.List.{length-replicate}
use Rattle.std.proofs.lemmas.List.Elements.{All-contains, All-from_recursion}
use Rattle.std.proofs.lemmas.Map.Keys.{IsDistinct-head, IsDistinct-tail}
use Rattle.std.proofs.lemmas.Bool.{eqb-true}
use Rattle.mac_base.specs.declared.block.Kind.TheVariants.{Rel}
use Rattle.mac_base.specs.HeadKind.{Shape, need, zone_header}
use Rattle.mac_base.specs.ZoneMap.{ZoneMap, total_size, is_master}
use Rattle.mac_base.specs.HandleTable.{HandleTable, FullHandle, live_at, live_full, live_handle, is_full, is_handle, is_pointer, with_live, no_flags, zeros}
use Rattle.mac_base.specs.Suits.{Suits, slots}
use Rattle.mac_base.specs.declared.request.Request.TheVariants.{NewBlock}
use Rattle.mac_base.specs.Serve.{take_lowest}
use Rattle.mac_base.specs.Heap.{Heap, granted}
use Rattle.mac_base.specs.Sound.{Sound, is_growth}
use Rattle.zone_laws.proofs.Maps.{total_size-exchanged}
use Rattle.zone_laws.proofs.Tables.{AgreeBut, live_at-with_live_same, with_live_agrees, in_order-with_live, not_live}
use Rattle.zone_laws.proofs.Taken.{taken_exchange}
use Rattle.zone_laws.proofs.SuitsTaken.{Suits-new_handle, addresses-untaken, slots-same}
use Rattle.zone_laws.proofs.SlotPlaces.{Contains-cons_cases, Contains-here, Contains-later}
use Rattle.zone_laws.proofs.SlotOwners.{slot_no_pointer}
use Rattle.zone_laws.proofs.PlacedParts.{taken-parts}

-- a slot that no live handle or pointer has
pub record IsFreeSlot (s : Shape) (heap : Heap) (h : ℕ) : Type 0 where
  pub slot : Contains (slots s heap.map) h
  pub no_handle : is_handle heap.table h ≡ false
  pub not_full : is_full heap.table h ≡ false
  pub no_pointer : is_pointer heap.table h ≡ false
  pub not_live : live_at heap.table h ≡ None

-- each of the free slots is one
pub free_slot : (s : Shape) (heap : Heap) → Sound s heap → (h : ℕ) → Contains heap.free_slots h → IsFreeSlot s heap h
free_slot s heap sound h is =
    let fact = (sound.slots.free h).0 is in
    let pointer = slot_no_pointer s heap.table heap.map sound.suits h fact.0 in
    let none = not_live heap.table h fact.1 pointer in
    record { slot = fact.0; no_handle = fact.1; not_full = ap live_full none; no_pointer = pointer; not_live = none }

-- the slot that is given next is one
pub front_slot-free : (s : Shape) (heap : Heap) (h : ℕ) (hs : List ℕ) → Sound s heap → heap.free_slots ≡ h ∷ hs → IsFreeSlot s heap h
front_slot-free s heap h hs sound front = free_slot s heap sound h (subst (λ xs. Contains xs h) (sym front) (Contains-here h hs))

-- the other free slots are just those that aren't live once the front one is
pub front_slot-taken : (h : ℕ) (hs all : List ℕ) (t u : HandleTable) → IsDistinct nat_eq (h ∷ hs) → ((x : ℕ) → Contains (h ∷ hs) x ↔ (Contains all x × IsFalse (is_handle t x))) → AgreeBut h t u → is_handle u h ≡ true
    → (x : ℕ) → Contains hs x ↔ (Contains all x × IsFalse (is_handle u x))
front_slot-taken h hs all t u once free agree live x = (
  (λ c. let fact = (free x).0 (Contains-later h hs x c) in
      (fact.0, ap live_handle (agree.others x (apart c)) ∙ fact.1)),
  (λ c. by_case c (eqb x h) refl),
)
  where
    apart : Contains hs x → eqb x h ≡ false
    apart c = let here : nat_eq h x ≡ false = All-contains (λ y. nat_eq h y ≡ false) hs x (All-from_recursion (λ y. nat_eq h y ≡ false) hs (IsDistinct-head nat_eq h hs once)) c in grind (arith, nat_tests)

    others : h ≡ x → IsFalse (is_handle u x) → ⊥
    others same no_handle = cc (ap (is_handle u) same, live, no_handle)

    by_case : Contains all x × IsFalse (is_handle u x) → (b : Bool) → eqb x h ≡ b → Contains hs x
    by_case c true is = absurd (others (sym (eqb-true x h is)) c.1)
    by_case c false is = elim (Contains-cons_cases h hs x ((free x).1 (c.0, sym (ap live_handle (agree.others x is)) ∙ c.1))) [
      | inl same ↦ absurd (others same c.1)
      | inr later ↦ later
    ]

module _ (s : Shape) (heap : Heap) (h : ℕ) (hs : List ℕ) (sound : Sound s heap) (front : heap.free_slots ≡ h ∷ hs) where
  -- where the new map has the slots and the size of the old one, and h is now a handle
  pub sound-slot_taken : (m : ZoneMap) (u : HandleTable) → Suits s u m → total_size m ≡ total_size heap.map → slots s m ≡ slots s heap.map → AgreeBut h heap.table u → is_handle u h ≡ true
      → Sound s (record { table = u; map = m; free_slots = drop 1 heap.free_slots })
  sound-slot_taken m u suits same_size same_slots agree live = record {
    suits = suits;
    within = subst (λ n. zone_header + n ≤ s.limit) (sym same_size) sound.within;
    growth = subst (λ n. IsTrue (is_growth s (s.limit - (zone_header + n)))) (sym same_size) sound.growth;
    slots = record {
      free = subst (λ xs. (x : ℕ) → Contains xs x ↔ (Contains (slots s m) x × IsFalse (is_handle u x))) (sym rest)
          (front_slot-taken h hs (slots s m) heap.table u once_front
          (subst (λ all. (x : ℕ) → Contains (h ∷ hs) x ↔ (Contains all x × IsFalse (is_handle heap.table x))) (sym same_slots)
          (subst (λ xs. (x : ℕ) → Contains xs x ↔ (Contains (slots s heap.map) x × IsFalse (is_handle heap.table x))) front sound.slots.free)) agree live);
      once = subst (IsDistinct nat_eq) (sym rest) (IsDistinct-tail nat_eq h hs once_front);
    };
  }
    where
      rest : drop 1 heap.free_slots ≡ hs
      rest = ap (drop 1) front

      once_front : IsDistinct nat_eq (h ∷ hs)
      once_front = subst (IsDistinct nat_eq) front sound.slots.once

  -- a new handle of n bytes takes the lowest free block that has room for them
  pub sound-placed : (n : ℕ) (m : ZoneMap) → take_lowest s (need s.heads n) (Rel h) heap.map ≡ Some m → Sound s (granted (NewBlock n) h m heap)
  sound-placed n m is =
      let at = taken-parts s (need s.heads n) (Rel h) heap.map m is in
      let slot = front_slot-free s heap h hs sound front in
      let u = with_live h (FullHandle no_flags (zeros n)) heap.table in
      let agree = with_live_agrees h (FullHandle no_flags (zeros n)) heap.table in
      let has = live_at-with_live_same h (FullHandle no_flags (zeros n)) heap.table in
      sound-slot_taken m u
      (Suits-new_handle s n h heap.map m heap.table u at sound.suits agree slot.not_full slot.no_pointer slot.slot no_flags (zeros n) has (length-replicate n 0) (in_order-with_live h (FullHandle no_flags (zeros n)) heap.table sound.suits.coherent.in_order))
      (total_size-exchanged heap.map m (taken_exchange s (need s.heads n) (Rel h) heap.map m at))
      (slots-same s heap.map m (addresses-untaken s (need s.heads n) (Rel h) heap.map m at is_master refl refl))
      agree (ap live_handle has)

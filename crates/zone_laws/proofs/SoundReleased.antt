-- A sound heap stays sound where a handle or a pointer is disposed of, and where a handle becomes empty.
use Rattle.std.proofs.Common.{◌≡◌, ℕ, ◌+◌, ◌-◌, ◌≤◌, ◌↔◌, true, false, eqb, List, [], ◌∷◌, refl, ap, sym, ◌∙◌, IsTrue, IsFalse, Contains, subst, inl, inr, nat_eq}
use Rattle.std.specs.List.{IsDistinct, AllByRecursion}
use Rattle.std.proofs.lemmas.Map.Keys.{IsDistinct-cons}
use Rattle.std.proofs.lemmas.Bool.{eqb-true}
use Rattle.mac_base.specs.HeadKind.{Shape, zone_header}
use Rattle.mac_base.specs.ZoneMap.{total_size, released}
use Rattle.mac_base.specs.HandleTable.{HandleTable, EmptyHandle, live_full, live_handle, live_pointer, is_handle, is_pointer, with_live, without}
use Rattle.mac_base.specs.Suits.{Suits, slots}
use Rattle.mac_base.specs.Heap.{Heap}
use Rattle.mac_base.specs.declared.releasing.ReleasingCall.TheVariants.{DisposesHandle, DisposesPtr, Empties}
use Rattle.mac_base.specs.Releasing.{heap_released}
use Rattle.mac_base.specs.Sound.{Sound, is_growth}
use Rattle.zone_laws.proofs.Tables.{AgreeBut, live_at-with_live_same, live_at-without_same, with_live_agrees, without_agrees, in_order-with_live, in_order-without, by_number, eqb_same, pointer_no_handle}
use Rattle.zone_laws.proofs.SlotPlaces.{Contains-cons_cases, Contains-here, Contains-later}
use Rattle.zone_laws.proofs.SuitsReleased.{Suits-released, total_size-released, slots-released}

-- one more number that is none of a list's: each is still there once
pub IsDistinct-more : (x : ℕ) (xs : List ℕ) → (Contains xs x → ⊥) → IsDistinct nat_eq xs → IsDistinct nat_eq (x ∷ xs)
IsDistinct-more x xs new once = IsDistinct-cons nat_eq x xs (others xs (λ y c. c)) once
  where
    others : (ys : List ℕ) → ((y : ℕ) → Contains ys y → Contains xs y) → AllByRecursion (λ y. nat_eq x y ≡ false) ys
    others [] within = tt
    others (y ∷ ys) within = (apart (within y (Contains-here y ys)), others ys (λ z c. within z (Contains-later y ys z c)))
      where
        apart : Contains xs y → nat_eq x y ≡ false
        apart c = elim (eqb x y) as (λ b. eqb x y ≡ b → nat_eq x y ≡ false) [
          | true ↦ λ same. absurd (new (subst (λ z. Contains xs z) (sym (eqb-true x y same)) c))
          | false ↦ λ other. other
        ] refl

module _ (s : Shape) (heap : Heap) (x : ℕ) (u : HandleTable) (sound : Sound s heap) (agree : AgreeBut x heap.table u) (suits : Suits s u (released x heap.map)) where
  within_released : zone_header + total_size (released x heap.map) ≤ s.limit
  within_released = subst (λ n. zone_header + n ≤ s.limit) (sym (total_size-released x heap.map)) sound.within

  growth_released : IsTrue (is_growth s (s.limit - (zone_header + total_size (released x heap.map))))
  growth_released = subst (λ n. IsTrue (is_growth s (s.limit - (zone_header + n)))) (sym (total_size-released x heap.map)) sound.growth

  -- the free slots stay where x is a handle as before
  pub sound-released : is_handle u x ≡ is_handle heap.table x → Sound s (record { table = u; map = released x heap.map; free_slots = heap.free_slots })
  sound-released same = record {
    suits = suits;
    within = within_released;
    growth = growth_released;
    slots = record {
      free = subst (λ all. (y : ℕ) → Contains heap.free_slots y ↔ (Contains all y × IsFalse (is_handle u y))) (sym (slots-released s x heap.map))
          (λ y. ((λ c. let fact = (sound.slots.free y).0 c in (fact.0, handles y ∙ fact.1)), (λ c. (sound.slots.free y).1 (c.0, sym (handles y) ∙ c.1))));
      once = sound.slots.once;
    };
  }
    where
      handles : (y : ℕ) → is_handle u y ≡ is_handle heap.table y
      handles = by_number (λ y. is_handle u y ≡ is_handle heap.table y) x same (λ y apart. ap live_handle (agree.others y apart))

  -- and x is one more of them where it was a handle and isn't now
  pub sound-released_slot : is_handle heap.table x ≡ true → is_handle u x ≡ false → Sound s (record { table = u; map = released x heap.map; free_slots = x ∷ heap.free_slots })
  sound-released_slot was gone = record {
    suits = suits;
    within = within_released;
    growth = growth_released;
    slots = record {
      free = subst (λ all. (y : ℕ) → Contains (x ∷ heap.free_slots) y ↔ (Contains all y × IsFalse (is_handle u y))) (sym (slots-released s x heap.map))
          (by_number (λ y. Contains (x ∷ heap.free_slots) y ↔ (Contains (slots s heap.map) y × IsFalse (is_handle u y))) x
          ((λ _. (sound.suits.coherent.in_slots x was, gone)), (λ _. Contains-here x heap.free_slots))
          (λ y apart. (
            (λ c. elim (Contains-cons_cases x heap.free_slots y c) [
              | inl same ↦ absurd (differ y apart same)
              | inr later ↦ (let fact = (sound.slots.free y).0 later in (fact.0, ap live_handle (agree.others y apart) ∙ fact.1))
            ]),
            (λ c. Contains-later x heap.free_slots y ((sound.slots.free y).1 (c.0, sym (ap live_handle (agree.others y apart)) ∙ c.1))),
          )));
      once = IsDistinct-more x heap.free_slots (λ c. cc (((sound.slots.free x).0 c).1, was)) sound.slots.once;
    };
  }
    where
      differ : (y : ℕ) → eqb y x ≡ false → x ≡ y → ⊥
      differ y apart same = cc (sym (ap (eqb y) same) ∙ apart, eqb_same y)

-- a handle, empty or not, is disposed of
pub sound-disposed : (s : Shape) (heap : Heap) (h : ℕ) → Sound s heap → is_handle heap.table h ≡ true → Sound s (heap_released (DisposesHandle h) heap)
sound-disposed s heap h sound was =
    let u = without h heap.table in
    let none = live_at-without_same h heap.table in
    let agree = without_agrees h heap.table in
    sound-released_slot s heap h u sound agree
    (Suits-released s h heap.map heap.table u sound.suits agree (ap live_full none) (ap live_pointer none) (λ live. absurd (cc (sym (ap live_handle none) ∙ live))) (in_order-without h heap.table sound.suits.coherent.in_order))
    was (ap live_handle none)

-- a pointer is disposed of
pub sound-disposed_pointer : (s : Shape) (heap : Heap) (p : ℕ) → Sound s heap → is_pointer heap.table p ≡ true → Sound s (heap_released (DisposesPtr p) heap)
sound-disposed_pointer s heap p sound was =
    let u = without p heap.table in
    let none = live_at-without_same p heap.table in
    let agree = without_agrees p heap.table in
    sound-released s heap p u sound agree
    (Suits-released s p heap.map heap.table u sound.suits agree (ap live_full none) (ap live_pointer none) (λ live. absurd (cc (sym (ap live_handle none) ∙ live))) (in_order-without p heap.table sound.suits.coherent.in_order))
    (ap live_handle none ∙ sym (pointer_no_handle heap.table p was).0)

-- a handle becomes empty
pub sound-emptied : (s : Shape) (heap : Heap) (h : ℕ) → Sound s heap → is_handle heap.table h ≡ true → Sound s (heap_released (Empties h) heap)
sound-emptied s heap h sound was =
    let u = with_live h EmptyHandle heap.table in
    let has = live_at-with_live_same h EmptyHandle heap.table in
    let agree = with_live_agrees h EmptyHandle heap.table in
    sound-released s heap h u sound agree
    (Suits-released s h heap.map heap.table u sound.suits agree (ap live_full has) (ap live_pointer has) (λ _. sound.suits.coherent.in_slots h was) (in_order-with_live h EmptyHandle heap.table sound.suits.coherent.in_order))
    (ap live_handle has ∙ sym was)

-- A sound heap stays sound where the block of a handle or a pointer gets another size in place.
use Rattle.std.proofs.Common.{◌≡◌, ℕ, ◌+◌, ◌-◌, ◌≤◌, ◌↔◌, true, ◌||◌, List, [], length, take, Some, refl, ap, sym, ◌∙◌, arith, IsTrue, IsFalse, Contains, subst, length-append, length-take}
use Rattle.std.proofs.lemmas.List.{length-replicate}
use Rattle.mac_base.specs.HeadKind.{Shape, need, zone_header}
use Rattle.mac_base.specs.ZoneMap.{ZoneMap, is_master, address_after}
use Rattle.mac_base.specs.HandleTable.{live_at, live_bytes, live_full, live_handle, live_pointer, is_full, is_handle, is_pointer, bytes_of, with_live, with_bytes, refilled, resized, zeros}
use Rattle.mac_base.specs.declared.request.Request.TheVariants.{Resize}
use Rattle.mac_base.specs.Serve.{resized_in_place}
use Rattle.mac_base.specs.Heap.{Heap, granted}
use Rattle.mac_base.specs.Sound.{Sound, is_growth}
use Rattle.zone_laws.proofs.Tables.{live_at-with_live_same, with_live_agrees, in_order-with_live, by_number}
use Rattle.zone_laws.proofs.SuitsTaken.{slots-same}
use Rattle.zone_laws.proofs.Resized.{resized_in_place-at}
use Rattle.zone_laws.proofs.SuitsResized.{Suits-resized, total_size-resized, addresses_from-resized}
use Rattle.zone_laws.proofs.SoundWritten.{refilled_block}

-- the first n bytes with zeros after them are n bytes
pub length-resized : (n : ℕ) (bytes : List ℕ) → length (resized n bytes) ≡ n
length-resized n bytes = length-append (take n bytes) (zeros (n - length bytes)) ∙ ap (λ k. length (take n bytes) + k) (length-replicate (n - length bytes) 0) ∙ omega (arith, length-take n bytes)

module _ (s : Shape) (heap : Heap) (n x : ℕ) (m : ZoneMap) (sound : Sound s heap) (block : (is_full heap.table x || is_pointer heap.table x) ≡ true) (is : resized_in_place s (need s.heads n) x heap.map ≡ Some m) where
  -- x gets n bytes, whatever they are, in a block that has not moved
  pub sound-resized_with : (bytes : List ℕ) → length bytes ≡ n → Sound s (record { table = with_bytes x bytes heap.table; map = m; free_slots = heap.free_slots })
  sound-resized_with bytes long =
      let r = resized_in_place-at s (need s.heads n) x heap.map m sound.suits.apart is in
      let l = refilled bytes (live_at heap.table x) in
      let u = with_live x l heap.table in
      let has = live_at-with_live_same x l heap.table in
      let agree = with_live_agrees x l heap.table in
      let same = refilled_block bytes (live_at heap.table x) block in
      let same_size = total_size-resized s (need s.heads n) x heap.map m r in
      let same_slots = slots-same s heap.map m (addresses_from-resized s (need s.heads n) x heap.map m r (address_after s []) is_master refl) in
      let handles : (y : ℕ) → is_handle u y ≡ is_handle heap.table y = by_number (λ y. is_handle u y ≡ is_handle heap.table y) x (ap live_handle has ∙ same.handle) (λ y apart. ap live_handle (agree.others y apart)) in
      record {
        suits = Suits-resized s n x heap.map m heap.table u r sound.suits agree block
            (by_number (λ y. is_full u y ≡ is_full heap.table y) x (ap live_full has ∙ same.full) (λ y apart. ap live_full (agree.others y apart)))
            (by_number (λ y. is_pointer u y ≡ is_pointer heap.table y) x (ap live_pointer has ∙ same.pointer) (λ y apart. ap live_pointer (agree.others y apart)))
            handles (ap (λ o. length (live_bytes o)) has ∙ ap length same.holds ∙ long) (in_order-with_live x l heap.table sound.suits.coherent.in_order);
        within = subst (λ n. zone_header + n ≤ s.limit) (sym same_size) sound.within;
        growth = subst (λ n. IsTrue (is_growth s (s.limit - (zone_header + n)))) (sym same_size) sound.growth;
        slots = record {
          free = subst (λ all. (y : ℕ) → Contains heap.free_slots y ↔ (Contains all y × IsFalse (is_handle u y))) (sym same_slots)
              (λ y. ((λ c. let fact = (sound.slots.free y).0 c in (fact.0, handles y ∙ fact.1)), (λ c. (sound.slots.free y).1 (c.0, sym (handles y) ∙ c.1))));
          once = sound.slots.once;
        };
      }

  -- x gets n bytes: the first of those that it has, with zeros after them
  pub sound-resized : (g : ℕ) → Sound s (granted (Resize x n) g m heap)
  sound-resized g = sound-resized_with (resized n (bytes_of heap.table x)) (length-resized n (bytes_of heap.table x))

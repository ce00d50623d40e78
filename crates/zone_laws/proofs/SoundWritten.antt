-- A sound heap stays sound where only the table changes: bytes over as many bytes, other flags, an empty handle.
use Rattle.std.proofs.Common.{arith, ◌≡◌, ℕ, true, false, ◌||◌, cond, List, [], ◌∷◌, length, Some, None, Option, refl, ap, sym, ◌∙◌, IsTrue, Contains}
use Rattle.std.specs.List.{list_all}
use Rattle.std.specs.Ordering.{nat_cmp}
use Rattle.std.specs.FinMap.{is_sorted}
use Rattle.std.proofs.lemmas.Bool.{and_parts, and_from}
use Rattle.mac_base.specs.declared.block.Flags.{Flags}
use Rattle.mac_base.specs.declared.block.Kind.{Kind}
use Rattle.mac_base.specs.HeadKind.{Shape}
use Rattle.mac_base.specs.ZoneMap.{ZoneMap, is_free}
use Rattle.mac_base.specs.HandleTable.{HandleTable, Live, EmptyHandle, FullHandle, Pointer, live_at, live_bytes, live_full, live_handle, live_pointer, is_full, is_handle, is_pointer, bytes_of, with_live, with_bytes, with_flags, refilled}
use Rattle.mac_base.specs.Suits.{Suits, has_length, has_owners_length, wanted_length, slots}
use Rattle.mac_base.specs.declared.request.Request.TheVariants.{NewEmpty}
use Rattle.mac_base.specs.Heap.{Heap, granted, with_table}
use Rattle.mac_base.specs.Sound.{Sound}
use Rattle.zone_laws.proofs.Tables.{live_at-with_live_same, with_live_agrees, in_order-with_live, by_number}
use Rattle.zone_laws.proofs.SoundPlaced.{front_slot-free, sound-slot_taken}

-- two tables have the same full handles and pointers, with as many bytes each
pub record SameShape (old new : HandleTable) : Type 0 where
  pub full : (y : ℕ) → is_full new y ≡ is_full old y
  pub pointer : (y : ℕ) → is_pointer new y ≡ is_pointer old y
  pub long : (y : ℕ) → length (bytes_of new y) ≡ length (bytes_of old y)

wanted_length-same : (t u : HandleTable) → SameShape t u → (kind : Kind) → wanted_length u kind ≡ wanted_length t kind
wanted_length-same t u same v3 = grind arith

lengths-same : (s : Shape) (t u : HandleTable) → SameShape t u → (m : ZoneMap) → IsTrue (list_all (has_owners_length s t) m) → IsTrue (list_all (has_owners_length s u) m)
lengths-same s t u same [] h = refl
lengths-same s t u same (e ∷ es) h =
    let hs = and_parts (has_owners_length s t e) (list_all (has_owners_length s t) es) h in
    and_from (has_owners_length s u e) _ (ap (λ n. is_free e.kind || has_length s e.size n) (wanted_length-same t u same e.kind) ∙ hs.0) (lengths-same s t u same es hs.1)

-- the map suits such a table too
pub Suits-same_shape : (s : Shape) (t u : HandleTable) (m : ZoneMap) → Suits s t m → SameShape t u → ((h : ℕ) → IsTrue (is_handle u h) → Contains (slots s m) h) → IsTrue (is_sorted nat_cmp u.live) → Suits s u m
Suits-same_shape s t u m suits same slot rise = record {
  apart = suits.apart;
  sizes = suits.sizes;
  lengths = lengths-same s t u same m suits.lengths;
  coherent = record {
    handles = λ h. suits.coherent.handles h ∙ sym (ap (λ b. cond b 1 0) (same.full h));
    pointers = λ p. suits.coherent.pointers p ∙ sym (ap (λ b. cond b (p ∷ []) []) (same.pointer p));
    in_slots = slot;
    in_order = rise;
  };
}

-- and the heap with such a table is sound, where the same are handles
pub sound-same_shape : (s : Shape) (heap : Heap) (u : HandleTable) → Sound s heap → SameShape heap.table u → ((h : ℕ) → is_handle u h ≡ is_handle heap.table h) → IsTrue (is_sorted nat_cmp u.live) → Sound s (with_table u heap)
sound-same_shape s heap u sound same handles rise = record {
  suits = Suits-same_shape s heap.table u heap.map sound.suits same (λ h live. sound.suits.coherent.in_slots h (sym (handles h) ∙ live)) rise;
  within = sound.within;
  growth = sound.growth;
  slots = record {
    free = λ x. ((λ c. let fact = (sound.slots.free x).0 c in (fact.0, handles x ∙ fact.1)), (λ c. (sound.slots.free x).1 (c.0, sym (handles x) ∙ c.1)));
    once = sound.slots.once;
  };
}

-- x changes to what is as it was but for its bytes or its flags
module _ (s : Shape) (heap : Heap) (x : ℕ) (l : Live) (sound : Sound s heap) (full : live_full (Some l) ≡ is_full heap.table x) (pointer : live_pointer (Some l) ≡ is_pointer heap.table x)
    (handle : live_handle (Some l) ≡ is_handle heap.table x) (long : length (live_bytes (Some l)) ≡ length (bytes_of heap.table x)) where
  sound-changed : Sound s (with_table (with_live x l heap.table) heap)
  sound-changed =
      let u = with_live x l heap.table in
      let has = live_at-with_live_same x l heap.table in
      let agree = with_live_agrees x l heap.table in
      sound-same_shape s heap u sound
      (record {
        full = by_number (λ y. is_full u y ≡ is_full heap.table y) x (ap live_full has ∙ full) (λ y apart. ap live_full (agree.others y apart));
        pointer = by_number (λ y. is_pointer u y ≡ is_pointer heap.table y) x (ap live_pointer has ∙ pointer) (λ y apart. ap live_pointer (agree.others y apart));
        long = by_number (λ y. length (bytes_of u y) ≡ length (bytes_of heap.table y)) x (ap (λ o. length (live_bytes o)) has ∙ long) (λ y apart. ap (λ o. length (live_bytes o)) (agree.others y apart));
      })
      (by_number (λ y. is_handle u y ≡ is_handle heap.table y) x (ap live_handle has ∙ handle) (λ y apart. ap live_handle (agree.others y apart)))
      (in_order-with_live x l heap.table sound.suits.coherent.in_order)

-- what has a block keeps what it is when its bytes change
pub record Refilled (bytes : List ℕ) (o : Option Live) : Type 0 where
  pub full : live_full (Some (refilled bytes o)) ≡ live_full o
  pub pointer : live_pointer (Some (refilled bytes o)) ≡ live_pointer o
  pub handle : live_handle (Some (refilled bytes o)) ≡ live_handle o
  pub holds : live_bytes (Some (refilled bytes o)) ≡ bytes

-- a handle with a block, or a pointer, does
pub refilled_block : (bytes : List ℕ) (o : Option Live) → (live_full o || live_pointer o) ≡ true → Refilled bytes o
refilled_block bytes None h = absurd (cc h)
refilled_block bytes (Some EmptyHandle) h = absurd (cc h)
refilled_block bytes (Some (FullHandle flags old)) h = record { full = refl; pointer = refl; handle = refl; holds = refl }
refilled_block bytes (Some (Pointer old)) h = record { full = refl; pointer = refl; handle = refl; holds = refl }

-- as many bytes are written into the block of a handle or of a pointer
pub sound-written : (s : Shape) (heap : Heap) (x : ℕ) (bytes : List ℕ) → Sound s heap → (is_full heap.table x || is_pointer heap.table x) ≡ true → length bytes ≡ length (bytes_of heap.table x)
    → Sound s (with_table (with_bytes x bytes heap.table) heap)
sound-written s heap x bytes sound block long =
    let same = refilled_block bytes (live_at heap.table x) block in
    sound-changed s heap x (refilled bytes (live_at heap.table x)) sound same.full same.pointer same.handle (ap length same.holds ∙ long)

record Flagged (flags : Flags) (o : Option Live) : Type 0 where
  pointer : false ≡ live_pointer o
  handle : true ≡ live_handle o

flagged_full : (flags : Flags) (o : Option Live) → live_full o ≡ true → Flagged flags o
flagged_full flags None h = absurd (cc h)
flagged_full flags (Some EmptyHandle) h = absurd (cc h)
flagged_full flags (Some (FullHandle old bytes)) h = record { pointer = refl; handle = refl }
flagged_full flags (Some (Pointer bytes)) h = absurd (cc h)

-- a handle that isn't empty gets other flags
pub sound-flags : (s : Shape) (heap : Heap) (h : ℕ) (flags : Flags) → Sound s heap → is_full heap.table h ≡ true → Sound s (with_table (with_flags h flags heap.table) heap)
sound-flags s heap h flags sound full =
    let same = flagged_full flags (live_at heap.table h) full in
    sound-changed s heap h (FullHandle flags (bytes_of heap.table h)) sound (sym full) same.pointer same.handle refl

-- a new empty handle takes the front slot
pub sound-new_empty : (s : Shape) (heap : Heap) (h : ℕ) (hs : List ℕ) → Sound s heap → heap.free_slots ≡ h ∷ hs → Sound s (granted NewEmpty h heap.map heap)
sound-new_empty s heap h hs sound front =
    let u = with_live h EmptyHandle heap.table in
    let has = live_at-with_live_same h EmptyHandle heap.table in
    let agree = with_live_agrees h EmptyHandle heap.table in
    let slot = front_slot-free s heap h hs sound front in
    sound-slot_taken s heap h hs sound front heap.map u
    (Suits-same_shape s heap.table u heap.map sound.suits (record {
      full = by_number (λ y. is_full u y ≡ is_full heap.table y) h (ap live_full has ∙ sym slot.not_full) (λ y apart. ap live_full (agree.others y apart));
      pointer = by_number (λ y. is_pointer u y ≡ is_pointer heap.table y) h (ap live_pointer has ∙ sym slot.no_pointer) (λ y apart. ap live_pointer (agree.others y apart));
      long = by_number (λ y. length (bytes_of u y) ≡ length (bytes_of heap.table y)) h (ap (λ o. length (live_bytes o)) (has) ∙ sym (ap (λ o. length (live_bytes o)) slot.not_live)) (λ y apart. ap (λ o. length (live_bytes o)) (agree.others y apart));
    }) (by_number (λ y. IsTrue (is_handle u y) → Contains (slots s heap.map) y) h (λ _. slot.slot) (λ y apart live. sound.suits.coherent.in_slots y (sym (ap live_handle (agree.others y apart)) ∙ live)))
    (in_order-with_live h EmptyHandle heap.table sound.suits.coherent.in_order))
    refl refl agree (ap live_handle has)

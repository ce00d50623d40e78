-- The changes of a heap keep what is lent.
use Rattle.std.proofs.Common.{arith, ◌≡◌, ℕ, Bool, true, false, not, eqb, List, [], ◌∷◌, length, Some, refl, ap, sym, ◌∙◌, subst}
use Rattle.std.specs.Prelude.{◌||◌, ◌&&◌, ◌==◌, filter}
use Rattle.std.specs.List.{list_any}
use Rattle.std.proofs.lemmas.Bool.{not-true, and_parts, not_from_false, and_from, eqb-true}
use Rattle.mac_base.specs.declared.block.Flags.{Flags}
use Rattle.mac_base.specs.declared.block.Kind.TheVariants.{Ptr, Rel}
use Rattle.mac_base.specs.HeadKind.{Shape, need}
use Rattle.mac_base.specs.ZoneMap.{ZoneMap, is_named, address_after}
use Rattle.mac_base.specs.HandleTable.{EmptyHandle, FullHandle, Pointer, live_at, live_bytes, live_flags, live_full, live_pointer, bytes_of, is_lent, is_locked, is_pointer, no_flags, refilled, resized, with_bytes, with_flags, zeros}
use Rattle.mac_base.specs.Heap.{Heap, granted, with_table}
use Rattle.mac_base.specs.Loans.{LoansAreFixed, lent_out, owners, returned, with_lent}
use Rattle.mac_base.specs.declared.releasing.ReleasingCall.{ReleasingCall}
use Rattle.mac_base.specs.declared.releasing.ReleasingCall.TheVariants.{DisposesHandle, DisposesPtr, Empties}
use Rattle.mac_base.specs.Releasing.{heap_released, operand_of}
use Rattle.mac_base.specs.declared.request.Request.TheVariants.{NewBlock, NewEmpty, NewPointer, Resize}
use Rattle.mac_base.specs.Serve.{take_lowest, lowest_contents, resized_in_place}
use Rattle.mac_base.specs.Sound.{Sound}
use Rattle.zone_laws.proofs.Lent.{KeepsLent, keeps-others, no_block-here, lent-block, block-owner, lent-filtered, other_named}
use Rattle.zone_laws.proofs.Resized.{resized_in_place-at}
use Rattle.zone_laws.proofs.SoundPlaced.{front_slot-free}
use Rattle.zone_laws.proofs.SoundPointer.{new_pointer-not_live}
use Rattle.zone_laws.proofs.SoundWritten.{sound-same_shape, sound-written}
use Rattle.zone_laws.proofs.SuitsReleased.{addresses-released}
use Rattle.zone_laws.proofs.SuitsResized.{addresses_from-resized}
use Rattle.zone_laws.proofs.SuitsTaken.{addresses-untaken}
use Rattle.zone_laws.proofs.Tables.{by_number, eqb_swap, live_at-with_live_same, with_live_agrees, without_agrees}
use Rattle.zone_laws.proofs.PlacedParts.{taken-parts}

-- a new handle of n bytes takes the lowest free block that has room for them
pub keeps-new_handle : (s : Shape) (heap : Heap) (h : ℕ) (hs : List ℕ) (n : ℕ) (m : ZoneMap) → Sound s heap → LoansAreFixed heap → heap.free_slots ≡ h ∷ hs → take_lowest s (need s.heads n) (Rel h) heap.map ≡ Some m
    → KeepsLent s heap (granted (NewBlock n) h m heap)
keeps-new_handle s heap h hs n m sound fixed front is =
    let slot = front_slot-free s heap h hs sound front in
    keeps-others s heap (granted (NewBlock n) h m heap) h (no_block-here heap h fixed slot.not_full slot.no_pointer) (with_live_agrees h (FullHandle no_flags (zeros n)) heap.table) refl
    (λ y apart. addresses-untaken s (need s.heads n) (Rel h) heap.map m (taken-parts s (need s.heads n) (Rel h) heap.map m is) (is_named y) refl (eqb_swap h y ∙ apart))

-- a new empty handle takes the front slot
pub keeps-new_empty : (s : Shape) (heap : Heap) (h : ℕ) (hs : List ℕ) → Sound s heap → LoansAreFixed heap → heap.free_slots ≡ h ∷ hs → KeepsLent s heap (granted NewEmpty h heap.map heap)
keeps-new_empty s heap h hs sound fixed front =
    let slot = front_slot-free s heap h hs sound front in
    keeps-others s heap (granted NewEmpty h heap.map heap) h (no_block-here heap h fixed slot.not_full slot.no_pointer) (with_live_agrees h EmptyHandle heap.table) refl (λ y apart. refl)

-- a new pointer to n bytes takes the lowest free block that has room for them
pub keeps-new_pointer : (s : Shape) (heap : Heap) (n p : ℕ) (m : ZoneMap) → Sound s heap → LoansAreFixed heap → take_lowest s (need s.heads n) (Ptr p) heap.map ≡ Some m → p ≡ lowest_contents s (need s.heads n) heap.map
    → KeepsLent s heap (granted (NewPointer n) p m heap)
keeps-new_pointer s heap n p m sound fixed is at =
    let none = new_pointer-not_live s heap n p m sound is at in
    keeps-others s heap (granted (NewPointer n) p m heap) p (no_block-here heap p fixed (ap live_full none) (ap live_pointer none)) (with_live_agrees p (Pointer (zeros n)) heap.table) refl
    (λ y apart. addresses-untaken s (need s.heads n) (Ptr p) heap.map m (taken-parts s (need s.heads n) (Ptr p) heap.map m is) (is_named y) refl (eqb_swap p y ∙ apart))

-- the block of a number that isn't lent is free, and joined to its free neighbours
pub keeps-released : (s : Shape) (heap : Heap) (c : ReleasingCall) → is_lent heap.table (operand_of c) ≡ false → KeepsLent s heap (heap_released c heap)
keeps-released s heap (DisposesHandle h) here =
    keeps-others s heap (heap_released (DisposesHandle h) heap) h here (without_agrees h heap.table) refl (λ y apart. addresses-released s h (is_named y) heap.map refl (other_named h y apart))
keeps-released s heap (DisposesPtr p) here =
    keeps-others s heap (heap_released (DisposesPtr p) heap) p here (without_agrees p heap.table) refl (λ y apart. addresses-released s p (is_named y) heap.map refl (other_named p y apart))
keeps-released s heap (Empties h) here =
    keeps-others s heap (heap_released (Empties h) heap) h here (with_live_agrees h EmptyHandle heap.table) refl (λ y apart. addresses-released s h (is_named y) heap.map refl (other_named h y apart))

-- the block of one that isn't lent gets another size where it is
pub keeps-resized : (s : Shape) (heap : Heap) (x n g : ℕ) (m : ZoneMap) → Sound s heap → is_lent heap.table x ≡ false → resized_in_place s (need s.heads n) x heap.map ≡ Some m → KeepsLent s heap (granted (Resize x n) g m heap)
keeps-resized s heap x n g m sound here is =
    keeps-others s heap (granted (Resize x n) g m heap) x here (with_live_agrees x (refilled (resized n (bytes_of heap.table x)) (live_at heap.table x)) heap.table) refl
    (λ y apart. addresses_from-resized s (need s.heads n) x heap.map m (resized_in_place-at s (need s.heads n) x heap.map m sound.suits.apart is) (address_after s []) (is_named y) refl)

-- bytes of one that isn't lent are written
pub keeps-written : (s : Shape) (heap : Heap) (x : ℕ) (bytes : List ℕ) → is_lent heap.table x ≡ false → KeepsLent s heap (with_table (with_bytes x bytes heap.table) heap)
keeps-written s heap x bytes here =
    keeps-others s heap (with_table (with_bytes x bytes heap.table) heap) x here (with_live_agrees x (refilled bytes (live_at heap.table x)) heap.table) refl (λ y apart. refl)

-- a handle gets other flags, and stays locked if it is lent
pub keeps-flags : (s : Shape) (heap : Heap) (h : ℕ) (flags : Flags) → (flags.lock || not (is_lent heap.table h)) ≡ true → KeepsLent s heap (with_table (with_flags h flags heap.table) heap)
keeps-flags s heap h flags locked =
    let l = FullHandle flags (bytes_of heap.table h) in
    let u = with_flags h flags heap.table in
    let has = live_at-with_live_same h l heap.table in
    let agree = with_live_agrees h l heap.table in
    record {
      lent = refl;
      contents = λ x lent. refl;
      long = λ x lent. by_number (λ y. length (bytes_of u y) ≡ length (bytes_of heap.table y)) h (ap (λ o. length (live_bytes o)) has) (λ y apart. ap (λ o. length (live_bytes o)) (agree.others y apart)) x;
      fixed = by_number (λ y. is_lent heap.table y ≡ true → (is_pointer heap.table y || is_locked heap.table y) ≡ true → (is_pointer u y || is_locked u y) ≡ true) h
          (λ lent _. ap (λ o. live_pointer o || (live_flags o).lock) has ∙ still flags.lock (is_lent heap.table h) locked lent)
          (λ y apart lent fixed. ap (λ o. live_pointer o || (live_flags o).lock) (agree.others y apart) ∙ fixed);
    }
  where
    still : (lock lent : Bool) → (lock || not lent) ≡ true → lent ≡ true → lock ≡ true
    still true lent h is = refl
    still false true h is = absurd (cc h)
    still false false h is = absurd (cc is)

-- what is lent once x is: x, and what was lent, where these have blocks
is_lent-lent_out : (x : ℕ) (heap : Heap) (y : ℕ) → is_lent (lent_out x heap).table y ≡ ((y == x || is_lent heap.table y) && list_any (λ z. z == y) (owners heap.map))
is_lent-lent_out x heap y = lent-filtered (λ z. z == x || is_lent heap.table z) y (owners heap.map)

-- so what was lent still is
pub lent_out-lent : (s : Shape) (heap : Heap) (x y : ℕ) → Sound s heap → LoansAreFixed heap → is_lent heap.table y ≡ true → is_lent (lent_out x heap).table y ≡ true
lent_out-lent s heap x y sound fixed lent = grind (arith, block-owner, is_lent-lent_out, lent-block)

-- and each of these is fixed, as x is
pub lent_out-fixed : (heap : Heap) (x : ℕ) → LoansAreFixed heap → (is_pointer heap.table x || is_locked heap.table x) ≡ true → LoansAreFixed (lent_out x heap)
lent_out-fixed heap x fixed here y lent = by_test (y == x) refl (sym (is_lent-lent_out x heap y) ∙ lent)
  where
    by_test : (b : Bool) → (y == x) ≡ b → ((b || is_lent heap.table y) && list_any (λ z. z == y) (owners heap.map)) ≡ true → (is_pointer heap.table y || is_locked heap.table y) ≡ true
    by_test true is h = subst (λ v. (is_pointer heap.table v || is_locked heap.table v) ≡ true) (sym (eqb-true y x is)) here
    by_test false is h = fixed y (and_parts (is_lent heap.table y) (list_any (λ z. z == y) (owners heap.map)) h).0

-- the heap in which other numbers are lent is as sound
pub sound-lent : (s : Shape) (heap : Heap) (xs : List ℕ) → Sound s heap → Sound s (with_table (with_lent xs heap.table) heap)
sound-lent s heap xs sound = sound-same_shape s heap (with_lent xs heap.table) sound (record { full = λ y. refl; pointer = λ y. refl; long = λ y. refl }) (λ y. refl) sound.suits.coherent.in_order

-- what is lent once x came back: what was, but for x
is_lent-returned : (x : ℕ) (bytes : List ℕ) (heap : Heap) (y : ℕ) → is_lent (returned x bytes heap).table y ≡ (not (y == x) && is_lent heap.table y)
is_lent-returned x bytes heap y = lent-filtered (λ z. not (z == x)) y heap.table.lent

-- so another that was lent still is
pub returned-lent : (x : ℕ) (bytes : List ℕ) (heap : Heap) (y : ℕ) → eqb y x ≡ false → is_lent heap.table y ≡ true → is_lent (returned x bytes heap).table y ≡ true
returned-lent x bytes heap y apart lent = is_lent-returned x bytes heap y ∙ and_from (not (y == x)) (is_lent heap.table y) (not_from_false (y == x) apart) lent

-- with its own bytes
pub returned-bytes : (x : ℕ) (bytes : List ℕ) (heap : Heap) (y : ℕ) → eqb y x ≡ false → bytes_of (returned x bytes heap).table y ≡ bytes_of heap.table y
returned-bytes x bytes heap y apart = ap live_bytes ((with_live_agrees x (refilled bytes (live_at heap.table x)) heap.table).others y apart)

-- and each of these is fixed as before
pub returned-fixed : (x : ℕ) (bytes : List ℕ) (heap : Heap) → LoansAreFixed heap → LoansAreFixed (returned x bytes heap)
returned-fixed x bytes heap fixed y lent =
    let was = and_parts (not (y == x)) (is_lent heap.table y) (sym (is_lent-returned x bytes heap y) ∙ lent) in
    ap (λ o. live_pointer o || (live_flags o).lock) ((with_live_agrees x (refilled bytes (live_at heap.table x)) heap.table).others y (not-true (y == x) was.0)) ∙ fixed y was.1

-- a block has as many bytes when it comes back
pub sound-returned : (s : Shape) (heap : Heap) (x : ℕ) (bytes : List ℕ) → Sound s heap → LoansAreFixed heap → is_lent heap.table x ≡ true → length bytes ≡ length (bytes_of heap.table x) → Sound s (returned x bytes heap)
sound-returned s heap x bytes sound fixed lent long =
    sound-lent s (with_table (with_bytes x bytes heap.table) heap) (filter (λ y. not (y == x)) heap.table.lent) (sound-written s heap x bytes sound (lent-block heap x fixed lent) long)

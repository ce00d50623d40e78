-- A handle that becomes empty, or is so already.
use Rattle.std.proofs.Common.{◌≡◌, ℕ, ◌+◌, Bool, true, false, cond, eqb, List, [], ◌∷◌, length, Some, None, Option, refl, ap, sym, ◌∙◌, arith, subst, IsTrue}
use Rattle.std.specs.Ordering.{nat_cmp}
use Rattle.std.specs.declared.cmp.Ordering.TheVariants.{Equal}
use Rattle.std.specs.Cmp.{nat_cmp_total}
use Rattle.std.specs.FinMap.Entries.{is_sorted, same_entries}
use Rattle.std.proofs.lemmas.Bool.Decides.{nat_tests}
use Rattle.std.proofs.lemmas.Bool.{eqb-true}
use Rattle.mac_base.specs.HeadKind.{Shape}
use Rattle.mac_base.specs.ZoneMap.{ZoneMap, is_named, joined, released, sizes}
use Rattle.mac_base.specs.HandleTable.{HandleTable, Live, EmptyHandle, FullHandle, Pointer, emptied, live_at, live_flags, live_full, live_handle, live_pointer, is_full, is_handle, is_lent, is_locked, is_pointer, with_live, without}
use Rattle.mac_base.specs.Suits.{Suits}
use Rattle.mac_base.specs.Heap.{Heap, with_emptied}
use Rattle.mac_base.specs.declared.releasing.ReleasingCall.TheVariants.{DisposesHandle, Empties}
use Rattle.mac_base.specs.Releasing.{heap_released}
use Rattle.mac_base.specs.Sound.{Sound}
use Rattle.mac_base.specs.ZoneState.{ZoneState, with_heap}
use Rattle.zone_laws.proofs.JoinedBlocks.{joined-apart}
use Rattle.zone_laws.proofs.Lent.{KeepsLent, keeps-others}
use Rattle.zone_laws.proofs.ReleasedBlocks.{marked-none}
use Rattle.zone_laws.proofs.SoundReleased.{sound-disposed}
use Rattle.zone_laws.proofs.SuitsNamed.{length-sizes_of}
use Rattle.zone_laws.proofs.Tables.{by_number, handle_no_pointer, live_at-with_live, live_at-with_live_same, in_order-with_live, with_live_agrees, without_agrees, tested}
use Rattle.zone_laws.proofs.FixesSame.{FixesSame}
use Rattle.linked_zone.specs.Changes.{given_back}
use Rattle.zone_heap.proofs.Twice.{without-with_live}

-- numbers that tie are one
tied : (x y : ℕ) → nat_cmp x y ≡ Equal → x ≡ y
tied x y h = grind (arith, nat_tests)

-- the zone in which a handle is empty, and its block free
abbrev pub emptied_zone : ℕ → ZoneState → ZoneState
emptied_zone h z = with_heap (with_emptied z.heap h) z

-- the same numbers stay once an unlocked handle is empty
pub fixes-emptied : (t : HandleTable) (h : ℕ) → is_handle t h ≡ true → is_locked t h ≡ false → FixesSame t (emptied h t)
fixes-emptied t h handle unlocked =
    let has = live_at-with_live_same h EmptyHandle t in
    let agree = with_live_agrees h EmptyHandle t in
    record {
      locked = by_number (λ x. is_locked (emptied h t) x ≡ is_locked t x) h (ap (λ o. (live_flags o).lock) has ∙ sym unlocked) (λ x apart. ap (λ o. (live_flags o).lock) (agree.others x apart));
      pointer = by_number (λ x. is_pointer (emptied h t) x ≡ is_pointer t x) h (ap live_pointer has ∙ sym (handle_no_pointer t h handle)) (λ x apart. ap live_pointer (agree.others x apart));
    }

-- what x is already may be said again
pub with_live-again : (x : ℕ) (l : Live) (t : HandleTable) → IsTrue (is_sorted nat_cmp t.live) → live_at t x ≡ Some l → with_live x l t ≡ t
with_live-again x l t rise is =
    let new = with_live x l t in
    ap (λ live. record { live = live; lent = t.lent })
    (same_entries nat_cmp nat_cmp_total tied new.live t.live (tested _ (in_order-with_live x l t rise)) (tested _ rise) (λ y. live_at-with_live x l t y ∙ by_test y (eqb y x) refl))
  where
    by_test : (y : ℕ) (b : Bool) → eqb y x ≡ b → cond b (Some l) (live_at t y) ≡ live_at t y
    by_test y true h = sym is ∙ ap (live_at t) (sym (eqb-true y x h))
    by_test y false h = refl

-- a handle without a block is empty
pub handle_empty : (t : HandleTable) (x : ℕ) → is_handle t x ≡ true → is_full t x ≡ false → live_at t x ≡ Some EmptyHandle
handle_empty t x = by_case (live_at t x)
  where
    by_case : (o : Option Live) → live_handle o ≡ true → live_full o ≡ false → o ≡ Some EmptyHandle
    by_case None live none = absurd (cc live)
    by_case (Some EmptyHandle) live none = refl
    by_case (Some (FullHandle flags bytes)) live none = absurd (cc none)
    by_case (Some (Pointer bytes)) live none = absurd (cc live)

-- without a block there is none to release
pub released-none : (s : Shape) (t : HandleTable) (m : ZoneMap) (x : ℕ) → Suits s t m → is_full t x ≡ false → is_pointer t x ≡ false → released x m ≡ m
released-none s t m x suits full pointer =
    let none = length-sizes_of s t m x suits ∙ ap (λ b. cond b 1 0 + cond (is_pointer t x) 1 0) full ∙ ap (λ b. 0 + cond b 1 0) pointer in
    ap (λ j. joined j) (marked-none x m (no_size (sizes (is_named x) m) none)) ∙ joined-apart m suits.apart
  where
    no_size : (ns : List ℕ) → length ns ≡ 0 → ns ≡ []
    no_size [] h = refl
    no_size (n ∷ ns) h = absurd (omega arith)

-- to empty an empty handle is to do nothing
pub emptied-again : (s : Shape) (heap : Heap) (h : ℕ) → Sound s heap → is_handle heap.table h ≡ true → is_full heap.table h ≡ false → heap ≡ heap_released (Empties h) heap
emptied-again s heap h sound live none =
    let is = handle_empty heap.table h live none in
    sym (ap (λ t. record heap { table = t; map = released h heap.map }) (with_live-again h EmptyHandle heap.table sound.suits.coherent.in_order is)
    ∙ ap (λ m. record heap { map = m }) (released-none s heap.table heap.map h sound.suits (ap live_full is) (ap live_pointer is)))

-- and then its slot is the next to be given
pub disposed : (heap : Heap) (z : ZoneState) (h : ℕ) → z.heap ≡ heap_released (Empties h) heap → (given_back h z).heap ≡ heap_released (DisposesHandle h) heap
disposed heap z h is =
    let given : Heap → Heap = λ new. record { table = without h new.table; map = new.map; free_slots = h ∷ new.free_slots } in
    ap given is ∙ ap (λ (t : HandleTable). let new : Heap = record { table = t; map = released h heap.map; free_slots = h ∷ heap.free_slots } in new) (without-with_live h EmptyHandle heap.table)

-- the slot of an empty handle can be given back
pub given_back-sound : (z : ZoneState) (h : ℕ) → Sound z.shape z.heap → live_at z.heap.table h ≡ Some EmptyHandle → Sound z.shape (given_back h z).heap
given_back-sound z h sound is =
    subst (λ m. Sound z.shape (record { table = without h z.heap.table; map = m; free_slots = h ∷ z.heap.free_slots })) (released-none z.shape z.heap.table z.heap.map h sound.suits (ap live_full is) (ap live_pointer is))
    (sound-disposed z.shape z.heap h sound (ap live_handle is))

-- what is lent is kept then
pub given_back-keeps : (z : ZoneState) (h : ℕ) → is_lent z.heap.table h ≡ false → KeepsLent z.shape z.heap (given_back h z).heap
given_back-keeps z h here = keeps-others z.shape z.heap (given_back h z).heap h here (without_agrees h z.heap.table) refl (λ y apart. refl)

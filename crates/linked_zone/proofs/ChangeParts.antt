-- What the changes of a zone have in common: what a master pointer rests on, where slots lie, and when a zone still
-- fits.
use Rattle.std.proofs.Common.{◌≡◌, ℕ, ◌+◌, ◌≤◌, true, false, cond, eqb, List, [], ◌∷◌, length, map, flat_map, refl, ap, sym, ◌∙◌, arith, IsTrue, Contains, subst, inl, inr}
use Rattle.std.specs.Prelude.{slice_index}
use Rattle.std.specs.Ordering.{nat_cmp}
use Rattle.std.specs.FinMap.{is_sorted}
use Rattle.std.proofs.lemmas.List.Elements.{Contains-append_cases}
use Rattle.std.proofs.lemmas.Bool.{false_from_ne_true}
use Rattle.std.proofs.lemmas.List.{nil_from_length}
use Rattle.mac_base.specs.HeadKind.{Shape, zone_header, head_size, slot_count}
use Rattle.mac_base.specs.Loans.{LoansFit}
use Rattle.mac_base.specs.ZoneMap.{ZoneMap, is_master, address_after, addresses, contents_addresses, contents_of}
use Rattle.mac_base.specs.HandleTable.{HandleTable, live_at, live_full, live_handle, live_pointer, is_full, is_handle, is_pointer}
use Rattle.mac_base.specs.Suits.{is_handle_block, is_pointer_block, slots, slots_from}
use Rattle.mac_base.specs.ZoneState.{ZoneState, with_heap}
use Rattle.zone_laws.proofs.Tables.{AgreeBut, by_number, eqb_same, eqb_swap}
use Rattle.zone_laws.proofs.Owners.{none_named, none_named-from, no_map}
use Rattle.zone_laws.proofs.SlotPlaces.{slot_no_contents, Contains-none, Contains-here, Contains-later, slots_from-bounds, addresses_from-above}
use Rattle.zone_laws.proofs.SlotOwners.{pointer_not_master}
use Rattle.linked_zone.specs.Owned.{slot_of, next_free, slot_of_live}
use Rattle.linked_zone.specs.Fit.{Fits, HasRooms}
use Rattle.linked_zone.proofs.Numbered.{Contains-map}

-- two zones say the same of a slot where it has the same in both
pub same_slot : (z w : ZoneState) (x : ℕ) → w.shape.heads ≡ z.shape.heads → live_at w.heap.table x ≡ live_at z.heap.table x → contents_of w.shape x w.heap.map ≡ contents_of z.shape x z.heap.map
    → next_free w.heap.free_slots x ≡ next_free z.heap.free_slots x → slot_of w x ≡ slot_of z x
same_slot z w x heads live contents next =
    ap (λ k. slot_of_live k (live_at w.heap.table x) (contents_of w.shape x w.heap.map) (next_free w.heap.free_slots x)) heads
    ∙ ap (λ o. slot_of_live z.shape.heads o (contents_of w.shape x w.heap.map) (next_free w.heap.free_slots x)) live
    ∙ ap (λ a. slot_of_live z.shape.heads (live_at z.heap.table x) a (next_free w.heap.free_slots x)) contents
    ∙ ap (λ n. slot_of_live z.shape.heads (live_at z.heap.table x) (contents_of z.shape x z.heap.map) n) next

-- what follows another free slot than the first is what follows it among the others
pub next_free-skip : (h : ℕ) (hs : List ℕ) (x : ℕ) → eqb x h ≡ false → next_free (h ∷ hs) x ≡ next_free hs x
next_free-skip h hs x apart = ap (λ b. cond b (slice_index hs 0) (next_free hs x)) (eqb_swap h x ∙ apart)

-- and what follows the first is the first of the others
pub next_free-front : (h : ℕ) (hs : List ℕ) → next_free (h ∷ hs) h ≡ slice_index hs 0
next_free-front h hs = ap (λ b. cond b (slice_index hs 0) (next_free hs h)) (eqb_same h)

-- an element of joined lists is one of one of them
pub Contains-flat_map : (f : ℕ → List ℕ) (xs : List ℕ) (y : ℕ) → Contains (flat_map f xs) y → (x : ℕ) × Contains xs x × Contains (f x) y
Contains-flat_map f [] y c = absurd (Contains-none y c)
Contains-flat_map f (x ∷ xs) y c = elim (Contains-append_cases (f x) (flat_map f xs) y c) [
  | inl here ↦ (x, Contains-here x xs, here)
  | inr later ↦ let rest = Contains-flat_map f xs y later in (rest.0, Contains-later x xs rest.0 rest.1, rest.2)
]

-- a slot lies after the zone's header
pub slot-above : (s : Shape) (m : ZoneMap) (h : ℕ) → Contains (slots s m) h → s.base + zone_header + head_size s.heads ≤ h
slot-above s m h c =
    let found = Contains-flat_map (slots_from slot_count) (contents_addresses s is_master m) h c in
    let place = Contains-map (λ a. a + head_size s.heads) (addresses s is_master m) found.0 found.1 in
    let low = addresses_from-above (address_after s []) is_master m place.0 place.1 in
    let bounds = slots_from-bounds slot_count found.0 h found.2 in
    let same = place.2 in
    omega arith

-- no slot is a pointer
pub slot-no_pointer : (z : ZoneState) (h : ℕ) → Fits z → HasRooms z → Contains (slots z.shape z.heap.map) h → is_pointer z.heap.table h ≡ false
slot-no_pointer z h fits rooms slot = false_from_ne_true (is_pointer z.heap.table h) (λ live.
    let here = subst (λ xs. Contains xs h) (sym (fits.coherent.pointers h ∙ ap (λ b. cond b (h ∷ []) []) live)) (Contains-here h []) in
    let there = Contains-map (λ a. a + head_size z.shape.heads) (addresses z.shape (is_pointer_block h) z.heap.map) h here in
    slot_no_contents (head_size z.shape.heads) slot_count (address_after z.shape []) (is_pointer_block h) (pointer_not_master h) z.heap.map there.0 rooms there.1
    (subst (λ a. Contains (slots z.shape z.heap.map) a) (sym there.2) slot))

-- a number that is neither a handle with a block nor a pointer names no block
pub none_named-fits : (z : ZoneState) (x : ℕ) → Fits z → is_full z.heap.table x ≡ false → is_pointer z.heap.table x ≡ false → none_named x z.heap.map ≡ true
none_named-fits z x fits full pointer = none_named-from (address_after z.shape []) x z.heap.map
    (nil_from_length _ (fits.coherent.handles x ∙ ap (λ b. cond b 1 0) full))
    (no_map _ _ (fits.coherent.pointers x ∙ ap (λ b. cond b (x ∷ []) []) pointer))

-- a zone whose slots, handles and free slots stay fits where its blocks are those that its table has
pub Fits-kept : (z : ZoneState) (u : HandleTable) (m : ZoneMap) → Fits z → ((g : ℕ) → length (addresses z.shape (is_handle_block g) m) ≡ cond (is_full u g) 1 0)
    → ((p : ℕ) → contents_addresses z.shape (is_pointer_block p) m ≡ cond (is_pointer u p) (p ∷ []) []) → slots z.shape m ≡ slots z.shape z.heap.map
    → ((x : ℕ) → is_handle u x ≡ is_handle z.heap.table x) → IsTrue (is_sorted nat_cmp u.live) → LoansFit (record { table = u; map = m; free_slots = z.heap.free_slots })
    → Fits (with_heap (record { table = u; map = m; free_slots = z.heap.free_slots }) z)
Fits-kept z u m fits handles pointers same live rise loans = record {
  coherent = record {
    handles = handles;
    pointers = pointers;
    in_slots = λ g is. subst (λ xs. Contains xs g) (sym same) (fits.coherent.in_slots g (sym (live g) ∙ is));
    in_order = rise;
  };
  slots = record {
    free = λ x. (
      (λ c. let fact = (fits.slots.free x).0 c in (subst (λ xs. Contains xs x) (sym same) fact.0, live x ∙ fact.1)),
      (λ c. (fits.slots.free x).1 (subst (λ xs. Contains xs x) same c.0, sym (live x) ∙ c.1)),
    );
    once = fits.slots.once;
  };
  loans = loans;
}

-- the same where the blocks stay, and x has a block or not, and is a pointer or not, as before
pub Fits-same_map : (z : ZoneState) (x : ℕ) (u : HandleTable) → Fits z → AgreeBut x z.heap.table u → is_full u x ≡ is_full z.heap.table x → is_pointer u x ≡ is_pointer z.heap.table x
    → is_handle u x ≡ is_handle z.heap.table x → IsTrue (is_sorted nat_cmp u.live) → LoansFit (record { table = u; map = z.heap.map; free_slots = z.heap.free_slots }) → Fits (with_heap (record { table = u; map = z.heap.map; free_slots = z.heap.free_slots }) z)
Fits-same_map z x u fits agree full pointer handle rise loans = Fits-kept z u z.heap.map fits
    (by_number (λ g. length (addresses z.shape (is_handle_block g) z.heap.map) ≡ cond (is_full u g) 1 0) x
    (fits.coherent.handles x ∙ ap (λ b. cond b 1 0) (sym full))
    (λ g apart. fits.coherent.handles g ∙ ap (λ o. cond (live_full o) 1 0) (sym (agree.others g apart))))
    (by_number (λ p. contents_addresses z.shape (is_pointer_block p) z.heap.map ≡ cond (is_pointer u p) (p ∷ []) []) x
    (fits.coherent.pointers x ∙ ap (λ b. cond b (x ∷ []) []) (sym pointer))
    (λ p apart. fits.coherent.pointers p ∙ ap (λ o. cond (live_pointer o) (p ∷ []) []) (sym (agree.others p apart))))
    refl
    (by_number (λ y. is_handle u y ≡ is_handle z.heap.table y) x handle (λ y apart. ap live_handle (agree.others y apart)))
    rise loans

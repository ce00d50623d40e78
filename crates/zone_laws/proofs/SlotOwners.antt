-- Where a map suits its table, no slot is a pointer, and no free block's contents begin where a live block's do.
use Rattle.std.proofs.Common.{◌≡◌, ℕ, ◌+◌, true, false, cond, List, [], ◌∷◌, ◌++◌, map, refl, ap, sym, ◌∙◌, arith, IsTrue, Contains, subst}
use Rattle.std.specs.List.{list_all}
use Rattle.std.proofs.lemmas.List.Elements.{Contains-append_right}
use Rattle.std.proofs.lemmas.Bool.{false_from_ne_true, and_parts, and_from}
use Rattle.mac_base.specs.declared.block.Entry.{Entry}
use Rattle.mac_base.specs.declared.block.Kind.{Kind}
use Rattle.mac_base.specs.declared.block.Kind.TheVariants.{Free}
use Rattle.mac_base.specs.HeadKind.{Shape, head_size, slot_count}
use Rattle.mac_base.specs.ZoneMap.{ZoneMap, block, is_free, is_master, total_size, address_after, addresses, addresses_from}
use Rattle.mac_base.specs.HandleTable.{HandleTable, is_pointer, is_handle}
use Rattle.mac_base.specs.Suits.{Suits, is_block_size, is_pointer_block, has_owners_length, slots}
use Rattle.zone_laws.proofs.Maps.{addresses_from-append}
use Rattle.zone_laws.proofs.SlotPlaces.{has_room, slot_no_contents, one_block_at, Contains-here}

-- each block of a map that suits its table has room for its header, and a master block for its slots
has_room-suits : (s : Shape) (t : HandleTable) (e : Entry) → is_block_size s e.size ≡ true → has_owners_length s t e ≡ true → has_room (head_size s.heads) slot_count e ≡ true
has_room-suits s t e size long = grind arith

rooms_from : (s : Shape) (t : HandleTable) (m : ZoneMap) → IsTrue (list_all (λ (e : Entry). is_block_size s e.size) m) → IsTrue (list_all (has_owners_length s t) m) → list_all (has_room (head_size s.heads) slot_count) m ≡ true
rooms_from s t [] sizes lengths = refl
rooms_from s t (e ∷ es) sizes lengths =
    let size = and_parts (is_block_size s e.size) (list_all (λ (e : Entry). is_block_size s e.size) es) sizes in
    let long = and_parts (has_owners_length s t e) (list_all (has_owners_length s t) es) lengths in
    and_from (has_room (head_size s.heads) slot_count e) _ (has_room-suits s t e size.0 long.0) (rooms_from s t es size.1 long.1)

-- each block of such a map has that room
pub rooms-suits : (s : Shape) (t : HandleTable) (m : ZoneMap) → Suits s t m → list_all (has_room (head_size s.heads) slot_count) m ≡ true
rooms-suits s t m suits = rooms_from s t m suits.sizes suits.lengths

-- where the block of a pointer is
pub address_from_contents : (f : ℕ → ℕ) (xs : List ℕ) (y : ℕ) → map f xs ≡ y ∷ [] → (x : ℕ) × Contains xs x × (f x ≡ y)
address_from_contents f [] y h = absurd (cc h)
address_from_contents f (x ∷ xs) y h = (x, Contains-here x xs, cc h)

pub pointer_not_master : (p : ℕ) (kind : Kind) → is_pointer_block p kind ≡ true → is_master kind ≡ false
pointer_not_master p v1 h = grind arith

pub pointer_not_free : (p : ℕ) (kind : Kind) → is_pointer_block p kind ≡ true → is_free kind ≡ false
pointer_not_free p v1 h = grind arith

pub free_not_master : (kind : Kind) → is_free kind ≡ true → is_master kind ≡ false
free_not_master v0 h = grind arith

-- no slot is a pointer
pub slot_no_pointer : (s : Shape) (t : HandleTable) (m : ZoneMap) → Suits s t m → (h : ℕ) → Contains (slots s m) h → is_pointer t h ≡ false
slot_no_pointer s t m suits h slot = false_from_ne_true (is_pointer t h) (λ live.
    let there = address_from_contents (λ a. a + head_size s.heads) (addresses s (is_pointer_block h) m) h (suits.coherent.pointers h ∙ ap (λ b. cond b (h ∷ []) []) live) in
    slot_no_contents (head_size s.heads) slot_count (address_after s []) (is_pointer_block h) (pointer_not_master h) m there.0 (rooms-suits s t m suits) there.1
    (subst (λ a. Contains (slots s m) a) (sym there.2) slot))

-- where a free block is
address-free : (s : Shape) (before after : ZoneMap) (n : ℕ) → Contains (addresses s is_free (before ++ block Free n ∷ after)) (address_after s [] + total_size before)
address-free s before after n = subst (λ xs. Contains xs (address_after s [] + total_size before)) (sym (addresses_from-append (address_after s []) is_free before (block Free n ∷ after)))
    (Contains-append_right (addresses s is_free before) _ (address_after s [] + total_size before)
    (Contains-here (address_after s [] + total_size before) (addresses_from ((address_after s [] + total_size before) + n) is_free after)))

module _ (s : Shape) (t : HandleTable) (before after : ZoneMap) (n p : ℕ) (suits : Suits s t (before ++ block Free n ∷ after)) (here : p ≡ address_after s before + head_size s.heads) where
  there : p ≡ (address_after s [] + total_size before) + head_size s.heads
  there = omega arith

  -- the contents of a free block begin at no slot
  free_contents_no_slot : Contains (slots s (before ++ block Free n ∷ after)) p → ⊥
  free_contents_no_slot slot = slot_no_contents (head_size s.heads) slot_count (address_after s []) is_free free_not_master (before ++ block Free n ∷ after) (address_after s [] + total_size before)
      (rooms-suits s t _ suits) (address-free s before after n) (subst (λ a. Contains (slots s (before ++ block Free n ∷ after)) a) there slot)

  -- nor at a live pointer
  pub free_contents_no_pointer : is_pointer t p ≡ false
  free_contents_no_pointer = false_from_ne_true (is_pointer t p) (λ live.
      let found = address_from_contents (λ a. a + head_size s.heads) (addresses s (is_pointer_block p) (before ++ block Free n ∷ after)) p (suits.coherent.pointers p ∙ ap (λ b. cond b (p ∷ []) []) live) in
      let same : found.0 ≡ address_after s [] + total_size before = (let is = found.2 in omega arith) in
      one_block_at (head_size s.heads) slot_count (address_after s []) (is_pointer_block p) is_free (pointer_not_free p) (before ++ block Free n ∷ after) (address_after s [] + total_size before)
      (rooms-suits s t _ suits) (subst (λ a. Contains (addresses s (is_pointer_block p) (before ++ block Free n ∷ after)) a) same found.1) (address-free s before after n))

  -- nor at a live handle
  pub free_contents_no_handle : is_handle t p ≡ false
  free_contents_no_handle = false_from_ne_true (is_handle t p) (λ live. free_contents_no_slot (suits.coherent.in_slots p live))

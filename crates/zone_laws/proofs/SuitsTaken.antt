-- A map suits its table once the lowest free block is taken for a new handle or pointer.
use Rattle.std.proofs.Common.{◌≡◌, ℕ, ◌+◌, Bool, true, false, not, cond, List, [], ◌∷◌, ◌++◌, length, map, flat_map, Some, refl, ap, sym, ◌∙◌, arith, IsTrue, Contains, subst}
use Rattle.std.specs.List.{list_all}
use Rattle.std.specs.Ordering.{nat_cmp}
use Rattle.std.specs.FinMap.{is_sorted}
use Rattle.std.proofs.lemmas.Bool.{not-true, and_parts}
use Rattle.mac_base.specs.declared.block.Entry.{Entry}
use Rattle.mac_base.specs.declared.block.Flags.{Flags}
use Rattle.mac_base.specs.declared.block.Kind.{Kind}
use Rattle.mac_base.specs.declared.block.Kind.TheVariants.{Free, Ptr, Rel}
use Rattle.mac_base.specs.HeadKind.{Shape, need, head_size, slot_count}
use Rattle.mac_base.specs.ZoneMap.{ZoneMap, block, is_free, is_master, total_size, address_after, addresses, addresses_from, contents_addresses}
use Rattle.mac_base.specs.HandleTable.{HandleTable, FullHandle, Pointer, live_at, live_bytes, live_full, live_handle, live_pointer, is_full, is_handle, is_pointer}
use Rattle.mac_base.specs.Suits.{Suits, free_apart, starts_free, is_block_size, is_handle_block, is_pointer_block, has_owners_length, slots, slots_from, wanted_length}
use Rattle.zone_laws.proofs.Placing.{TakenAt}
use Rattle.zone_laws.proofs.Maps.{addresses_from-exchanged, addresses_from-new, addresses_from-old, addresses_from-skip, list_all-exchanged}
use Rattle.zone_laws.proofs.Tables.{AgreeBut, by_number, eqb_same, eqb_swap}
use Rattle.zone_laws.proofs.Owners.{lengths-agree, no_handle_block, no_pointer_block, none_named-suits}
use Rattle.zone_laws.proofs.Taken.{need-is_size, free_apart-after, free_apart-replaced, free_apart-taken, taken_exchange, addresses_from-taken, sizes-taken, lengths-taken}
use Rattle.zone_laws.proofs.NamedPlace.{nil-append}

-- the slots are where the master blocks are
pub slots-same : (s : Shape) (old new : ZoneMap) → addresses s is_master new ≡ addresses s is_master old → slots s new ≡ slots s old
slots-same s old new same = ap (λ found. flat_map (slots_from slot_count) (map (λ a. a + head_size s.heads) found)) same

-- the contents are where the blocks are
pub contents-same : (s : Shape) (test : Kind → Bool) (old new : ZoneMap) → addresses s test new ≡ addresses s test old → contents_addresses s test new ≡ contents_addresses s test old
contents-same s test old new same = ap (map (λ a. a + head_size s.heads)) same

module _ (s : Shape) (k : ℕ) (kind : Kind) (old new : ZoneMap) (t : TakenAt s k kind old new) where
  -- what the new block doesn't pass stays
  pub addresses-untaken : (test : Kind → Bool) → test Free ≡ false → test kind ≡ false → addresses s test new ≡ addresses s test old
  addresses-untaken test free fails = addresses_from-exchanged old new (taken_exchange s k kind old new t) (address_after s []) test
      (addresses_from-taken s k kind t.size _ test free ∙ ap (λ b. cond b ((address_after s [] + total_size t.before) ∷ []) []) fails ∙ sym (addresses_from-skip _ test (block Free t.size) [] free))

  -- where it alone passes
  pub addresses-taken : (test : Kind → Bool) → test Free ≡ false → test kind ≡ true → addresses s test old ≡ [] → addresses s test new ≡ (address_after s [] + total_size t.before) ∷ []
  addresses-taken test free passes none =
      let x = taken_exchange s k kind old new t in
      let parts = nil-append _ _ (sym (addresses_from-old old new x (address_after s []) test) ∙ none) in
      let rest = nil-append _ _ parts.1 in
      addresses_from-new old new x (address_after s []) test
      ∙ ap (λ found. found ++ (addresses_from (address_after s [] + total_size t.before) test x.right ++ addresses_from ((address_after s [] + total_size t.before) + total_size x.left) test t.after)) parts.0
      ∙ ap (λ found. addresses_from (address_after s [] + total_size t.before) test x.right ++ found) rest.1
      ∙ ap (λ found. found ++ []) (addresses_from-taken s k kind t.size (address_after s [] + total_size t.before) test free ∙ ap (λ b. cond b ((address_after s [] + total_size t.before) ∷ []) []) passes)

  -- no two neighbours are free
  pub free_apart-kept : is_free kind ≡ false → IsTrue (free_apart old) → IsTrue (free_apart new)
  free_apart-kept used h =
      let apart : IsTrue (free_apart (t.before ++ (block Free t.size ∷ t.after))) = sym (ap free_apart t.was) ∙ h in
      let here = free_apart-after t.before (block Free t.size ∷ t.after) apart in
      ap free_apart t.is ∙ free_apart-replaced t.before (block Free t.size ∷ t.after) _ (λ _. refl) (free_apart-taken s k kind t.size t.after used (λ _. ends t.after here) (tail t.after here)) apart
    where
      ends : (m : ZoneMap) → IsTrue (free_apart (block Free t.size ∷ m)) → starts_free m ≡ false
      ends m h = not-true _ (and_parts (not (starts_free m)) (free_apart m) h).0

      tail : (m : ZoneMap) → IsTrue (free_apart (block Free t.size ∷ m)) → IsTrue (free_apart m)
      tail m h = (and_parts (not (starts_free m)) (free_apart m) h).1

  -- each size is possible
  pub sizes-kept : is_block_size s k ≡ true → IsTrue (list_all (λ (e : Entry). is_block_size s e.size) old) → IsTrue (list_all (λ (e : Entry). is_block_size s e.size) new)
  sizes-kept size h = list_all-exchanged old new (taken_exchange s k kind old new t) (λ (e : Entry). is_block_size s e.size) (sizes-taken s k kind t.size size (here old h t.was) t.fits) h
    where
      here : (m : ZoneMap) → IsTrue (list_all (λ (e : Entry). is_block_size s e.size) m) → m ≡ t.before ++ block Free t.size ∷ t.after → is_block_size s t.size ≡ true
      here m h is = at_block t.before t.after (sym (ap (list_all (λ (e : Entry). is_block_size s e.size)) is) ∙ h)
        where
          at_block : (before after : ZoneMap) → list_all (λ (e : Entry). is_block_size s e.size) (before ++ block Free t.size ∷ after) ≡ true → is_block_size s t.size ≡ true
          at_block [] after h = (and_parts (is_block_size s t.size) _ h).0
          at_block (e ∷ es) after h = at_block es after (and_parts (is_block_size s e.size) _ h).1

-- The lowest free block that n bytes need is given to x, which had none: a table that agrees with the old one but at x.
module _ (s : Shape) (n x : ℕ) (kind : Kind) (old new : ZoneMap) (t u : HandleTable) (at : TakenAt s (need s.heads n) kind old new) (suits : Suits s t old) (agree : AgreeBut x t u)
    (not_full : is_full t x ≡ false) (no_pointer : is_pointer t x ≡ false) where
  lengths-new : wanted_length u kind ≡ n → IsTrue (list_all (has_owners_length s u) new)
  lengths-new wants = list_all-exchanged old new (taken_exchange s (need s.heads n) kind old new at) (has_owners_length s u) (lengths-taken s u n kind at.size wants at.fits)
      (lengths-agree s x t u agree old (none_named-suits s t old suits x not_full no_pointer) suits.lengths)

  slots-new : is_master kind ≡ false → slots s new ≡ slots s old
  slots-new other = slots-same s old new (addresses-untaken s (need s.heads n) kind old new at is_master refl other)

  -- another number has the blocks that it had
  handles-other : (g : ℕ) → is_handle_block g kind ≡ false → is_full u g ≡ is_full t g → length (addresses s (is_handle_block g) new) ≡ cond (is_full u g) 1 0
  handles-other g other same = ap length (addresses-untaken s (need s.heads n) kind old new at (is_handle_block g) refl other) ∙ suits.coherent.handles g ∙ sym (ap (λ b. cond b 1 0) same)

  pointers-other : (p : ℕ) → is_pointer_block p kind ≡ false → is_pointer u p ≡ is_pointer t p → contents_addresses s (is_pointer_block p) new ≡ cond (is_pointer u p) (p ∷ []) []
  pointers-other p other same = contents-same s (is_pointer_block p) old new (addresses-untaken s (need s.heads n) kind old new at (is_pointer_block p) refl other)
      ∙ suits.coherent.pointers p ∙ sym (ap (λ b. cond b (p ∷ []) []) same)

-- the block is given to a new handle, which takes a slot
pub Suits-new_handle : (s : Shape) (n h : ℕ) (old new : ZoneMap) (t u : HandleTable) → TakenAt s (need s.heads n) (Rel h) old new → Suits s t old → AgreeBut h t u
    → is_full t h ≡ false → is_pointer t h ≡ false → Contains (slots s old) h → (flags : Flags) (bytes : List ℕ) → live_at u h ≡ Some (FullHandle flags bytes) → length bytes ≡ n
    → IsTrue (is_sorted nat_cmp u.live) → Suits s u new
Suits-new_handle s n h old new t u at suits agree not_full no_pointer slot flags bytes has long rise = record {
  apart = free_apart-kept s (need s.heads n) (Rel h) old new at refl suits.apart;
  sizes = sizes-kept s (need s.heads n) (Rel h) old new at (need-is_size s n) suits.sizes;
  lengths = lengths-new s n h (Rel h) old new t u at suits agree not_full no_pointer (ap (λ o. length (live_bytes o)) has ∙ long);
  coherent = record {
    handles = by_number (λ g. length (addresses s (is_handle_block g) new) ≡ cond (is_full u g) 1 0) h
        (ap length (addresses-taken s (need s.heads n) (Rel h) old new at (is_handle_block h) refl (eqb_same h) (no_handle_block s t old suits h not_full)) ∙ sym (ap (λ o. cond (live_full o) 1 0) has))
        (λ g apart. handles-other s n h (Rel h) old new t u at suits agree not_full no_pointer g (eqb_swap h g ∙ apart) (ap live_full (agree.others g apart)));
    pointers = by_number (λ p. contents_addresses s (is_pointer_block p) new ≡ cond (is_pointer u p) (p ∷ []) []) h
        (pointers-other s n h (Rel h) old new t u at suits agree not_full no_pointer h refl (ap live_pointer has ∙ sym no_pointer))
        (λ p apart. pointers-other s n h (Rel h) old new t u at suits agree not_full no_pointer p refl (ap live_pointer (agree.others p apart)));
    in_slots = by_number (λ g. IsTrue (is_handle u g) → Contains (slots s new) g) h
        (λ _. subst (λ xs. Contains xs h) (sym (slots-new s n h (Rel h) old new t u at suits agree not_full no_pointer refl)) slot)
        (λ g apart live. subst (λ xs. Contains xs g) (sym (slots-new s n h (Rel h) old new t u at suits agree not_full no_pointer refl)) (suits.coherent.in_slots g (sym (ap live_handle (agree.others g apart)) ∙ live)));
    in_order = rise;
  };
}

-- the block is given to a new pointer, whose number is where its contents begin
pub Suits-new_pointer : (s : Shape) (n p : ℕ) (old new : ZoneMap) (t u : HandleTable) (at : TakenAt s (need s.heads n) (Ptr p) old new) → Suits s t old → AgreeBut p t u
    → is_full t p ≡ false → is_pointer t p ≡ false → (bytes : List ℕ) → live_at u p ≡ Some (Pointer bytes) → length bytes ≡ n
    → p ≡ address_after s at.before + head_size s.heads → IsTrue (is_sorted nat_cmp u.live) → Suits s u new
Suits-new_pointer s n p old new t u at suits agree not_full no_pointer bytes has long here rise = record {
  apart = free_apart-kept s (need s.heads n) (Ptr p) old new at refl suits.apart;
  sizes = sizes-kept s (need s.heads n) (Ptr p) old new at (need-is_size s n) suits.sizes;
  lengths = lengths-new s n p (Ptr p) old new t u at suits agree not_full no_pointer (ap (λ o. length (live_bytes o)) has ∙ long);
  coherent = record {
    handles = by_number (λ g. length (addresses s (is_handle_block g) new) ≡ cond (is_full u g) 1 0) p
        (handles-other s n p (Ptr p) old new t u at suits agree not_full no_pointer p refl (ap live_full has ∙ sym not_full))
        (λ g apart. handles-other s n p (Ptr p) old new t u at suits agree not_full no_pointer g refl (ap live_full (agree.others g apart)));
    pointers = by_number (λ q. contents_addresses s (is_pointer_block q) new ≡ cond (is_pointer u q) (q ∷ []) []) p
        (contents_taken ∙ sym (ap (λ o. cond (live_pointer o) (p ∷ []) []) has))
        (λ q apart. pointers-other s n p (Ptr p) old new t u at suits agree not_full no_pointer q (eqb_swap p q ∙ apart) (ap live_pointer (agree.others q apart)));
    in_slots = by_number (λ g. IsTrue (is_handle u g) → Contains (slots s new) g) p
        (λ live. absurd (cc (sym (ap live_handle has) ∙ live)))
        (λ g apart live. subst (λ xs. Contains xs g) (sym (slots-new s n p (Ptr p) old new t u at suits agree not_full no_pointer refl)) (suits.coherent.in_slots g (sym (ap live_handle (agree.others g apart)) ∙ live)));
    in_order = rise;
  };
}
  where
    there : (address_after s [] + total_size at.before) + head_size s.heads ≡ p
    there = omega arith

    contents_taken : contents_addresses s (is_pointer_block p) new ≡ p ∷ []
    contents_taken = ap (map (λ a. a + head_size s.heads)) (addresses-taken s (need s.heads n) (Ptr p) old new at (is_pointer_block p) refl (eqb_same p) (no_pointer_block s t old suits p no_pointer))
        ∙ ap (λ a. a ∷ []) there

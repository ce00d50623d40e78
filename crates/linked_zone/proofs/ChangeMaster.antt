-- What a zone is once a free block is a master block, whose slots are the next to be given.
use Rattle.std.proofs.Common.{◌≡◌, ℕ, zero, suc, ◌+◌, ◌*◌, ◌<◌, ◌≤◌, ◌&&◌, nat_le, nat_lt, true, false, cond, List, [], ◌∷◌, ◌++◌, length, map, flat_map, None, refl, ap, sym, ◌∙◌, arith, Contains, subst, ◌⊎◌, inl, inr, nat_eq, ne_eqb}
use Rattle.std.specs.Prelude.{slice_index}
use Rattle.std.specs.List.{list_all, IsDistinct}
use Rattle.std.proofs.lemmas.Bool.Decides.{nat_tests}
use Rattle.std.proofs.lemmas.List.{map-append}
use Rattle.std.proofs.lemmas.List.Elements.{Contains-append_cases, Contains-append_left, Contains-append_right}
use Rattle.std.proofs.lemmas.List.Folds.{list_all-append}
use Rattle.std.proofs.lemmas.Grind.{flat_map-append}
use Rattle.std.proofs.lemmas.Bool.{and_parts, false_from_ne_true, and_from}
use Rattle.mac_base.specs.declared.block.HeadKind.{HeadKind}
use Rattle.mac_base.specs.declared.block.HeadKind.TheVariants.{Bits24, Bits32}
use Rattle.mac_base.specs.declared.block.Kind.TheVariants.{Free, Master}
use Rattle.mac_base.specs.HeadKind.{Shape, head_size, need, slot_count, master_length}
use Rattle.mac_base.specs.ZoneMap.{ZoneMap, block, is_master, total_size, address_after, addresses, addresses_from, contents_of}
use Rattle.mac_base.specs.HandleTable.{live_at, is_handle, is_pointer}
use Rattle.mac_base.specs.Suits.{has_length, is_handle_block, is_pointer_block, slots, slots_from}
use Rattle.mac_base.specs.ZoneState.{ZoneState}
use Rattle.zone_laws.proofs.Tables.{not_live}
use Rattle.zone_laws.proofs.SlotPlaces.{has_room, slots_at, slot_cases, slots_at-above, slot_no_contents, Contains-none, Contains-here, Contains-later, Contains-cons_cases, slots_from-bounds}
use Rattle.zone_laws.proofs.SlotOwners.{pointer_not_master}
use Rattle.zone_laws.proofs.SoundReleased.{IsDistinct-more}
use Rattle.zone_laws.proofs.Maps.{addresses_from-append}
use Rattle.zone_records.specs.declared.slot.Slot.TheVariants as slot
use Rattle.linked_zone.specs.Owned.{slot_of, next_free, slot_of_live}
use Rattle.linked_zone.specs.Places.{RoomFor}
use Rattle.linked_zone.specs.Changes.{with_master}
use Rattle.linked_zone.specs.Fit.{Fits, HasRooms}
use Rattle.linked_zone.proofs.ChangeParts.{same_slot, next_free-skip, next_free-front}
use Rattle.linked_zone.proofs.Numbered.{Contains-map}
use Rattle.linked_zone.proofs.Lent.{loans-replaced}
use Rattle.linked_zone.proofs.ChangeBlock.{swapped-addresses, swapped-pointers, swapped-contents}

-- after a slot of n that isn't the last one, the next one is given
pub next_free-more : (n at : ℕ) (fs : List ℕ) (x : ℕ) → Contains (slots_from n at) x → x + 4 < at + 4 * n → next_free (slots_from n at ++ fs) x ≡ x + 4
next_free-more zero at fs x c below = absurd (Contains-none x c)
next_free-more (suc n) at fs x c below = elim (Contains-cons_cases at (slots_from n (at + 4)) x c) [
  | inl is ↦ ap (λ y. next_free (slots_from (suc n) at ++ fs) y) (sym is) ∙ next_free-front at (slots_from n (at + 4) ++ fs) ∙ first n (omega arith) ∙ ap (λ y. y + 4) is
  | inr later ↦ next_free-skip at (slots_from n (at + 4) ++ fs) x (ne_eqb x at (λ same. let bounds = slots_from-bounds n (at + 4) x later in absurd (omega arith))) ∙ next_free-more n (at + 4) fs x later (omega arith)
]
  where
    first : (n : ℕ) → 0 < n → slice_index (slots_from n (at + 4) ++ fs) 0 ≡ at + 4
    first zero some = absurd (omega arith)
    first (suc n) some = refl

-- after the last of n slots, the first of the others is given
pub next_free-last : (n at : ℕ) (fs : List ℕ) (x : ℕ) → Contains (slots_from n at) x → x + 4 ≡ at + 4 * n → next_free (slots_from n at ++ fs) x ≡ slice_index fs 0
next_free-last zero at fs x c last = absurd (Contains-none x c)
next_free-last (suc n) at fs x c last = elim (Contains-cons_cases at (slots_from n (at + 4)) x c) [
  | inl is ↦ ap (λ y. next_free (slots_from (suc n) at ++ fs) y) (sym is) ∙ next_free-front at (slots_from n (at + 4) ++ fs) ∙ none n (omega arith)
  | inr later ↦ next_free-skip at (slots_from n (at + 4) ++ fs) x (ne_eqb x at (λ same. let bounds = slots_from-bounds n (at + 4) x later in absurd (omega arith))) ∙ next_free-last n (at + 4) fs x later (omega arith)
]
  where
    none : (n : ℕ) → n ≡ 0 → slice_index (slots_from n (at + 4) ++ fs) 0 ≡ slice_index fs 0
    none zero h = refl
    none (suc n) h = absurd (omega arith)

-- after any other free slot the same is given as before
pub next_free-outside : (n at : ℕ) (fs : List ℕ) (x : ℕ) → (Contains (slots_from n at) x → ⊥) → next_free (slots_from n at ++ fs) x ≡ next_free fs x
next_free-outside zero at fs x other = refl
next_free-outside (suc n) at fs x other =
    next_free-skip at (slots_from n (at + 4) ++ fs) x (ne_eqb x at (λ same. other (subst (λ y. Contains (slots_from (suc n) at) y) (sym same) (Contains-here at (slots_from n (at + 4))))))
    ∙ next_free-outside n (at + 4) fs x (λ c. other (Contains-later at (slots_from n (at + 4)) x c))

-- n slots before others that have none of them are each there once
pub slots_from-distinct : (n at : ℕ) (fs : List ℕ) → ((x : ℕ) → Contains (slots_from n at) x → Contains fs x → ⊥) → IsDistinct nat_eq fs → IsDistinct nat_eq (slots_from n at ++ fs)
slots_from-distinct zero at fs apart once = once
slots_from-distinct (suc n) at fs apart once =
    IsDistinct-more at (slots_from n (at + 4) ++ fs) new
    (slots_from-distinct n (at + 4) fs (λ x c d. apart x (Contains-later at (slots_from n (at + 4)) x c) d) once)
  where
    new : Contains (slots_from n (at + 4) ++ fs) at → ⊥
    new c = elim (Contains-append_cases (slots_from n (at + 4)) fs at c) [
      | inl here ↦ (let bounds = slots_from-bounds n (at + 4) at here in omega arith)
      | inr later ↦ apart at (Contains-here at (slots_from n (at + 4))) later
    ]

-- a slot's four bytes lie within the blocks
pub slots_at-below : (head n at : ℕ) (m : ZoneMap) (h : ℕ) → list_all (has_room head n) m ≡ true → Contains (slots_at head n at m) h → h + 4 ≤ at + total_size m
slots_at-below head n at [] h room c = absurd (Contains-none h c)
slots_at-below head n at (e ∷ es) h room c =
    let rooms = and_parts (has_room head n e) (list_all (has_room head n) es) room in
    elim (slot_cases head n at e es h rooms.0 c) [
      | inl first ↦ (let end = first.2 in omega arith)
      | inr later ↦ let rest = slots_at-below head n (at + e.size) es h rooms.1 later in omega arith
    ]

-- the slots of two parts of a map
slots_at-append : (head n at : ℕ) (xs ys : ZoneMap) → slots_at head n at (xs ++ ys) ≡ slots_at head n at xs ++ slots_at head n (at + total_size xs) ys
slots_at-append head n at xs ys =
    ap (λ found. flat_map (slots_from n) (map (λ a. a + head) found)) (addresses_from-append at is_master xs ys)
    ∙ ap (flat_map (slots_from n)) (map-append (λ a. a + head) (addresses_from at is_master xs) (addresses_from (at + total_size xs) is_master ys))
    ∙ flat_map-append (slots_from n) (map (λ a. a + head) (addresses_from at is_master xs)) (map (λ a. a + head) (addresses_from (at + total_size xs) is_master ys))

-- a block that has a master block's length has room for its header and its slots
master_room : (s : Shape) (n : ℕ) → has_length s n master_length ≡ true → head_size s.heads + 4 * slot_count ≤ n
master_room s n h = by_size (need s.heads master_length) _ (head_size s.heads + 4 * slot_count) (large s.heads) h
  where
    large : (heads : HeadKind) → head_size heads + 4 * slot_count ≤ need heads master_length
    large Bits24 = omega arith
    large Bits32 = omega arith

    by_size : (k more low : ℕ) → low ≤ k → (nat_le k n && nat_lt n more) ≡ true → low ≤ n
    by_size k more low le h = grind (arith, nat_tests)

module _ (head n start : ℕ) (before : ZoneMap) (size : ℕ) (after : ZoneMap) where
  abbrev here : ℕ
  here = start + total_size before

  -- the slots around a free block
  slots_at-free : slots_at head n start (before ++ block Free size ∷ after) ≡ slots_at head n start before ++ slots_at head n (here + size) after
  slots_at-free = slots_at-append head n start before (block Free size ∷ after)

  -- and those of a master block there, with the others
  slots_at-master : slots_at head n start (before ++ block Master size ∷ after) ≡ slots_at head n start before ++ (slots_from n (here + head) ++ slots_at head n (here + size) after)
  slots_at-master = slots_at-append head n start before (block Master size ∷ after)

  abbrev front : List ℕ
  front = slots_at head n start before

  abbrev own : List ℕ
  own = slots_from n (here + head)

  abbrev back : List ℕ
  back = slots_at head n (here + size) after

  -- the slots stay
  slot-kept : (x : ℕ) → Contains (slots_at head n start (before ++ block Free size ∷ after)) x → Contains (slots_at head n start (before ++ block Master size ∷ after)) x
  slot-kept x c = subst (λ xs. Contains xs x) (sym slots_at-master) (elim (Contains-append_cases front back x (subst (λ xs. Contains xs x) slots_at-free c)) [
    | inl first ↦ Contains-append_left front (own ++ back) x first
    | inr later ↦ Contains-append_right front (own ++ back) x (Contains-append_right own back x later)
  ])

  -- and the master block's own are there
  slot-new : (x : ℕ) → Contains (slots_from n (here + head)) x → Contains (slots_at head n start (before ++ block Master size ∷ after)) x
  slot-new x c = subst (λ xs. Contains xs x) (sym slots_at-master) (Contains-append_right front (own ++ back) x (Contains-append_left own back x c))

  -- there are no others
  slot-either : (x : ℕ) → Contains (slots_at head n start (before ++ block Master size ∷ after)) x → Contains (slots_at head n start (before ++ block Free size ∷ after)) x ⊎ Contains (slots_from n (here + head)) x
  slot-either x c = elim (Contains-append_cases front (own ++ back) x (subst (λ xs. Contains xs x) slots_at-master c)) [
    | inl first ↦ inl (subst (λ xs. Contains xs x) (sym slots_at-free) (Contains-append_left front back x first))
    | inr rest ↦ elim (Contains-append_cases own back x rest) [
      | inl here ↦ inr here
      | inr later ↦ inl (subst (λ xs. Contains xs x) (sym slots_at-free) (Contains-append_right front back x later))
    ]
  ]

  -- none of the slots is one of the master block's, where each block has room
  slot-apart : list_all (has_room head n) before ≡ true → list_all (has_room head n) after ≡ true → head + 4 * n ≤ size
      → (x : ℕ) → Contains (slots_at head n start (before ++ block Free size ∷ after)) x → Contains (slots_from n (here + head)) x → ⊥
  slot-apart rooms_before rooms_after large x c is =
      let bounds = slots_from-bounds n (here + head) x is in
      elim (Contains-append_cases front back x (subst (λ xs. Contains xs x) slots_at-free c)) [
        | inl first ↦ (let below = slots_at-below head n start before x rooms_before first in omega arith)
        | inr later ↦ (let above = slots_at-above head n (here + size) after x rooms_after later in omega arith)
      ]

module _ (z : ZoneState) (at : ℕ) (r : RoomFor z at master_length) (fits : Fits z) (rooms : HasRooms z) where
  abbrev head : ℕ
  head = head_size z.shape.heads

  abbrev start : ℕ
  start = address_after z.shape []

  abbrev m : ZoneMap
  m = r.free.before ++ block Master r.free.size ∷ r.free.after

  there : (start + total_size r.free.before) + head ≡ at + head
  there = (let place = r.free.place in omega arith)

  large : head + 4 * slot_count ≤ r.free.size
  large = master_room z.shape r.free.size r.room

  old_rooms : (list_all (has_room head slot_count) r.free.before ≡ true) × (list_all (has_room head slot_count) r.free.after ≡ true)
  old_rooms =
      let parts = and_parts (list_all (has_room head slot_count) r.free.before) _ (sym (list_all-append (has_room head slot_count) r.free.before (block Free r.free.size ∷ r.free.after)) ∙ ap (list_all (has_room head slot_count)) (sym r.free.map) ∙ rooms) in
      (parts.0, (and_parts (has_room head slot_count (block Free r.free.size)) (list_all (has_room head slot_count) r.free.after) parts.1).1)

  -- each block has room, the master block for its slots
  pub master-rooms : HasRooms (with_master z r.free)
  master-rooms = list_all-append (has_room head slot_count) r.free.before (block Master r.free.size ∷ r.free.after)
      ∙ and_from (list_all (has_room head slot_count) r.free.before) _ old_rooms.0 (and_from (has_room head slot_count (block Master r.free.size)) _ (room head slot_count r.free.size (let wide = large in omega arith) large) old_rooms.1)
    where
      room : (a n size : ℕ) → a < size → a + 4 * n ≤ size → (nat_lt a size && nat_le (a + 4 * n) size) ≡ true
      room a n size above le = grind (arith, nat_tests)

  -- the zone's slots are slots still
  pub master-kept_slot : (x : ℕ) → Contains (slots z.shape z.heap.map) x → Contains (slots z.shape (with_master z r.free).heap.map) x
  master-kept_slot x c = slot-kept head slot_count start r.free.before r.free.size r.free.after x (subst (λ m. Contains (slots z.shape m) x) r.free.map c)

  -- and so are the new ones
  pub master-new_slot : (x : ℕ) → Contains (slots_from slot_count (at + head_size z.shape.heads)) x → Contains (slots z.shape (with_master z r.free).heap.map) x
  master-new_slot x c = slot-new head slot_count start r.free.before r.free.size r.free.after x (subst (λ a. Contains (slots_from slot_count a) x) (sym there) c)

  -- no slot is new and old
  pub master-apart : (x : ℕ) → Contains (slots z.shape z.heap.map) x → Contains (slots_from slot_count (at + head_size z.shape.heads)) x → ⊥
  master-apart x c own = slot-apart head slot_count start r.free.before r.free.size r.free.after old_rooms.0 old_rooms.1 large x
      (subst (λ m. Contains (slots z.shape m) x) r.free.map c) (subst (λ a. Contains (slots_from slot_count a) x) (sym there) own)

  either : (x : ℕ) → Contains (slots z.shape m) x → Contains (slots z.shape z.heap.map) x ⊎ Contains (slots_from slot_count (at + head)) x
  either x c = elim (slot-either head slot_count start r.free.before r.free.size r.free.after x c) [
    | inl old ↦ inl (subst (λ m. Contains (slots z.shape m) x) (sym r.free.map) old)
    | inr own ↦ inr (subst (λ a. Contains (slots_from slot_count a) x) there own)
  ]

  no_handle : (x : ℕ) → Contains (slots_from slot_count (at + head)) x → is_handle z.heap.table x ≡ false
  no_handle x own = false_from_ne_true (is_handle z.heap.table x) (λ live. master-apart x (fits.coherent.in_slots x live) own)

  no_pointer : (x : ℕ) → Contains (slots_from slot_count (at + head)) x → is_pointer z.heap.table x ≡ false
  no_pointer x own = false_from_ne_true (is_pointer z.heap.table x) (λ live.
      let begins = swapped-pointers z r.free.before Free Master r.free.size r.free.after r.free.map x refl ∙ fits.coherent.pointers x ∙ ap (λ b. cond b (x ∷ []) []) live in
      let found = Contains-map (λ a. a + head) (addresses z.shape (is_pointer_block x) m) x (subst (λ xs. Contains xs x) (sym begins) (Contains-here x [])) in
      slot_no_contents head slot_count start (is_pointer_block x) (pointer_not_master x) m found.0 master-rooms found.1 (subst (λ a. Contains (slots z.shape m) a) (sym found.2) (master-new_slot x own)))

  -- nothing is live at a new slot
  pub master-not_live : (x : ℕ) → Contains (slots_from slot_count (at + head_size z.shape.heads)) x → live_at z.heap.table x ≡ None
  master-not_live x own = not_live z.heap.table x (no_handle x own) (no_pointer x own)

  -- the zone still fits
  pub master-fits : Fits (with_master z r.free)
  master-fits = record {
    coherent = record {
      handles = λ g. ap length (swapped-addresses z r.free.before Free Master r.free.size r.free.after r.free.map (is_handle_block g) refl) ∙ fits.coherent.handles g;
      pointers = λ p. swapped-pointers z r.free.before Free Master r.free.size r.free.after r.free.map p refl ∙ fits.coherent.pointers p;
      in_slots = λ g live. master-kept_slot g (fits.coherent.in_slots g live);
      in_order = fits.coherent.in_order;
    };
    slots = record {
      free = λ x. (
        (λ c. elim (Contains-append_cases (slots_from slot_count (at + head)) z.heap.free_slots x c) [
          | inl own ↦ (master-new_slot x own, no_handle x own)
          | inr later ↦ (let fact = (fits.slots.free x).0 later in (master-kept_slot x fact.0, fact.1))
        ]),
        (λ c. elim (either x c.0) [
          | inl old ↦ Contains-append_right (slots_from slot_count (at + head)) z.heap.free_slots x ((fits.slots.free x).1 (old, c.1))
          | inr own ↦ Contains-append_left (slots_from slot_count (at + head)) z.heap.free_slots x own
        ]),
      );
      once = slots_from-distinct slot_count (at + head) z.heap.free_slots (λ x own c. master-apart x ((fits.slots.free x).0 c).0 own) fits.slots.once;
    };
    loans = loans-replaced z.heap (with_master z r.free).heap r.free.before (block Free r.free.size ∷ []) (block Master r.free.size ∷ []) r.free.after fits.loans refl r.free.map refl refl;
  }

  -- a new slot says which is given after it
  pub master-slot : (x next : ℕ) → Contains (slots_from slot_count (at + head_size z.shape.heads)) x → next_free (slots_from slot_count (at + head_size z.shape.heads) ++ z.heap.free_slots) x ≡ next → slot_of (with_master z r.free) x ≡ slot.Free next
  master-slot x next own is = ap (λ o. slot_of_live z.shape.heads o (contents_of z.shape x m) (next_free (slots_from slot_count (at + head) ++ z.heap.free_slots) x)) (master-not_live x own) ∙ ap slot.Free is

  -- the slots of the blocks before and after are slots of the zone
  pub master-before : (x : ℕ) → Contains (slots_at (head_size z.shape.heads) slot_count (address_after z.shape []) r.free.before) x → Contains (slots z.shape z.heap.map) x
  master-before x c = subst (λ m. Contains (slots z.shape m) x) (sym r.free.map) (subst (λ xs. Contains xs x) (sym (slots_at-free head slot_count start r.free.before r.free.size r.free.after))
      (Contains-append_left (slots_at head slot_count start r.free.before) _ x c))

  pub master-after : (x : ℕ) → Contains (slots_at (head_size z.shape.heads) slot_count ((address_after z.shape [] + total_size r.free.before) + (r.free.size + 0)) r.free.after) x → Contains (slots z.shape z.heap.map) x
  master-after x c = subst (λ m. Contains (slots z.shape m) x) (sym r.free.map) (subst (λ xs. Contains xs x) (sym (slots_at-free head slot_count start r.free.before r.free.size r.free.after))
      (Contains-append_right (slots_at head slot_count start r.free.before) _ x (let same : (start + total_size r.free.before) + (r.free.size + 0) ≡ (start + total_size r.free.before) + r.free.size = omega arith in
      subst (λ a. Contains (slots_at head slot_count a r.free.after) x) same c)))

  -- the master pointers of all other numbers stay
  pub master-others : (x : ℕ) → (Contains (slots_from slot_count (at + head_size z.shape.heads)) x → ⊥) → slot_of (with_master z r.free) x ≡ slot_of z x
  master-others x other = same_slot z (with_master z r.free) x refl refl (swapped-contents z r.free.before Free Master r.free.size r.free.after r.free.map x refl) (next_free-outside slot_count (at + head) z.heap.free_slots x other)

  -- so do those of the zone's slots
  pub master-old_pointer : (x : ℕ) → Contains (slots z.shape z.heap.map) x → slot_of (with_master z r.free) x ≡ slot_of z x
  master-old_pointer x c = master-others x (λ own. master-apart x c own)

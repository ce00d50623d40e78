-- What a zone is once the block of a handle or a pointer has another size where it is, and its owner another number
-- of bytes.
use Rattle.std.proofs.Common.{◌≡◌, ℕ, suc, ◌+◌, ◌-◌, ◌≤◌, Bool, true, false, cond, List, [], ◌∷◌, ◌++◌, length, map, Some, None, Option, refl, ap, sym, ◌∙◌, arith, ne_eqb, length-append, append_assoc, ◌==◌, ◌||◌, ◌⊎◌, inl, inr}
use Rattle.std.specs.Prelude.{slice_index}
use Rattle.std.specs.List.{filter, list_all}
use Rattle.std.proofs.lemmas.List.{nil_from_length}
use Rattle.mac_base.specs.declared.block.Entry.{Entry}
use Rattle.mac_base.specs.declared.block.Kind.{Kind}
use Rattle.mac_base.specs.declared.block.Kind.TheVariants.{Free, Master, Ptr, Rel}
use Rattle.mac_base.specs.HeadKind.{head_size}
use Rattle.mac_base.specs.declared.block.HeadKind.{HeadKind}
use Rattle.mac_base.specs.Loans.{owner_of, owners}
use Rattle.mac_base.specs.ZoneMap.{ZoneMap, block, free_block, is_free, is_master, is_named, total_size, addresses, addresses_from, address_after, contents_addresses, contents_of}
use Rattle.mac_base.specs.HandleTable.{HandleTable, Live, EmptyHandle, FullHandle, Pointer, live_at, live_bytes, live_full, live_handle, live_pointer, bytes_of, has_block, is_full, is_handle, is_lent, is_pointer, refilled, resized, with_live}
use Rattle.mac_base.specs.Suits.{is_handle_block, is_pointer_block}
use Rattle.mac_base.specs.ZoneState.{ZoneState, with_heap}
use Rattle.zone_laws.proofs.Maps.{Exchanged, addresses_from-exchanged, addresses_from-skip, addresses_from-append}
use Rattle.zone_laws.proofs.SuitsTaken.{slots-same, contents-same}
use Rattle.zone_laws.proofs.Tables.{AgreeBut, live_at-with_live_same, with_live_agrees, in_order-with_live, by_number, full_handle, handle_no_pointer, pointer_no_handle}
use Rattle.zone_laws.proofs.Owners.{none_named, none_named-from, no_map}
use Rattle.zone_laws.proofs.Arranging.{total_size-free_block}
use Rattle.zone_laws.proofs.NamedPlace.{nil-append}
use Rattle.zone_laws.proofs.SuitsResized.{length_of_map, free_only}
use Rattle.linked_zone.specs.Owned.{slot_of, next_free, slot_of_live}
use Rattle.linked_zone.specs.Places.{CanFront}
use Rattle.linked_zone.specs.Changes.{sized}
use Rattle.linked_zone.specs.Fit.{Fits}
use Rattle.linked_zone.proofs.ChangeParts.{same_slot, Fits-kept}
use Rattle.linked_zone.proofs.ChangeBlock.{contents_of-first}
use Rattle.linked_zone.proofs.Lent.{loans-replaced, owners-free}

-- a handle with a block or a pointer keeps what it is when its bytes change, and what its slot says
pub record Refilled (bytes : List ℕ) (o : Option Live) : Type 0 where
  pub full : live_full (Some (refilled bytes o)) ≡ live_full o
  pub pointer : live_pointer (Some (refilled bytes o)) ≡ live_pointer o
  pub handle : live_handle (Some (refilled bytes o)) ≡ live_handle o
  pub holds : live_bytes (Some (refilled bytes o)) ≡ bytes
  pub word : (heads : HeadKind) (a n : ℕ) → slot_of_live heads (Some (refilled bytes o)) a n ≡ slot_of_live heads o a n

-- a handle with a block does, and a pointer
pub refilled_block : (bytes : List ℕ) (o : Option Live) → (live_full o || live_pointer o) ≡ true → Refilled bytes o
refilled_block bytes None h = absurd (cc h)
refilled_block bytes (Some EmptyHandle) h = absurd (cc h)
refilled_block bytes (Some (FullHandle flags old)) h = record { full = refl; pointer = refl; handle = refl; holds = refl; word = λ heads a n. refl }
refilled_block bytes (Some (Pointer old)) h = record { full = refl; pointer = refl; handle = refl; holds = refl; word = λ heads a n. refl }

-- ---- the block that x names

-- where at most one block passes and one between others does, none of these does
others_pass : (at : ℕ) (test : Kind → Bool) (before : ZoneMap) (e : Entry) (after : ZoneMap) → test e.kind ≡ true → length (addresses_from at test (before ++ e ∷ after)) ≤ 1
    → (addresses_from at test before ≡ []) × (addresses_from (at + total_size before + e.size) test after ≡ [])
others_pass at test before e after passes few =
    let here = at + total_size before in
    let parts : addresses_from at test (before ++ e ∷ after) ≡ addresses_from at test before ++ here ∷ addresses_from (here + e.size) test after =
    addresses_from-append at test before (e ∷ after) ∙ ap (λ b. addresses_from at test before ++ (cond b (here ∷ []) [] ++ addresses_from (here + e.size) test after)) passes in
    let lengths : length (addresses_from at test (before ++ e ∷ after)) ≡ length (addresses_from at test before) + suc (length (addresses_from (here + e.size) test after)) =
    ap length parts ∙ length-append (addresses_from at test before) (here ∷ addresses_from (here + e.size) test after) in
    (nil_from_length _ (omega (arith, lengths, few)), nil_from_length _ (omega (arith, lengths, few)))

-- what passes at a place is found
pub passes-some : (at : ℕ) (test : Kind → Bool) (before : ZoneMap) (e : Entry) (after : ZoneMap) → test e.kind ≡ true → addresses_from at test (before ++ e ∷ after) ≡ [] → ⊥
passes-some at test before e after passes none =
    let later : addresses_from (at + total_size before) test (e ∷ after) ≡ [] =
    (nil-append (addresses_from at test before) (addresses_from (at + total_size before) test (e ∷ after)) (sym (addresses_from-append at test before (e ∷ after)) ∙ none)).1 in
    absurd (cc (later, ap (λ b. cond b ((at + total_size before) ∷ []) [] ++ addresses_from (at + total_size before + e.size) test after) passes))

-- as many as the test says
at_most : (b : Bool) (n : ℕ) → n ≡ cond b 1 0 → n ≤ 1
at_most true n h = omega arith
at_most false n h = omega arith

-- The number x has a block, and names no other.
pub record NamesOne (z : ZoneState) (x : ℕ) (before after : ZoneMap) : Type 0 where
  pub block : has_block z.heap.table x ≡ true
  pub none_before : none_named x before ≡ true
  pub none_after : none_named x after ≡ true

-- it does where one is its own
pub names-one : (z : ZoneState) (x : ℕ) (before : ZoneMap) (e : Entry) (after : ZoneMap) → Fits z → z.heap.map ≡ before ++ e ∷ after → is_named x e.kind ≡ true → NamesOne z x before after
names-one z x before e after fits map_is named = by_kind e.kind refl named
  where
    start : ℕ
    start = address_after z.shape []

    -- where none passes, none of the others does
    none_pass : (test : Kind → Bool) → addresses_from start test (before ++ e ∷ after) ≡ [] → (addresses_from start test before ≡ []) × (addresses_from (start + total_size before + e.size) test after ≡ [])
    none_pass test none =
        let here = start + total_size before in
        let parts = nil-append (addresses_from start test before) (addresses_from here test (e ∷ after)) (sym (addresses_from-append start test before (e ∷ after)) ∙ none) in
        (parts.0, (nil-append (cond (test e.kind) (here ∷ []) []) (addresses_from (here + e.size) test after) parts.1).1)

    full_or : (b c : Bool) → (b ≡ true) ⊎ (c ≡ true) → (b || c) ≡ true
    full_or true c h = refl
    full_or false c (inl h) = absurd (cc h)
    full_or false c (inr h) = h

    -- it is a handle's
    by_handle : is_handle_block x e.kind ≡ true → NamesOne z x before after
    by_handle passes =
        let count : length (addresses_from start (is_handle_block x) (before ++ e ∷ after)) ≡ cond (is_full z.heap.table x) 1 0 = ap (λ m. length (addresses_from start (is_handle_block x) m)) (sym map_is) ∙ fits.coherent.handles x in
        let full : is_full z.heap.table x ≡ true = by_test (is_full z.heap.table x) count (λ none. passes-some start (is_handle_block x) before e after passes none) in
        let pointer = handle_no_pointer z.heap.table x (full_handle z.heap.table x full) in
        let none : addresses_from start (is_pointer_block x) (before ++ e ∷ after) ≡ [] = ap (addresses_from start (is_pointer_block x)) (sym map_is) ∙ no_map _ _ (fits.coherent.pointers x ∙ ap (λ b. cond b (x ∷ []) []) pointer) in
        let handles = others_pass start (is_handle_block x) before e after passes (at_most _ _ count) in
        let pointers = none_pass (is_pointer_block x) none in
        record {
          block = full_or _ _ (inl full);
          none_before = none_named-from start x before handles.0 pointers.0;
          none_after = none_named-from (start + total_size before + e.size) x after handles.1 pointers.1;
        }
      where
        by_test : (b : Bool) → length (addresses_from start (is_handle_block x) (before ++ e ∷ after)) ≡ cond b 1 0 → (addresses_from start (is_handle_block x) (before ++ e ∷ after) ≡ [] → ⊥) → b ≡ true
        by_test true h some = refl
        by_test false h some = absurd (some (nil_from_length _ h))

    -- it is a pointer's
    by_pointer : is_pointer_block x e.kind ≡ true → NamesOne z x before after
    by_pointer passes =
        let found : addresses_from start (is_pointer_block x) (before ++ e ∷ after) ≡ addresses z.shape (is_pointer_block x) z.heap.map = ap (addresses_from start (is_pointer_block x)) (sym map_is) in
        let pointer : is_pointer z.heap.table x ≡ true = by_test (is_pointer z.heap.table x) (fits.coherent.pointers x) (λ none. passes-some start (is_pointer_block x) before e after passes (found ∙ none)) in
        let full = (pointer_no_handle z.heap.table x pointer).1 in
        let none : addresses_from start (is_handle_block x) (before ++ e ∷ after) ≡ [] = ap (addresses_from start (is_handle_block x)) (sym map_is) ∙ nil_from_length _ (fits.coherent.handles x ∙ ap (λ b. cond b 1 0) full) in
        let one : length (addresses_from start (is_pointer_block x) (before ++ e ∷ after)) ≡ 1 =
        ap length found ∙ sym (length_of_map (λ a. a + head_size z.shape.heads) (addresses z.shape (is_pointer_block x) z.heap.map)) ∙ ap length (fits.coherent.pointers x ∙ ap (λ b. cond b (x ∷ []) []) pointer) in
        let pointers = others_pass start (is_pointer_block x) before e after passes (omega (arith, one)) in
        let handles = none_pass (is_handle_block x) none in
        record {
          block = full_or _ _ (inr pointer);
          none_before = none_named-from start x before handles.0 pointers.0;
          none_after = none_named-from (start + total_size before + e.size) x after handles.1 pointers.1;
        }
      where
        by_test : (b : Bool) → contents_addresses z.shape (is_pointer_block x) z.heap.map ≡ cond b (x ∷ []) [] → (addresses z.shape (is_pointer_block x) z.heap.map ≡ [] → ⊥) → b ≡ true
        by_test true h some = refl
        by_test false h some = absurd (some (no_map _ _ h))

    by_kind : (kind : Kind) → e.kind ≡ kind → is_named x kind ≡ true → NamesOne z x before after
    by_kind Free is h = absurd (cc h)
    by_kind Master is h = absurd (cc h)
    by_kind (Ptr p) is h = by_pointer (ap (is_pointer_block x) is ∙ h)
    by_kind (Rel h) is named = by_handle (ap (is_handle_block x) is ∙ named)

-- where the contents of the block of x begin
pub named-contents : (z : ZoneState) (x : ℕ) (before : ZoneMap) (e : Entry) (after : ZoneMap) → Fits z → z.heap.map ≡ before ++ e ∷ after → is_named x e.kind ≡ true
    → contents_of z.shape x z.heap.map ≡ address_after z.shape before + head_size z.shape.heads
named-contents z x before e after fits map_is named =
    ap (contents_of z.shape x) map_is ∙ contents_of-first z.shape x before e after (names-one z x before e after fits map_is named).none_before named

-- ---- another size

-- The block of x and the free ones right after it, as many bytes together, of which some first ones are to be its own.
pub record Room (z : ZoneState) (x whole size n : ℕ) : Type 0 where
  pub before : ZoneMap
  pub here : Entry
  pub room : ZoneMap
  pub after : ZoneMap
  pub map : z.heap.map ≡ before ++ ((here ∷ room) ++ after)
  pub named : is_named x here.kind ≡ true
  pub free : list_all (λ (e : Entry). is_free e.kind) room ≡ true
  pub sum : here.size + total_size room ≡ whole
  pub fits : CanFront z.shape whole size n

-- what passes no free block passes nothing of it
no_free_block : (at : ℕ) (test : Kind → Bool) (n : ℕ) → test Free ≡ false → addresses_from at test (free_block n) ≡ []
no_free_block at test n free = elim (n == 0) as (λ b. addresses_from at test (cond b [] (block Free n ∷ [])) ≡ []) [ true ↦ refl | false ↦ addresses_from-skip at test (block Free n) [] free ]

-- it has no owner
owners-over : (n : ℕ) → owners (free_block n) ≡ []
owners-over n = elim (n == 0) as (λ b. owners (cond b [] (block Free n ∷ [])) ≡ []) [ true ↦ refl | false ↦ refl ]

module _ (z : ZoneState) (x whole size n : ℕ) (fits : Fits z) (r : Room z x whole size n) where
  -- the map then
  abbrev pub sized_map : ZoneMap
  sized_map = r.before ++ block r.here.kind size ∷ free_block (whole - size) ++ r.after

  -- and the zone
  abbrev pub sized_zone : ZoneState
  sized_zone = with_heap (record { table = sized x n z.heap.table; map = sized_map; free_slots = z.heap.free_slots }) z

  -- x names the one block
  pub sized-one : NamesOne z x r.before (r.room ++ r.after)
  sized-one = names-one z x r.before r.here (r.room ++ r.after) fits r.map r.named

  -- the blocks of the old map and those in their place
  abbrev pub sized_exchange : Exchanged z.heap.map sized_map
  sized_exchange = record {
    before = r.before;
    left = r.here ∷ r.room;
    right = block r.here.kind size ∷ free_block (whole - size);
    after = r.after;
    was = r.map;
    is = append_assoc r.before (block r.here.kind size ∷ free_block (whole - size)) r.after;
    as_large = (let all = total_size-free_block (whole - size) in let sum = r.sum in let within = r.fits.within in omega arith);
  }

  -- what passes no free block passes the same blocks
  sized_same : (test : Kind → Bool) → test Free ≡ false → addresses z.shape test sized_map ≡ addresses z.shape test z.heap.map
  sized_same test free = addresses_from-exchanged z.heap.map sized_map sized_exchange (address_after z.shape []) test
      (let here = address_after z.shape [] + total_size r.before in
      ap (λ found. cond (test r.here.kind) (here ∷ []) [] ++ found) (no_free_block (here + size) test (whole - size) free ∙ sym (free_only (here + r.here.size) test r.room free r.free)))

  abbrev l : Live
  l = refilled (resized n (bytes_of z.heap.table x)) (live_at z.heap.table x)

  abbrev u : HandleTable
  u = with_live x l z.heap.table

  same : Refilled (resized n (bytes_of z.heap.table x)) (live_at z.heap.table x)
  same = refilled_block (resized n (bytes_of z.heap.table x)) (live_at z.heap.table x) sized-one.block

  agree : AgreeBut x z.heap.table u
  agree = with_live_agrees x l z.heap.table

  has : live_at u x ≡ Some l
  has = live_at-with_live_same x l z.heap.table

  -- the zone still fits
  pub sized-fits : Fits sized_zone
  sized-fits = Fits-kept z u sized_map fits
      (λ g. ap length (sized_same (is_handle_block g) refl) ∙ fits.coherent.handles g ∙ ap (λ b. cond b 1 0) (sym (full g)))
      (λ p. contents-same z.shape (is_pointer_block p) z.heap.map sized_map (sized_same (is_pointer_block p) refl) ∙ fits.coherent.pointers p ∙ ap (λ b. cond b (p ∷ []) []) (sym (pointer p)))
      (slots-same z.shape z.heap.map sized_map (sized_same is_master refl))
      (by_number (λ y. is_handle u y ≡ is_handle z.heap.table y) x (ap live_handle has ∙ same.handle) (λ y apart. ap live_handle (agree.others y apart)))
      (in_order-with_live x l z.heap.table fits.coherent.in_order)
      (loans-replaced z.heap sized_zone.heap r.before (r.here ∷ r.room) (block r.here.kind size ∷ free_block (whole - size)) r.after fits.loans refl r.map
      (append_assoc r.before (block r.here.kind size ∷ free_block (whole - size)) r.after)
      (ap (λ os. filter (is_lent z.heap.table) (owner_of r.here.kind ++ os)) (owners-over (whole - size) ∙ sym (owners-free r.room r.free))))
    where
      full : (g : ℕ) → is_full u g ≡ is_full z.heap.table g
      full = by_number (λ y. is_full u y ≡ is_full z.heap.table y) x (ap live_full has ∙ same.full) (λ y apart. ap live_full (agree.others y apart))

      pointer : (p : ℕ) → is_pointer u p ≡ is_pointer z.heap.table p
      pointer = by_number (λ y. is_pointer u y ≡ is_pointer z.heap.table y) x (ap live_pointer has ∙ same.pointer) (λ y apart. ap live_pointer (agree.others y apart))

  -- all master pointers stay
  pub sized-pointers : (y : ℕ) → slot_of sized_zone y ≡ slot_of z y
  sized-pointers = by_number (λ y. slot_of sized_zone y ≡ slot_of z y) x
      (ap (λ o. (slot_of_live z.shape.heads o (contents_of z.shape x sized_map) (next_free z.heap.free_slots x))) has ∙ same.word z.shape.heads (contents_of z.shape x sized_map) (next_free z.heap.free_slots x)
      ∙ ap (λ a. (slot_of_live z.shape.heads (live_at z.heap.table x) a (next_free z.heap.free_slots x))) (contents x))
      (λ y apart. same_slot z sized_zone y refl (agree.others y apart) (contents y) refl)
    where
      contents : (y : ℕ) → contents_of z.shape y sized_map ≡ contents_of z.shape y z.heap.map
      contents y = ap (λ found. slice_index (map (λ a. a + head_size z.shape.heads) found) 0) (sized_same (is_named y) refl)

  -- x has so many bytes
  pub sized-bytes : bytes_of sized_zone.heap.table x ≡ resized n (bytes_of z.heap.table x)
  sized-bytes = ap live_bytes has ∙ same.holds

  -- those of all others stay
  pub sized-other_bytes : (y : ℕ) → (y ≡ x → ⊥) → bytes_of sized_zone.heap.table y ≡ bytes_of z.heap.table y
  sized-other_bytes y other = ap live_bytes (agree.others y (ne_eqb y x other))

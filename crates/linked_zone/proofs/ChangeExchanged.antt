-- What a zone is once two neighbours that may move have changed places.
use Rattle.std.proofs.Common.{◌≡◌, ℕ, ◌+◌, Bool, true, false, cond, List, [], ◌∷◌, ◌++◌, length, map, refl, ap, sym, ◌∙◌, arith, length-append, Option, Some, None}
use Rattle.std.specs.Prelude.{slice_index}
use Rattle.std.proofs.lemmas.List.{nil_from_length}
use Rattle.mac_base.specs.declared.block.Entry.{Entry}
use Rattle.mac_base.specs.declared.block.HeadKind.{HeadKind}
use Rattle.mac_base.specs.declared.block.Kind.{Kind}
use Rattle.mac_base.specs.declared.block.Kind.TheVariants.{Free, Master, Ptr, Rel}
use Rattle.mac_base.specs.HeadKind.{head_size}
use Rattle.mac_base.specs.ZoneMap.{ZoneMap, is_master, is_named, sizes, total_size, address_after, addresses, contents_of}
use Rattle.mac_base.specs.HandleTable.{Live, EmptyHandle, FullHandle, Pointer, is_full}
use Rattle.mac_base.specs.Suits.{is_handle_block, is_pointer_block, slots}
use Rattle.mac_base.specs.ZoneState.{ZoneState}
use Rattle.zone_laws.proofs.GapAppend.{sizes-append, length-addresses_from}
use Rattle.zone_laws.proofs.Maps.{Exchanged, addresses_from-exchanged, addresses_from-skip}
use Rattle.zone_laws.proofs.SuitsTaken.{slots-same, contents-same}
use Rattle.zone_laws.proofs.Tables.{eqb_same}
use Rattle.linked_zone.specs.Changes.{exchanged}
use Rattle.linked_zone.specs.Fit.{Fits}
use Rattle.linked_zone.specs.Following.{moved_to}
use Rattle.linked_zone.specs.Owned.{slot_of_live}
use Rattle.linked_zone.specs.Places.{MovablePair, is_movable}
use Rattle.linked_zone.proofs.ChangeParts.{Fits-kept}
use Rattle.linked_zone.proofs.ChangeSized.{passes-some}
use Rattle.linked_zone.proofs.Lent.{loans-replaced, here-skip}

-- the handle of a block is full
pub rel-full : (z : ZoneState) (h : ℕ) (before : ZoneMap) (e : Entry) (after : ZoneMap) → Fits z → z.heap.map ≡ before ++ e ∷ after → e.kind ≡ Rel h → is_full z.heap.table h ≡ true
rel-full z h before e after fits was kind = by_test (is_full z.heap.table h) (fits.coherent.handles h)
  where
    by_test : (b : Bool) → length (addresses z.shape (is_handle_block h) z.heap.map) ≡ cond b 1 0 → b ≡ true
    by_test true count = refl
    by_test false none = absurd (passes-some (address_after z.shape []) (is_handle_block h) before e after (ap (is_handle_block h) kind ∙ eqb_same h) (ap (addresses z.shape (is_handle_block h)) (sym was) ∙ nil_from_length _ none))

-- a slot whose handle's contents begin elsewhere says so
pub moved-slot : (heads : HeadKind) (o : Option Live) (old new next : ℕ) → slot_of_live heads o new next ≡ moved_to new (slot_of_live heads o old next)
moved-slot heads None old new next = refl
moved-slot heads (Some EmptyHandle) old new next = refl
moved-slot heads (Some (FullHandle flags bytes)) old new next = refl
moved-slot heads (Some (Pointer bytes)) old new next = refl

-- what may move is no pointer's and no master block
no_pointer : (p : ℕ) (kind : Kind) → is_movable kind ≡ true → is_pointer_block p kind ≡ false
no_pointer p Free moves = refl
no_pointer p Master moves = refl
no_pointer p (Ptr q) moves = absurd (cc moves)
no_pointer p (Rel h) moves = refl

no_master : (kind : Kind) → is_movable kind ≡ true → is_master kind ≡ false
no_master Free moves = refl
no_master Master moves = absurd (cc moves)
no_master (Ptr q) moves = refl
no_master (Rel h) moves = refl

module _ (z : ZoneState) (at : ℕ) (pair : MovablePair z at) where
  abbrev now : ZoneState
  now = exchanged z pair

  -- the blocks and those in their place
  abbrev pub pair_exchange : Exchanged z.heap.map (exchanged z pair).heap.map
  pair_exchange = record {
    before = pair.before;
    left = pair.first ∷ pair.second ∷ [];
    right = pair.second ∷ pair.first ∷ [];
    after = pair.after;
    was = pair.map;
    is = refl;
    as_large = omega arith;
  }

  -- what passes neither passes the same
  same_passes : (test : Kind → Bool) → test pair.first.kind ≡ false → test pair.second.kind ≡ false → addresses z.shape test now.heap.map ≡ addresses z.shape test z.heap.map
  same_passes test first second = addresses_from-exchanged z.heap.map now.heap.map pair_exchange (address_after z.shape []) test
      (let a = address_after z.shape [] + total_size pair.before in
      addresses_from-skip a test pair.second (pair.first ∷ []) second ∙ addresses_from-skip (a + pair.second.size) test pair.first [] first
      ∙ sym (addresses_from-skip a test pair.first (pair.second ∷ []) first ∙ addresses_from-skip (a + pair.first.size) test pair.second [] second))

  -- as many blocks pass
  same_count : (test : Kind → Bool) → length (addresses z.shape test now.heap.map) ≡ length (addresses z.shape test z.heap.map)
  same_count test =
      let one : List ℕ = cond (test pair.first.kind) (pair.first.size ∷ []) [] in
      let two : List ℕ = cond (test pair.second.kind) (pair.second.size ∷ []) [] in
      let rest = sizes test pair.after in
      let new = ap length (sizes-append test pair.before (pair.second ∷ pair.first ∷ pair.after)) ∙ length-append (sizes test pair.before) (two ++ (one ++ rest)) in
      let old = ap length (sizes-append test pair.before (pair.first ∷ pair.second ∷ pair.after)) ∙ length-append (sizes test pair.before) (one ++ (two ++ rest)) in
      let new_two = length-append two (one ++ rest) in
      let new_one = length-append one rest in
      let old_one = length-append one (two ++ rest) in
      let old_two = length-append two rest in
      let same : length (sizes test now.heap.map) ≡ length (sizes test (pair.before ++ pair.first ∷ pair.second ∷ pair.after)) = omega arith in
      length-addresses_from (address_after z.shape []) test now.heap.map ∙ same ∙ sym (length-addresses_from (address_after z.shape []) test (pair.before ++ pair.first ∷ pair.second ∷ pair.after)) ∙ ap (λ m. length (addresses z.shape test m)) (sym pair.map)

  -- the slots stay
  pub exchanged-slots : slots z.shape (exchanged z pair).heap.map ≡ slots z.shape z.heap.map
  exchanged-slots = slots-same z.shape z.heap.map now.heap.map (same_passes is_master (no_master pair.first.kind pair.first_moves) (no_master pair.second.kind pair.second_moves))

  -- the zone still fits
  pub exchanged-fits : Fits z → Fits (exchanged z pair)
  exchanged-fits fits = Fits-kept z z.heap.table now.heap.map fits
      (λ g. same_count (is_handle_block g) ∙ fits.coherent.handles g)
      (λ p. contents-same z.shape (is_pointer_block p) z.heap.map now.heap.map (same_passes (is_pointer_block p) (no_pointer p pair.first.kind pair.first_moves) (no_pointer p pair.second.kind pair.second_moves)) ∙ fits.coherent.pointers p)
      exchanged-slots (λ y. refl) fits.coherent.in_order
      (loans-replaced z.heap now.heap pair.before pair_exchange.left pair_exchange.right pair.after fits.loans refl pair.map refl
      (here-skip z.heap.table pair.second (pair.first ∷ []) pair.second_here ∙ here-skip z.heap.table pair.first [] pair.first_here
      ∙ sym (here-skip z.heap.table pair.first (pair.second ∷ []) pair.first_here ∙ here-skip z.heap.table pair.second [] pair.second_here)))

  -- where contents begin that are in neither
  pub exchanged-others : (y : ℕ) → is_named y pair.first.kind ≡ false → is_named y pair.second.kind ≡ false → contents_of z.shape y (exchanged z pair).heap.map ≡ contents_of z.shape y z.heap.map
  exchanged-others y first second = ap (λ found. slice_index (map (λ a. a + head_size z.shape.heads) found) 0) (same_passes (is_named y) first second)

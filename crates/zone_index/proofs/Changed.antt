-- What each change makes of a zone: a part of its map is another, and the blocks elsewhere weigh what they did.
use Rattle.std.proofs.Common.{◌≡◌, ℕ, ◌+◌, ◌-◌, true, false, cond, List, [], ◌∷◌, ◌++◌, Contains, Option, None, Some, drop, inl, inr, refl, ap, sym, ◌∙◌, subst, append-nil, append_assoc, arith}
use Rattle.std.specs.Prelude.{MatchOption, ◌==◌, ◌⊎◌}
use Rattle.mac_base.specs.declared.block.Flags.{Flags}
use Rattle.mac_base.specs.declared.block.Kind.{Kind}
use Rattle.mac_base.specs.declared.block.Kind.TheVariants.{Free, Master, Ptr, Rel}
use Rattle.mac_base.specs.Heap.{Heap}
use Rattle.mac_base.specs.HandleTable.{EmptyHandle, FullHandle, Pointer, bytes_of, is_pointer, live_at, no_flags, resized, with_bytes, zeros}
use Rattle.mac_base.specs.HeadKind.{head_size, zone_header}
use Rattle.mac_base.specs.Loans.{lent_out, returned}
use Rattle.mac_base.specs.ZoneMap.{ZoneMap, block, free_block, total_size, address_after}
use Rattle.mac_base.specs.ZoneState.{ZoneState, with_heap}
use Rattle.zone_laws.proofs.Arranging.{total_size-free_block}
use Rattle.zone_laws.proofs.Maps.{total_size-append}
use Rattle.zone_laws.proofs.ReleasedBlocks.{total_size-marked}
use Rattle.zone_laws.proofs.SlotPlaces.{Contains-here}
use Rattle.zone_laws.proofs.Tables.{eqb_same, with_live_agrees}
use Rattle.linked_zone.specs.Changes.{carried_up, cut_in_two, enlarged, extended, fixed, flagged, freed, given_back, held_there, joined_pair, pointed, relocated, sized, sunk, taken, unfixed, with_master, without_block}
use Rattle.linked_zone.specs.Fit.{Fits}
use Rattle.linked_zone.specs.Places.{BlockOf, CanCut, CanGrow, CanHold, EntryAt, FreeAt, FreePair, NamedAt, ParcelAt, ParcelUpTo}
use Rattle.zone_index.specs.Walk.{AllBelow}
use Rattle.zone_index.specs.Weights.{weights}
use Rattle.zone_index.proofs.Begun.{below-end}
use Rattle.zone_index.proofs.Bytes.{weights-bytes, weights-same}
use Rattle.zone_index.proofs.Named.{NamesOne, freed-around, freed-one, names-one}
use Rattle.zone_index.proofs.Tables.{Bare, bare-empty, bare-new, bare-no_handle, bare-pointer, weights-apart, weights-with_live, weights-without}

-- Another heap's map is the old one but for a part, whose blocks begin from one address on and at another or below.
pub record Renews (z : ZoneState) (heap : Heap) (from to : ℕ) : Type 0 where
  pub front : ZoneMap
  pub was : ZoneMap
  pub is : ZoneMap
  pub back : ZoneMap
  pub map_was : z.heap.map ≡ front ++ (was ++ back)
  pub map_is : heap.map ≡ front ++ (is ++ back)
  pub same_front : weights heap.table front ≡ weights z.heap.table front
  pub same_back : weights heap.table back ≡ weights z.heap.table back
  pub place : from ≡ address_after z.shape front
  pub below_was : AllBelow (to + 1) from was
  pub below_is : AllBelow (to + 1) from is
  pub ends : (back ≡ []) ⊎ (total_size is ≡ total_size was)

-- One block of a zone is another of as many bytes, and all others weigh what they did.
pub record OneOther (z : ZoneState) (heap : Heap) (at : ℕ) : Type 0 where
  pub before : ZoneMap
  pub was : Kind
  pub is : Kind
  pub size : ℕ
  pub after : ZoneMap
  pub map_was : z.heap.map ≡ before ++ block was size ∷ after
  pub map_is : heap.map ≡ before ++ block is size ∷ after
  pub place : at ≡ address_after z.shape before
  pub same_front : weights heap.table before ≡ weights z.heap.table before
  pub same_back : weights heap.table after ≡ weights z.heap.table after

abbrev pub other-renews : (z : ZoneState) (heap : Heap) (at : ℕ) → OneOther z heap at → Renews z heap at at
other-renews z heap at o = record {
  front = o.before;
  was = block o.was o.size ∷ [];
  is = block o.is o.size ∷ [];
  back = o.after;
  map_was = o.map_was;
  map_is = o.map_is;
  same_front = o.same_front;
  same_back = o.same_back;
  place = o.place;
  below_was = (omega arith, tt);
  below_is = (omega arith, tt);
  ends = inr refl;
}

-- the first of two free neighbours
abbrev pub first_free : (z : ZoneState) {at : ℕ} → FreePair z at → FreeAt z at
first_free z pair = record { before = pair.before; size = pair.first; after = block Free pair.second ∷ pair.after; map = pair.map; place = pair.place }

-- the block after a run
abbrev pub last_entry : (z : ZoneState) {start at : ℕ} → ParcelUpTo z start at → EntryAt z at
last_entry z parcel = record {
  before = parcel.before ++ parcel.blocks;
  here = parcel.here;
  after = parcel.after;
  map = parcel.map ∙ sym (append_assoc parcel.before parcel.blocks (parcel.here ∷ parcel.after));
  place = (let all = total_size-append parcel.before parcel.blocks in let place = parcel.place in let long = parcel.long in omega arith);
}

-- what is over begins at one place
pub one_below : (n at : ℕ) → AllBelow (at + 1) at (free_block n)
one_below n at = elim (n == 0) as (λ b. AllBelow (at + 1) at (cond b [] (block Free n ∷ []))) [ true ↦ tt | false ↦ (omega arith, tt) ]

module _ (z : ZoneState) where
  abbrev pub split-renews : {at size : ℕ} (can : CanCut z at size) → Renews z (cut_in_two size z can.free).heap at (at + size)
  split-renews {at} {size} can = record {
    front = can.free.before;
    was = block Free can.free.size ∷ [];
    is = block Free size ∷ block Free (can.free.size - size) ∷ [];
    back = can.free.after;
    map_was = can.free.map;
    map_is = refl;
    same_front = refl;
    same_back = refl;
    place = can.free.place;
    below_was = (omega arith, tt);
    below_is = (omega arith, (omega arith, tt));
    ends = inr (let smaller = can.smaller in omega arith);
  }

  abbrev pub merge-renews : {at : ℕ} (pair : FreePair z at) → Renews z (joined_pair z pair).heap at (at + pair.first)
  merge-renews {at} pair = record {
    front = pair.before;
    was = block Free pair.first ∷ block Free pair.second ∷ [];
    is = block Free (pair.first + pair.second) ∷ [];
    back = pair.after;
    map_was = pair.map;
    map_is = refl;
    same_front = refl;
    same_back = refl;
    place = pair.place;
    below_was = (omega arith, (omega arith, tt));
    below_is = (omega arith, tt);
    ends = inr (omega arith);
  }

  abbrev pub carry-renews : {at end : ℕ} (parcel : ParcelAt z at end) → Renews z (carried_up z parcel).heap at end
  carry-renews {at} {end} parcel =
      let all = total_size-append parcel.blocks (parcel.here ∷ []) in
      let long = parcel.long in
      record {
        front = parcel.before;
        was = parcel.here ∷ parcel.blocks;
        is = parcel.blocks ++ parcel.here ∷ [];
        back = parcel.after;
        map_was = parcel.map;
        map_is = ap (λ m. parcel.before ++ m) (sym (append_assoc parcel.blocks (parcel.here ∷ []) parcel.after));
        same_front = refl;
        same_back = refl;
        place = parcel.place;
        below_was = below-end (end + 1) at (parcel.here ∷ parcel.blocks) (omega arith);
        below_is = below-end (end + 1) at (parcel.blocks ++ parcel.here ∷ []) (omega arith);
        ends = inr (omega arith);
      }

  abbrev pub sink-renews : {start at : ℕ} (parcel : ParcelUpTo z start at) → Renews z (sunk z parcel).heap start (at + parcel.here.size)
  sink-renews {start} {at} parcel =
      let all = total_size-append parcel.blocks (parcel.here ∷ []) in
      let long = parcel.long in
      record {
        front = parcel.before;
        was = parcel.blocks ++ parcel.here ∷ [];
        is = parcel.here ∷ parcel.blocks;
        back = parcel.after;
        map_was = parcel.map ∙ ap (λ m. parcel.before ++ m) (sym (append_assoc parcel.blocks (parcel.here ∷ []) parcel.after));
        map_is = refl;
        same_front = refl;
        same_back = refl;
        place = parcel.place;
        below_was = below-end (at + parcel.here.size + 1) start (parcel.blocks ++ parcel.here ∷ []) (omega arith);
        below_is = below-end (at + parcel.here.size + 1) start (parcel.here ∷ parcel.blocks) (omega arith);
        ends = inr (omega arith);
      }

  abbrev pub held-renews : {x size n at : ℕ} (can : CanHold z x size n) → at ≡ address_after z.shape can.before → Renews z (held_there z can).heap at (at + size)
  held-renews {x} {size} {n} {at} can place =
      let bytes = resized n (bytes_of z.heap.table x) in
      let over = total_size-free_block (can.here.size - size) in
      let within = can.fits.within in
      record {
        front = can.before;
        was = can.here ∷ [];
        is = block can.here.kind size ∷ free_block (can.here.size - size);
        back = can.after;
        map_was = can.map;
        map_is = append_assoc can.before (block can.here.kind size ∷ free_block (can.here.size - size)) can.after;
        same_front = weights-bytes z.heap.table x bytes can.before;
        same_back = weights-bytes z.heap.table x bytes can.after;
        place = place;
        below_was = (omega arith, tt);
        below_is = (omega arith, one_below (can.here.size - size) (at + size));
        ends = inr (omega arith);
      }

  abbrev pub grown-renews : {x size n at : ℕ} (can : CanGrow z x size n) → at ≡ address_after z.shape can.before → Renews z (enlarged z can).heap at (at + size)
  grown-renews {x} {size} {n} {at} can place =
      let bytes = resized n (bytes_of z.heap.table x) in
      let over = total_size-free_block (can.here.size + can.free - size) in
      let within = can.fits.within in
      let larger = can.larger in
      record {
        front = can.before;
        was = can.here ∷ block Free can.free ∷ [];
        is = block can.here.kind size ∷ free_block (can.here.size + can.free - size);
        back = can.after;
        map_was = can.map;
        map_is = append_assoc can.before (block can.here.kind size ∷ free_block (can.here.size + can.free - size)) can.after;
        same_front = weights-bytes z.heap.table x bytes can.before;
        same_back = weights-bytes z.heap.table x bytes can.after;
        place = place;
        below_was = (omega arith, (omega arith, tt));
        below_is = (omega arith, one_below (can.here.size + can.free - size) (at + size));
        ends = inr (omega arith);
      }

  abbrev pub extended-renews : {end : ℕ} → end ≡ address_after z.shape z.heap.map → Renews z (extended z).heap end end
  extended-renews {end} place = record {
    front = z.heap.map;
    was = [];
    is = free_block (z.shape.limit - (zone_header + total_size z.heap.map));
    back = [];
    map_was = sym (append-nil z.heap.map);
    map_is = ap (λ m. z.heap.map ++ m) (sym (append-nil (free_block (z.shape.limit - (zone_header + total_size z.heap.map)))));
    same_front = refl;
    same_back = refl;
    place = place;
    below_was = tt;
    below_is = one_below (z.shape.limit - (zone_header + total_size z.heap.map)) end;
    ends = inl refl;
  }

  module _ {at : ℕ} (free : FreeAt z at) where
    -- a free block is another's
    abbrev given : (heap : Heap) (is : Kind) → heap.map ≡ free.before ++ block is free.size ∷ free.after → weights heap.table free.before ≡ weights z.heap.table free.before → weights heap.table free.after ≡ weights z.heap.table free.after → OneOther z heap at
    given heap is map front back = record { before = free.before; was = Free; is = is; size = free.size; after = free.after; map_was = free.map; map_is = map; place = free.place; same_front = front; same_back = back }

    abbrev pub pointed-other : (h k : ℕ) → live_at z.heap.table h ≡ Some EmptyHandle → OneOther z (pointed h k z free).heap at
    pointed-other h k empty =
        let same = weights-with_live h (FullHandle no_flags (zeros k)) z.heap.table (subst Bare (sym empty) bare-empty) (bare-new (zeros k)) in
        given (pointed h k z free).heap (Rel h) refl (same free.before) (same free.after)

    abbrev pub fixed-other : (k : ℕ) → Fits (fixed k z free) → OneOther z (fixed k z free).heap at
    fixed-other k fits =
        let p : ℕ = at + head_size z.shape.heads in
        let one = names-one (fixed k z free) p free.before (block (Ptr p) free.size) free.after fits refl (eqb_same p) in
        let agree = with_live_agrees p (Pointer (zeros k)) z.heap.table in
        given (fixed k z free).heap (Ptr p) refl (weights-apart p z.heap.table (fixed k z free).heap.table agree free.before one.front) (weights-apart p z.heap.table (fixed k z free).heap.table agree free.after one.back)

    abbrev pub master-other : OneOther z (with_master z free).heap at
    master-other = given (with_master z free).heap Master refl refl refl

  abbrev pub unfixed-other : {at : ℕ} (p : ℕ) → Fits z → NamedAt z p at → is_pointer z.heap.table p ≡ true → OneOther z (unfixed p z).heap at
  unfixed-other p fits b live =
      let one = names-one z p b.before b.here b.after fits b.map b.named in
      let same = weights-without p z.heap.table (bare-pointer (live_at z.heap.table p) live) in
      record {
        before = b.before;
        was = b.here.kind;
        is = Free;
        size = b.here.size;
        after = b.after;
        map_was = b.map;
        map_is = freed-one p z.heap.map b.before b.here b.after b.map b.named one;
        place = b.place;
        same_front = same b.before;
        same_back = same b.after;
      }

  module _ {at : ℕ} (h : ℕ) (fits : Fits z) (b : BlockOf z h at) where
    -- a handle's block is another, and the table is another for the handle alone
    abbrev owned : (heap : Heap) (is : Kind) → heap.map ≡ b.before ++ block is b.size ∷ b.after → weights heap.table b.before ≡ weights z.heap.table b.before → weights heap.table b.after ≡ weights z.heap.table b.after → OneOther z heap at
    owned heap is map front back = record { before = b.before; was = Rel h; is = is; size = b.size; after = b.after; map_was = b.map; map_is = map; place = b.place; same_front = front; same_back = back }

    abbrev one_block : NamesOne h b.before b.after
    one_block = names-one z h b.before (block (Rel h) b.size) b.after fits b.map (eqb_same h)

    pub map_freed : freed h z.heap.map ≡ b.before ++ block Free b.size ∷ b.after
    map_freed = freed-one h z.heap.map b.before (block (Rel h) b.size) b.after b.map (eqb_same h) one_block

    abbrev pub emptied-other : OneOther z (without_block h z).heap at
    emptied-other =
        let agree = with_live_agrees h EmptyHandle z.heap.table in
        owned (without_block h z).heap Free map_freed (weights-apart h z.heap.table (without_block h z).heap.table agree b.before one_block.front) (weights-apart h z.heap.table (without_block h z).heap.table agree b.after one_block.back)

    abbrev pub flagged-other : (flags : Flags) → OneOther z (flagged h flags z).heap at
    flagged-other flags =
        let agree = with_live_agrees h (FullHandle flags (bytes_of z.heap.table h)) z.heap.table in
        owned (flagged h flags z).heap (Rel h) b.map (weights-apart h z.heap.table (flagged h flags z).heap.table agree b.before one_block.front) (weights-apart h z.heap.table (flagged h flags z).heap.table agree b.after one_block.back)

    -- relocated: the old block is free first, with as many bytes as wanted
    abbrev pub emptied_first : ℕ → Heap
    emptied_first k = record { table = sized h k z.heap.table; map = freed h z.heap.map; free_slots = z.heap.free_slots }

    abbrev pub moved_out-other : (k : ℕ) → OneOther z (emptied_first k) at
    moved_out-other k =
        let bytes = resized k (bytes_of z.heap.table h) in
        owned (emptied_first k) Free map_freed (weights-bytes z.heap.table h bytes b.before) (weights-bytes z.heap.table h bytes b.after)

    -- and then the free one is the handle's
    abbrev pub moved_in-other : (k : ℕ) {to : ℕ} (free : FreeAt z to) → OneOther (with_heap (emptied_first k) z) (relocated h k z free).heap to
    moved_in-other k free = record {
      before = freed h free.before;
      was = Free;
      is = Rel h;
      size = free.size;
      after = freed h free.after;
      map_was = freed-around h z.heap.map free.before free.size free.after free.map;
      map_is = refl;
      place = (let place = free.place in let same = total_size-marked h free.before in omega arith);
      same_front = refl;
      same_back = refl;
    }

  -- a free slot is given
  pub taken-weights : Fits z → (h : ℕ) → z.heap.free_slots ≡ h ∷ drop 1 z.heap.free_slots → weights (taken h z).heap.table z.heap.map ≡ weights z.heap.table z.heap.map
  taken-weights fits h is =
      let here : Contains z.heap.free_slots h = subst (λ xs. Contains xs h) (sym is) (Contains-here h (drop 1 z.heap.free_slots)) in
      weights-with_live h EmptyHandle z.heap.table (bare-no_handle (live_at z.heap.table h) ((fits.slots.free h).0 here).1) bare-empty z.heap.map

  pub released-weights : (h : ℕ) → live_at z.heap.table h ≡ Some EmptyHandle → weights (given_back h z).heap.table z.heap.map ≡ weights z.heap.table z.heap.map
  released-weights h empty = weights-without h z.heap.table (subst Bare (sym empty) bare-empty) z.heap.map

  pub lent-weights : (x : ℕ) → weights (lent_out x z.heap).table z.heap.map ≡ weights z.heap.table z.heap.map
  lent-weights x = weights-same z.heap.table (lent_out x z.heap).table (λ h. refl) (λ h. refl) z.heap.map

  pub returned-weights : (x : ℕ) (bytes : List ℕ) → weights (returned x bytes z.heap).table z.heap.map ≡ weights z.heap.table z.heap.map
  returned-weights x bytes = weights-same (with_bytes x bytes z.heap.table) (returned x bytes z.heap).table (λ h. refl) (λ h. refl) z.heap.map ∙ weights-bytes z.heap.table x bytes z.heap.map

-- what a zone keeps whose blocks weigh what they did, one keeps whose free slot is given, if it has one
pub taken-kept : (P : ZoneState → Type 0) (z : ZoneState) → ((heap : Heap) → heap.map ≡ z.heap.map → weights heap.table z.heap.map ≡ weights z.heap.table z.heap.map → P (with_heap heap z)) → Fits z → (o : Option ℕ) (new : ZoneState) → P z
    → MatchOption o ((z.heap.free_slots ≡ []) × (new ≡ z)) (λ h. (z.heap.free_slots ≡ h ∷ drop 1 z.heap.free_slots) × (new ≡ taken h z)) → P new
taken-kept P z still fits None new same is = subst P (sym is.1) same
taken-kept P z still fits (Some h) new same is = subst P (sym is.1) (still (taken h z).heap refl (taken-weights z fits h is.0))

-- A run pressed up, run of used blocks by run of used blocks.
use Rattle.std.proofs.Common.{◌≡◌, ℕ, ◌+◌, ◌<◌, ◌≤◌, Bool, true, not, cond, [], ◌∷◌, ◌++◌, refl, ap, sym, ◌∙◌, subst, append_assoc, append-nil, arith, IsTrue}
use Rattle.std.specs.List.{list_all}
use Rattle.mac_base.specs.declared.block.Entry.{Entry}
use Rattle.mac_base.specs.declared.block.Kind.TheVariants.{Free}
use Rattle.mac_base.specs.Arrangement.{used_blocks, up}
use Rattle.mac_base.specs.Suits.{is_block_size}
use Rattle.mac_base.specs.ZoneMap.{ZoneMap, block, free_block, is_free, total_size, free_bytes, address_after}
use Rattle.mac_base.specs.ZoneState.{ZoneState}
use Rattle.zone_laws.proofs.Arranging.{free_bytes-all_used, used_blocks-same, up-IsArrangement}
use Rattle.zone_laws.proofs.GapAppend.{free_bytes-append}
use Rattle.zone_laws.proofs.GapApart.{sizes_possible, free_bytes-possible}
use Rattle.zone_laws.proofs.Maps.{total_size-append}
use Rattle.zone_laws.proofs.Fitting.{free_block-some}
use Rattle.linked_zone.specs.Changes.{with_map, joined_pair, sunk}
use Rattle.linked_zone.specs.Fit.{HasSizes}
use Rattle.linked_zone.specs.Places.{EntryAt, FreePair, ParcelUpTo, all_can_move, none_free}
use Rattle.zone_index.specs.Runs.{none_fixed}
use Rattle.zone_index.proofs.Sizes.{all_parts, first_bytes}
use Rattle.zone_heap.specs.Runs.{RunAt, UsedFrom, LastFree, arranged}
use Rattle.zone_heap.proofs.Between.{parcel_up_loose, previous_block}
use Rattle.zone_heap.proofs.Lasts.{Last, some_last}
use Rattle.zone_heap.proofs.Pressing.{free_entry, used-front, free-front, run_sizes}
use Rattle.zone_index.proofs.SomeBytes.{all_both, no_bytes}

-- up with a free block more
up-free : (e : Entry) (m : ZoneMap) → is_free e.kind ≡ true → up (e ∷ m) ≡ free_block (e.size + free_bytes m) ++ used_blocks m
up-free e m free = ap (λ c. free_block (cond c e.size 0 + free_bytes m) ++ cond (not c) (e ∷ used_blocks m) (used_blocks m)) free

-- or with blocks in use more
up-used : (used m : ZoneMap) → none_free used ≡ true → up (used ++ m) ≡ free_block (free_bytes m) ++ (used ++ used_blocks m)
up-used used m none = ap (λ n. free_block n ++ used_blocks (used ++ m)) (free-front used m none) ∙ ap (λ u. free_block (free_bytes m) ++ u) (used-front used m none)

-- blocks in use stay
up-none : (m : ZoneMap) → none_free m ≡ true → up m ≡ m
up-none m none = ap (λ n. free_block n ++ used_blocks m) (free_bytes-all_used m none) ∙ used_blocks-same m none

-- as those above a free block do
up-first : (n : ℕ) (used : ZoneMap) → 0 < n → none_free used ≡ true → up (block Free n ∷ used) ≡ block Free n ∷ used
up-first n used some none =
    let no = free_bytes-all_used used none in
    let all : n + free_bytes used ≡ n = omega arith in
    up-free (block Free n) used refl ∙ ap (λ n. free_block n ++ used_blocks used) all ∙ ap (λ b. b ++ used_blocks used) (free_block-some n some) ∙ ap (λ u. block Free n ∷ u) (used_blocks-same used none)

-- The last blocks of a run are pressed up, some free ones among them, and the others are to come.
pub record Lifting {start end : ℕ} (z : ZoneState) (run : RunAt z start end) (new : ZoneState) (low : ℕ) : Type 0 where
  pub rest : ZoneMap
  pub done : ZoneMap
  pub parts : run.blocks ≡ rest ++ done
  pub zone : new ≡ with_map (run.before ++ (rest ++ (up done ++ run.after))) z
  pub low_is : low ≡ start + total_size rest
  pub some : 0 < free_bytes done

-- the last of these blocks is free
pub record Under (rest : ZoneMap) : Type 0 where
  pub front : ZoneMap
  pub here : Entry
  pub is : rest ≡ front ++ here ∷ []
  pub unused : is_free here.kind ≡ true

module _ {start end : ℕ} (z : ZoneState) (run : RunAt z start end) where
  -- where no block is free all stay
  pub none_lifted : none_free run.blocks ≡ true → z ≡ arranged z run (up run.blocks)
  none_lifted none = ap (λ m. with_map m z) run.map ∙ ap (arranged z run) (sym (up-none run.blocks none))

  -- at first the blocks above the last free one stay
  pub first_lifted : HasSizes z → (at : ℕ) → LastFree run.blocks start at → Lifting z run z at
  first_lifted sizes at f =
      let here = block Free f.size in
      let some = first_bytes z.shape here f.used (all_parts _ f.front (here ∷ f.used) (subst (λ m. sizes_possible z.shape m ≡ true) f.parts (run_sizes z run sizes))).1 in
      record {
        rest = f.front;
        done = here ∷ f.used;
        parts = f.parts;
        zone = ap (λ m. with_map m z)
            (run.map ∙ ap (λ b. run.before ++ (b ++ run.after)) f.parts ∙ ap (λ m. run.before ++ m) (append_assoc f.front (here ∷ f.used) run.after)
            ∙ ap (λ u. run.before ++ (f.front ++ (u ++ run.after))) (sym (up-first f.size f.used some f.none)));
        low_is = f.place;
        some = omega arith;
      }

  module _ (new : ZoneState) (low : ℕ) (l : Lifting z run new low) where
    abbrev bytes : ℕ
    bytes = free_bytes l.done

    -- what lies above the free bytes
    abbrev tail : ZoneMap
    tail = used_blocks l.done ++ run.after

    pub map_low : new.heap.map ≡ run.before ++ (l.rest ++ (up l.done ++ run.after))
    map_low = ap (λ (w : ZoneState). w.heap.map) l.zone

    pub map_free : new.heap.map ≡ run.before ++ (l.rest ++ block Free bytes ∷ tail)
    map_free = map_low ∙ ap (λ b. run.before ++ (l.rest ++ ((b ++ used_blocks l.done) ++ run.after))) (free_block-some bytes l.some)

    pub place_start : start ≡ address_after new.shape run.before
    place_start = run.place ∙ ap (λ (w : ZoneState). address_after w.shape run.before) (sym l.zone)

    pub place_low : low ≡ address_after new.shape (run.before ++ l.rest)
    place_low = let first = place_start in let at = l.low_is in let all = total_size-append run.before l.rest in omega arith

    -- the free bytes are a block
    abbrev pub entry_low : EntryAt new low
    entry_low = record { before = run.before ++ l.rest; here = block Free bytes; after = tail; map = map_free ∙ sym (append_assoc run.before l.rest (block Free bytes ∷ tail)); place = place_low }

    pub moves_low : IsTrue (all_can_move new.heap.table l.rest)
    moves_low = ap (λ (w : ZoneState). all_can_move w.heap.table l.rest) l.zone ∙ (all_parts _ l.rest l.done (subst (λ m. all_can_move z.heap.table m ≡ true) l.parts run.moves)).0

    pub loose_low : IsTrue (none_fixed new.heap.table l.rest)
    loose_low = ap (λ (w : ZoneState). none_fixed w.heap.table l.rest) l.zone ∙ (all_parts _ l.rest l.done (subst (λ m. none_fixed z.heap.table m ≡ true) l.parts run.loose)).0

    -- what is to come is a run
    abbrev pub run_low : RunAt new start low
    run_low = record { before = run.before; blocks = l.rest; after = up l.done ++ run.after; map = map_low; place = place_start; long = l.low_is; moves = moves_low; loose = loose_low }

    run_parts : HasSizes z → (sizes_possible z.shape run.before ≡ true) × (sizes_possible z.shape run.blocks ≡ true) × (sizes_possible z.shape run.after ≡ true)
    run_parts sizes =
        let outer = all_parts (λ (e : Entry). is_block_size z.shape e.size) run.before (run.blocks ++ run.after) (ap (sizes_possible z.shape) (sym run.map) ∙ sizes) in
        let inner = all_parts (λ (e : Entry). is_block_size z.shape e.size) run.blocks run.after outer.1 in
        (outer.0, inner.0, inner.1)

    rest_sizes : HasSizes z → (sizes_possible z.shape l.rest ≡ true) × (sizes_possible z.shape l.done ≡ true)
    rest_sizes sizes = all_parts (λ (e : Entry). is_block_size z.shape e.size) l.rest l.done (ap (sizes_possible z.shape) (sym l.parts) ∙ (run_parts sizes).1)

    -- sizes are possible
    pub sizes_low : HasSizes z → HasSizes new
    sizes_low sizes =
        let p : Entry → Bool = λ e. is_block_size z.shape e.size in
        let middle : list_all p (up l.done) ≡ true = (up-IsArrangement l.done).kept p (rest_sizes sizes).1 (free_bytes-possible z.shape l.done (rest_sizes sizes).1) in
        subst HasSizes (sym l.zone) (all_both p run.before (l.rest ++ (up l.done ++ run.after)) (run_parts sizes).0 (all_both p l.rest (up l.done ++ run.after) (rest_sizes sizes).0 (all_both p (up l.done) run.after middle (run_parts sizes).2)))

    -- above the start a block lies below
    pub not_first : start < low → (entry_low).before ≡ [] → ⊥
    not_first above none = let at = l.low_is in let no = ap total_size none in let all = total_size-append run.before l.rest in absurd (omega arith)

    -- at the start all are pressed
    pub all_lifted : HasSizes z → low ≤ start → new ≡ arranged z run (up run.blocks)
    all_lifted sizes below =
        let at = l.low_is in
        let none = no_bytes z.shape l.rest (rest_sizes sizes).0 (omega arith) in
        let whole : l.done ≡ run.blocks = ap (λ m. m ++ l.done) (sym none) ∙ sym l.parts in
        l.zone ∙ ap (λ m. with_map (run.before ++ (m ++ (up l.done ++ run.after))) z) none ∙ ap (λ m. arranged z run (up m)) whole

    -- the step is done once the map is that of some blocks more
    further : (rest m : ZoneMap) → l.rest ≡ rest ++ m → (after : ZoneState) (at : ℕ) (map : ZoneMap) → after ≡ with_map map new → map ≡ run.before ++ (rest ++ (up (m ++ l.done) ++ run.after)) → at ≡ start + total_size rest → Lifting z run after at
    further rest m is after at map there same at_is = record {
      rest = rest;
      done = m ++ l.done;
      parts = l.parts ∙ ap (λ r. r ++ l.done) is ∙ append_assoc rest m l.done;
      zone = there ∙ ap (with_map map) l.zone ∙ ap (λ m. with_map m z) same;
      low_is = at_is;
      some = (let all = free_bytes-append m l.done in let some = l.some in omega arith);
    }

    -- blocks in use lie right below, from an address on
    module _ (at : ℕ) (u : UsedFrom l.rest start at) where
      rest_is : run.before ++ (l.rest ++ block Free bytes ∷ tail) ≡ (run.before ++ u.rest) ++ (u.used ++ block Free bytes ∷ tail)
      rest_is = ap (λ r. run.before ++ (r ++ block Free bytes ∷ tail)) u.parts ∙ ap (λ m. run.before ++ m) (append_assoc u.rest u.used (block Free bytes ∷ tail)) ∙ sym (append_assoc run.before u.rest (u.used ++ block Free bytes ∷ tail))

      -- with the free block they are a parcel
      pub parcel_low : ParcelUpTo new at low
      parcel_low = record {
        before = run.before ++ u.rest;
        blocks = u.used;
        here = block Free bytes;
        after = tail;
        map = map_free ∙ rest_is;
        place = (let first = place_start in let here = u.place in let all = total_size-append run.before u.rest in omega arith);
        long = (let low = l.low_is in let here = u.place in let all = ap total_size u.parts ∙ total_size-append u.rest u.used in omega arith);
        moves = all_both _ u.used (block Free bytes ∷ []) (all_parts _ u.rest u.used (ap (all_can_move new.heap.table) (sym u.parts) ∙ moves_low)).1 refl;
      }

      -- none of them is fixed
      pub loose_parcel : HasSizes z → (parcel : ParcelUpTo new at low) → IsTrue (none_fixed new.heap.table (parcel.blocks ++ parcel.here ∷ []))
      unfolding parcel_low
      loose_parcel sizes parcel =
          parcel_up_loose new at low (sizes_low sizes) parcel_low (all_both _ u.used (block Free bytes ∷ []) (all_parts _ u.rest u.used (ap (none_fixed new.heap.table) (sym u.parts) ∙ loose_low)).1 refl) parcel

      -- the free block sinks below them
      pub sunk_low : (after : ZoneState) → ((parcel : ParcelUpTo new at low) → after ≡ sunk new parcel) → Lifting z run after at
      unfolding parcel_low
      sunk_low after is =
          let b : ZoneMap = block Free bytes ∷ [] in
          let same : (run.before ++ u.rest) ++ (b ++ (u.used ++ tail)) ≡ run.before ++ (u.rest ++ ((b ++ (u.used ++ used_blocks l.done)) ++ run.after)) = simp append_assoc in
          further u.rest u.used u.parts after at _ (is parcel_low)
          (same ∙ ap (λ b. run.before ++ (u.rest ++ ((b ++ (u.used ++ used_blocks l.done)) ++ run.after))) (sym (free_block-some bytes l.some)) ∙ ap (λ u'. run.before ++ (u.rest ++ (u' ++ run.after))) (sym (up-used u.used l.done u.none))) u.place

      -- where there are none a free block lies below
      pub under : HasSizes z → start < low → low ≤ at → Under l.rest
      under sizes above none =
          let low = l.low_is in
          let here = u.place in
          let parts = ap total_size u.parts ∙ total_size-append u.rest u.used in
          let no = no_bytes z.shape u.used (all_parts _ u.rest u.used (ap (sizes_possible z.shape) (sym u.parts) ∙ (rest_sizes sizes).0)).1 (omega arith) in
          let m : Last u.rest = some_last u.rest (omega arith) in
          record { front = m.front; here = m.here; is = u.parts ∙ ap (λ r. u.rest ++ r) no ∙ append-nil u.rest ∙ m.is; unused = u.ends m.front m.here m.is }

    -- a free block lies below
    module _ (f : Under l.rest) (sizes : HasSizes z) (below : ℕ) (e : EntryAt new below) (there : low ≡ below + (e.here).size) where
      map_under : new.heap.map ≡ ((run.before ++ f.front) ++ f.here ∷ []) ++ (block Free bytes ∷ tail)
      map_under =
          let same : run.before ++ ((f.front ++ f.here ∷ []) ++ block Free bytes ∷ tail) ≡ ((run.before ++ f.front) ++ f.here ∷ []) ++ (block Free bytes ∷ tail) = simp append_assoc in
          map_free ∙ ap (λ r. run.before ++ (r ++ block Free bytes ∷ tail)) f.is ∙ same

      -- the one that is read
      is_under : (e.here ≡ f.here) × (total_size e.before ≡ total_size (run.before ++ f.front))
      is_under = previous_block new low (run.before ++ f.front) f.here (block Free bytes ∷ tail) (sizes_low sizes) map_under
          (place_low ∙ ap (λ r. address_after new.shape (run.before ++ r)) f.is ∙ ap (address_after new.shape) (sym (append_assoc run.before f.front (f.here ∷ [])))) below e there

      place_under : below ≡ address_after new.shape (run.before ++ f.front)
      place_under = let same = is_under.1 in let here = e.place in omega arith

      -- with the free bytes above
      pub pair_under : FreePair new below
      pair_under = record {
        before = run.before ++ f.front;
        first = (f.here).size;
        second = bytes;
        after = tail;
        map = map_under ∙ append_assoc (run.before ++ f.front) (f.here ∷ []) (block Free bytes ∷ tail) ∙ ap (λ e. (run.before ++ f.front) ++ e ∷ block Free bytes ∷ tail) (free_entry f.here f.unused);
        place = place_under;
      }

      -- they are joined
      pub joined_under : (after : ZoneState) → ((pair : FreePair new below) → after ≡ joined_pair new pair) → Lifting z run after below
      unfolding pair_under
      joined_under after is =
          let all = (f.here).size + bytes in
          let some = l.some in
          let first = place_start in
          let here = place_under in
          let low = total_size-append run.before f.front in
          further f.front (f.here ∷ []) f.is after below _ (is pair_under)
          (append_assoc run.before f.front (block Free all ∷ tail) ∙ ap (λ b. run.before ++ (f.front ++ ((b ++ used_blocks l.done) ++ run.after))) (sym (free_block-some all (omega arith)))
          ∙ ap (λ u. run.before ++ (f.front ++ (u ++ run.after))) (sym (up-free f.here l.done f.unused))) (omega arith)

-- A run pressed down, run of used blocks by run of used blocks.
use Rattle.std.proofs.Common.{◌≡◌, ℕ, ◌+◌, ◌-◌, ◌<◌, ◌≤◌, true, false, not, cond, [], ◌∷◌, ◌++◌, refl, ap, sym, ◌∙◌, subst, append_assoc, append-nil, arith, IsTrue}
use Rattle.std.specs.Prelude.{Bool}
use Rattle.std.specs.List.{list_all}
use Rattle.std.proofs.lemmas.List.Elements.{filter-append}
use Rattle.mac_base.specs.declared.block.Entry.{Entry}
use Rattle.mac_base.specs.declared.block.Kind.{Kind}
use Rattle.mac_base.specs.declared.block.Kind.TheVariants.{Free}
use Rattle.mac_base.specs.ZoneMap.{ZoneMap, block, free_block, is_free, total_size, free_bytes, address_after}
use Rattle.mac_base.specs.ZoneState.{ZoneState}
use Rattle.mac_base.specs.Arrangement.{used_blocks, down}
use Rattle.mac_base.specs.Suits.{is_block_size}
use Rattle.zone_laws.proofs.GapAppend.{free_bytes-append}
use Rattle.zone_laws.proofs.Arranging.{free_is, free_bytes-all_used, total_size-used, used_blocks-same, down-IsArrangement}
use Rattle.zone_laws.proofs.GapApart.{sizes_possible, free_bytes-possible}
use Rattle.zone_laws.proofs.Fitting.{free_block-some}
use Rattle.zone_laws.proofs.Maps.{total_size-append}
use Rattle.linked_zone.specs.Changes.{with_map, joined_pair, carried_up}
use Rattle.linked_zone.specs.Fit.{HasSizes}
use Rattle.linked_zone.specs.Places.{none_free, EntryAt, FreePair, ParcelAt, all_can_move}
use Rattle.zone_index.specs.Runs.{none_fixed}
use Rattle.zone_index.proofs.Sizes.{all_parts, first_bytes}
use Rattle.zone_heap.specs.Runs.{RunAt, arranged, UsedUpTo, begins_unused}
use Rattle.zone_heap.proofs.Between.{parcel_loose}
use Rattle.zone_index.proofs.SomeBytes.{all_both, no_bytes}

-- a free block is one of its size
pub free_entry : (e : Entry) → is_free e.kind ≡ true → e ≡ block Free e.size
free_entry e h = ap (λ (kind : Kind). block kind e.size) (free_is e.kind h)

-- none are none
pub no_free : (n : ℕ) → n ≡ 0 → free_block n ≡ []
no_free n none = ap free_block none

-- the blocks in use, with one more that is free
pub used-push_free : (m : ZoneMap) (e : Entry) → is_free e.kind ≡ true → used_blocks (m ++ e ∷ []) ≡ used_blocks m
used-push_free m e free = filter-append _ m (e ∷ []) ∙ ap (λ c. used_blocks m ++ cond (not c) (e ∷ []) []) free ∙ append-nil (used_blocks m)

-- the free bytes, with a block more that isn't free
pub free-push_used : (m : ZoneMap) (e : Entry) → is_free e.kind ≡ false → free_bytes (m ++ e ∷ []) ≡ free_bytes m
free-push_used m e used = free_bytes-append m (e ∷ []) ∙ ap (λ c. free_bytes m + (cond c e.size 0 + 0)) used ∙ (let same : free_bytes m + (0 + 0) ≡ free_bytes m = omega arith in same)

-- or with one that is
pub free-push_free : (m : ZoneMap) (e : Entry) → is_free e.kind ≡ true → free_bytes (m ++ e ∷ []) ≡ free_bytes m + e.size
free-push_free m e free = free_bytes-append m (e ∷ []) ∙ ap (λ c. free_bytes m + (cond c e.size 0 + 0)) free ∙ (let same : free_bytes m + (e.size + 0) ≡ free_bytes m + e.size = omega arith in same)

-- blocks in use before others
pub used-front : (used m : ZoneMap) → none_free used ≡ true → used_blocks (used ++ m) ≡ used ++ used_blocks m
used-front used m none = filter-append _ used m ∙ ap (λ u. u ++ used_blocks m) (used_blocks-same used none)

pub free-front : (used m : ZoneMap) → none_free used ≡ true → free_bytes (used ++ m) ≡ free_bytes m
free-front used m none = let all = free_bytes-append used m in let no = free_bytes-all_used used none in omega arith

pub down-front : (used m : ZoneMap) → none_free used ≡ true → down (used ++ m) ≡ used ++ down m
down-front used m none =
    ap (λ n. used_blocks (used ++ m) ++ free_block n) (free-front used m none) ∙ ap (λ u. u ++ free_block (free_bytes m)) (used-front used m none) ∙ append_assoc used (used_blocks m) (free_block (free_bytes m))

-- or after others
used-after : (m used : ZoneMap) → none_free used ≡ true → used_blocks (m ++ used) ≡ used_blocks m ++ used
used-after m used none = filter-append _ m used ∙ ap (λ u. used_blocks m ++ u) (used_blocks-same used none)

down-after : (m used : ZoneMap) → none_free used ≡ true → down (m ++ used) ≡ (used_blocks m ++ used) ++ free_block (free_bytes m)
down-after m used none =
    let same : free_bytes (m ++ used) ≡ free_bytes m = let all = free_bytes-append m used in let no = free_bytes-all_used used none in omega arith in
    ap (λ n. used_blocks (m ++ used) ++ free_block n) same ∙ ap (λ u. u ++ free_block (free_bytes m)) (used-after m used none)

-- The first blocks of a run are pressed down, the others are to come.
pub record Pressed {start end : ℕ} (z : ZoneState) (run : RunAt z start end) (done rest : ZoneMap) (new : ZoneState) (free next : ℕ) : Type 0 where
  pub parts : run.blocks ≡ done ++ rest
  pub zone : new ≡ with_map (run.before ++ (down done ++ (rest ++ run.after))) z
  pub free_is : free ≡ start + total_size (used_blocks done)
  pub next_is : next ≡ start + total_size done

-- some of them are
pub record Pressing {start end : ℕ} (z : ZoneState) (run : RunAt z start end) (new : ZoneState) (free next : ℕ) : Type 0 where
  pub done : ZoneMap
  pub rest : ZoneMap
  pub is : Pressed z run done rest new free next

-- a free block comes next
pub record Ahead (rest : ZoneMap) : Type 0 where
  pub here : Entry
  pub more : ZoneMap
  pub is : rest ≡ here ∷ more
  pub unused : is_free here.kind ≡ true

module _ {start end : ℕ} (z : ZoneState) (run : RunAt z start end) where
  -- at first none is
  pub none_pressed : Pressing z run z start start
  none_pressed = record {
    done = [];
    rest = run.blocks;
    is = record {
      parts = refl;
      zone = ap (λ m. with_map m z) run.map;
      free_is = (let e : start ≡ start + 0 = omega arith in e);
      next_is = (let e : start ≡ start + 0 = omega arith in e);
    };
  }

  -- the sizes of the run's blocks are possible
  pub run_sizes : sizes_possible z.shape z.heap.map ≡ true → sizes_possible z.shape run.blocks ≡ true
  run_sizes sizes =
      let whole = subst (λ m. sizes_possible z.shape m ≡ true) run.map sizes in
      (all_parts _ run.blocks run.after (all_parts _ run.before (run.blocks ++ run.after) whole).1).0

  -- and stay so where it is pressed down
  pub sizes-pressed : HasSizes z → HasSizes (arranged z run (down run.blocks))
  sizes-pressed sizes =
      let p : Entry → Bool = λ e. is_block_size z.shape e.size in
      let outer = all_parts p run.before (run.blocks ++ run.after) (ap (sizes_possible z.shape) (sym run.map) ∙ sizes) in
      let inner = all_parts p run.blocks run.after outer.1 in
      let middle : list_all p (down run.blocks) ≡ true = (down-IsArrangement run.blocks).kept p inner.0 (free_bytes-possible z.shape run.blocks inner.0) in
      all_both p run.before (down run.blocks ++ run.after) outer.0 (all_both p (down run.blocks) run.after middle inner.1)

  module _ (new : ZoneState) (free next : ℕ) where
    -- the bytes that are left
    pub total-rest : (done rest : ZoneMap) → Pressed z run done rest new free next → end ≡ next + total_size rest
    total-rest done rest p =
        let long = run.long in let at = p.next_is in
        let all : total_size run.blocks ≡ total_size done + total_size rest = ap total_size p.parts ∙ total_size-append done rest in
        omega arith

    -- at the end all are
    pub all_pressed : sizes_possible z.shape z.heap.map ≡ true → Pressing z run new free next → end ≤ next → Pressed z run run.blocks [] new free next
    all_pressed sizes p above =
        let all = total-rest p.done p.rest p.is in
        let parts = (p.is).parts in
        let none = no_bytes z.shape p.rest (all_parts _ p.done p.rest (subst (λ m. sizes_possible z.shape m ≡ true) parts (run_sizes sizes))).1 (omega arith) in
        let whole : p.done ≡ run.blocks = sym (append-nil p.done) ∙ ap (λ m. p.done ++ m) (sym none) ∙ sym parts in
        subst (λ done. Pressed z run done [] new free next) whole (subst (λ rest. Pressed z run p.done rest new free next) none p.is)

    module _ (p : Pressing z run new free next) where
      -- what is to come, and what follows the run
      abbrev tail : ZoneMap
      tail = p.rest ++ run.after

      -- the blocks in use so far
      abbrev used : ZoneMap
      used = used_blocks p.done

      abbrev bytes : ℕ
      bytes = free_bytes p.done

      pub map_next : new.heap.map ≡ (run.before ++ down p.done) ++ tail
      map_next = ap (λ (w : ZoneState). w.heap.map) (p.is).zone ∙ sym (append_assoc run.before (down p.done) tail)

      pub place_next : next ≡ address_after new.shape (run.before ++ down p.done)
      place_next =
          let first = run.place in
          let at = (p.is).next_is in
          let all = total_size-append run.before (down p.done) in
          let same = (down-IsArrangement p.done).same_total in
          let here : next ≡ address_after z.shape (run.before ++ down p.done) = omega arith in
          here ∙ ap (λ (w : ZoneState). address_after w.shape (run.before ++ down p.done)) (sym (p.is).zone)

      table_next : new.heap.table ≡ z.heap.table
      table_next = ap (λ (w : ZoneState). w.heap.table) (p.is).zone

      pub moves_next : IsTrue (all_can_move new.heap.table p.rest)
      moves_next = ap (λ t. all_can_move t p.rest) table_next ∙ (all_parts _ p.done p.rest (subst (λ m. all_can_move z.heap.table m ≡ true) (p.is).parts run.moves)).1

      pub loose_next : IsTrue (none_fixed new.heap.table p.rest)
      loose_next = ap (λ t. none_fixed t p.rest) table_next ∙ (all_parts _ p.done p.rest (subst (λ m. none_fixed z.heap.table m ≡ true) (p.is).parts run.loose)).1

      -- what is to come is a run
      abbrev pub run_next : RunAt new next end
      run_next = record { before = run.before ++ down p.done; blocks = p.rest; after = run.after; map = map_next; place = place_next; long = total-rest p.done p.rest p.is; moves = moves_next; loose = loose_next }

      -- sizes are possible
      pub sizes_next : HasSizes z → HasSizes new
      sizes_next sizes =
          let p' : Entry → Bool = λ e. is_block_size z.shape e.size in
          let outer = all_parts p' run.before (run.blocks ++ run.after) (ap (sizes_possible z.shape) (sym run.map) ∙ sizes) in
          let inner = all_parts p' run.blocks run.after outer.1 in
          let parts = all_parts p' p.done p.rest (ap (sizes_possible z.shape) (sym (p.is).parts) ∙ inner.0) in
          let middle : list_all p' (down p.done) ≡ true = (down-IsArrangement p.done).kept p' parts.0 (free_bytes-possible z.shape p.done parts.0) in
          subst HasSizes (sym (p.is).zone) (all_both p' run.before (down p.done ++ tail) outer.0 (all_both p' (down p.done) tail middle (all_both p' p.rest run.after parts.1 inner.1)))

      rest_sizes : sizes_possible z.shape z.heap.map ≡ true → sizes_possible z.shape p.rest ≡ true
      rest_sizes sizes = (all_parts _ p.done p.rest (subst (λ m. sizes_possible z.shape m ≡ true) (p.is).parts (run_sizes sizes))).1

      -- there are free bytes just where they begin below what is to come
      some_before : free < next → 0 < bytes
      some_before less = let all = total_size-used p.done in let f = (p.is).free_is in let n = (p.is).next_is in omega arith

      none_before : next ≤ free → bytes ≡ 0
      none_before more = let all = total_size-used p.done in let f = (p.is).free_is in let n = (p.is).next_is in omega arith

      -- as many as lie between
      pub next_is_after : next ≡ free + bytes
      next_is_after = let all = total_size-used p.done in let f = (p.is).free_is in let n = (p.is).next_is in omega arith

      -- where they begin
      place_free : free ≡ address_after new.shape (run.before ++ used)
      place_free =
          let first = run.place in
          let f = (p.is).free_is in
          let all = total_size-append run.before used in
          let here : free ≡ address_after z.shape (run.before ++ used) = omega arith in
          here ∙ ap (λ (w : ZoneState). address_after w.shape (run.before ++ used)) (sym (p.is).zone)

      -- the map
      map_whole : new.heap.map ≡ run.before ++ (down p.done ++ tail)
      map_whole = ap (λ (w : ZoneState). w.heap.map) (p.is).zone

      -- by the block of free bytes
      map_free : free < next → new.heap.map ≡ (run.before ++ used) ++ block Free bytes ∷ tail
      map_free less = map_whole ∙ ap (λ f. run.before ++ ((used ++ f) ++ tail)) (free_block-some bytes (some_before less)) ∙ simp append_assoc

      -- or without any
      map_none : next ≤ free → new.heap.map ≡ run.before ++ (used ++ tail)
      map_none more = map_whole ∙ ap (λ f. run.before ++ ((used ++ f) ++ tail)) (no_free bytes (none_before more)) ∙ ap (λ u. run.before ++ (u ++ tail)) (append-nil used)

      -- the step is done once the map is that of some blocks more, and the addresses are right
      further : (m rest : ZoneMap) → p.rest ≡ m ++ rest → (after : ZoneState) (low at : ℕ) (map : ZoneMap) → after ≡ with_map map new → map ≡ run.before ++ (down (p.done ++ m) ++ (rest ++ run.after))
          → low ≡ start + total_size (used_blocks (p.done ++ m)) → at ≡ next + total_size m → Pressing z run after low at
      further m rest is after low at map there same low_is at_is = record {
        done = p.done ++ m;
        rest = rest;
        is = record {
          parts = (p.is).parts ∙ ap (λ r. p.done ++ r) is ∙ sym (append_assoc p.done m rest);
          zone = there ∙ ap (with_map map) (p.is).zone ∙ ap (λ m. with_map m z) same;
          free_is = low_is;
          next_is = (let n = (p.is).next_is in let all = total_size-append p.done m in omega arith);
        };
      }

      -- blocks in use come next, up to an address
      module _ (at : ℕ) (u : UsedUpTo p.rest next at) where
        tail_is : tail ≡ u.used ++ (u.rest ++ run.after)
        tail_is = ap (λ r. r ++ run.after) u.parts ∙ append_assoc u.used u.rest run.after

        -- it lies within the run
        pub within_used : at ≤ end
        within_used =
            let all = total-rest p.done p.rest p.is in
            let parts = ap total_size u.parts ∙ total_size-append u.used u.rest in
            let here = u.place in
            omega arith

        -- with the block of free bytes they are a parcel
        pub parcel_next : free < next → ParcelAt new free at
        parcel_next less = record {
          before = run.before ++ used;
          here = block Free bytes;
          blocks = u.used;
          after = u.rest ++ run.after;
          map = map_free less ∙ ap (λ t. (run.before ++ used) ++ block Free bytes ∷ t) tail_is;
          place = place_free;
          long = (let here = u.place in let n = next_is_after in omega arith);
          moves = (all_parts _ u.used u.rest (ap (all_can_move new.heap.table) (sym u.parts) ∙ moves_next)).0;
        }

        -- none of them is fixed
        pub loose_parcel : HasSizes z → (less : free < next) → (parcel : ParcelAt new free at) → IsTrue (none_fixed new.heap.table (parcel.here ∷ parcel.blocks))
        unfolding parcel_next
        loose_parcel sizes less parcel = parcel_loose new free at (sizes_next sizes) (parcel_next less) (all_parts _ u.used u.rest (ap (none_fixed new.heap.table) (sym u.parts) ∙ loose_next)).0 parcel

        low_used : free + (at - next) ≡ start + total_size (used_blocks (p.done ++ u.used))
        low_used =
            let f = (p.is).free_is in
            let here = u.place in
            let all = ap total_size (used-after p.done u.used u.none) ∙ total_size-append used u.used in
            omega arith

        -- the free bytes are carried past them
        pub passed : (after : ZoneState) → free < next → ((parcel : ParcelAt new free at) → after ≡ carried_up new parcel) → Pressing z run after (free + (at - next)) at
        unfolding parcel_next
        passed after less is =
            let b : ZoneMap = block Free bytes ∷ [] in
            let rest = u.rest ++ run.after in
            let same : (run.before ++ used) ++ (u.used ++ (b ++ rest)) ≡ run.before ++ (((used ++ u.used) ++ b) ++ rest) = simp append_assoc in
            further u.used u.rest u.parts after (free + (at - next)) at _ (is (parcel_next less))
            (same ∙ ap (λ f. run.before ++ (((used ++ u.used) ++ f) ++ rest)) (sym (free_block-some bytes (some_before less))) ∙ ap (λ d. run.before ++ (d ++ rest)) (sym (down-after p.done u.used u.none))) low_used u.place

        -- or where there are none they stay
        pub stayed : next ≤ free → Pressing z run new (free + (at - next)) at
        stayed more =
            let rest = u.rest ++ run.after in
            let same : used ++ (u.used ++ rest) ≡ ((used ++ u.used) ++ []) ++ rest = simp (append-nil, append_assoc) in
            further u.used u.rest u.parts new (free + (at - next)) at new.heap.map refl
            (map_none more ∙ ap (λ t. run.before ++ (used ++ t)) tail_is ∙ ap (λ m. run.before ++ m) same
            ∙ ap (λ f. run.before ++ (((used ++ u.used) ++ f) ++ rest)) (sym (no_free bytes (none_before more))) ∙ ap (λ d. run.before ++ (d ++ rest)) (sym (down-after p.done u.used u.none))) low_used u.place

        -- where there are none a free block comes next
        pub ahead : sizes_possible z.shape z.heap.map ≡ true → next < end → at ≤ next → Ahead p.rest
        ahead sizes below above = by_rest u.rest refl
          where
            by_rest : (m : ZoneMap) → u.rest ≡ m → Ahead p.rest
            by_rest [] none =
                let all = total-rest p.done p.rest p.is in
                let parts = ap total_size u.parts ∙ total_size-append u.used u.rest in
                let no = ap total_size none in
                let here = u.place in
                absurd (omega arith)
            by_rest (e ∷ es) some =
                let here = u.place in
                let none = no_bytes z.shape u.used (all_parts _ u.used u.rest (ap (sizes_possible z.shape) (sym u.parts) ∙ rest_sizes sizes)).0 (omega arith) in
                record { here = e; more = es; is = u.parts ∙ ap (λ m. m ++ u.rest) none ∙ some; unused = ap begins_unused (sym some) ∙ u.begins }

      -- a free block comes next
      module _ (a : Ahead p.rest) where
        abbrev after_it : ZoneMap
        after_it = a.more ++ run.after

        pub tail_free : tail ≡ block Free (a.here).size ∷ after_it
        tail_free = ap (λ r. r ++ run.after) (a.is ∙ ap (λ e. e ∷ a.more) (free_entry a.here a.unused))

        abbrev pub entry_ahead : EntryAt new next
        entry_ahead = record { before = run.before ++ down p.done; here = block Free (a.here).size; after = after_it; map = map_next ∙ ap (λ t. (run.before ++ down p.done) ++ t) tail_free; place = place_next }

        -- with the free bytes before it
        pub pair_ahead : free < next → FreePair new free
        pair_ahead less = record {
          before = run.before ++ used;
          first = bytes;
          second = (a.here).size;
          after = after_it;
          map = map_free less ∙ ap (λ t. (run.before ++ used) ++ block Free bytes ∷ t) tail_free;
          place = place_free;
        }

        -- the free bytes begin where they did
        low_free : free ≡ start + total_size (used_blocks (p.done ++ a.here ∷ []))
        low_free = (p.is).free_is ∙ ap (λ m. start + total_size m) (sym (used-push_free p.done a.here a.unused))

        -- down with a free block more
        down_free : 0 < bytes + (a.here).size → used ++ block Free (bytes + (a.here).size) ∷ [] ≡ down (p.done ++ a.here ∷ [])
        down_free some =
            ap (λ b. used ++ b) (sym (free_block-some (bytes + (a.here).size) some) ∙ ap free_block (sym (free-push_free p.done a.here a.unused)))
            ∙ ap (λ b. b ++ free_block (free_bytes (p.done ++ a.here ∷ []))) (sym (used-push_free p.done a.here a.unused))

        -- they are joined
        pub merged : (after : ZoneState) → free < next → ((pair : FreePair new free) → after ≡ joined_pair new pair) → Pressing z run after free (next + (a.here).size)
        unfolding pair_ahead
        merged after less is =
            let some = some_before less in
            let b : ZoneMap = block Free (bytes + (a.here).size) ∷ [] in
            let same : (run.before ++ used) ++ (b ++ after_it) ≡ run.before ++ ((used ++ b) ++ after_it) = simp append_assoc in
            further (a.here ∷ []) a.more a.is after free (next + (a.here).size) _ (is (pair_ahead less)) (same ∙ ap (λ d. run.before ++ (d ++ after_it)) (down_free (omega arith))) low_free (omega arith)

        -- or where there was none the free block is the first
        pub first_free : next ≤ free → 0 < (a.here).size → Pressing z run new free (next + (a.here).size)
        first_free more some =
            let none = none_before more in
            let b : ZoneMap = block Free (bytes + (a.here).size) ∷ [] in
            let alone : (a.here).size ≡ bytes + (a.here).size = omega arith in
            further (a.here ∷ []) a.more a.is new free (next + (a.here).size) new.heap.map refl
            (map_none more ∙ ap (λ t. run.before ++ (used ++ t)) (tail_free ∙ ap (λ n. block Free n ∷ after_it) alone) ∙ ap (λ m. run.before ++ m) (sym (append_assoc used b after_it))
            ∙ ap (λ d. run.before ++ (d ++ after_it)) (down_free (omega arith))) low_free (omega arith)

        -- it ends at the run's end or below it
        pub within_ahead : next + (a.here).size ≤ end
        within_ahead = let all = total-rest p.done p.rest p.is in let bytes = ap total_size a.is in omega arith

        -- it has bytes
        pub some_size : sizes_possible z.shape z.heap.map ≡ true → 0 < (a.here).size
        some_size sizes = first_bytes z.shape a.here a.more (ap (sizes_possible z.shape) (sym a.is) ∙ rest_sizes sizes)

-- The block of a handle raised to the high end of its gap.
use Rattle.std.proofs.Common.{◌≡◌, ℕ, ◌+◌, ◌<◌, ◌≤◌, Bool, true, false, not, cond, [], ◌∷◌, ◌++◌, refl, ap, sym, ◌∙◌, subst, append_assoc, arith, IsTrue}
use Rattle.std.specs.Prelude.{filter}
use Rattle.std.specs.List.{list_all}
use Rattle.std.specs.Option.{option_map_or}
use Rattle.std.proofs.lemmas.Bool.{and_from, and_parts}
use Rattle.std.proofs.lemmas.List.Elements.{filter-append}
use Rattle.mac_base.specs.declared.block.Entry.{Entry}
use Rattle.mac_base.specs.declared.block.Kind.{Kind}
use Rattle.mac_base.specs.declared.block.Kind.TheVariants.{Free}
use Rattle.mac_base.specs.Arrangement.{used_blocks, down, high}
use Rattle.mac_base.specs.Compaction.{moved_high}
use Rattle.mac_base.specs.Gap.{Gap, filled, is_fixed}
use Rattle.mac_base.specs.Suits.{is_block_size}
use Rattle.mac_base.specs.ZoneMap.{ZoneMap, block, free_block, free_bytes, is_free, is_named, sizes, total_size, address_after}
use Rattle.mac_base.specs.ZoneState.{ZoneState}
use Rattle.zone_laws.proofs.Arranging.{named-used, sizes-used, free_bytes-free_block, list_all-used, total_size-used, used_blocks-free_block}
use Rattle.zone_laws.proofs.GapAppend.{free_bytes-append}
use Rattle.zone_laws.proofs.NamedPlace.{At, used_blocks-around}
use Rattle.zone_laws.proofs.Owners.{nothing_passes}
use Rattle.zone_laws.proofs.Maps.{total_size-append}
use Rattle.zone_laws.proofs.Fitting.{free_block-some}
use Rattle.linked_zone.specs.Changes.{with_map, carried_up, sunk}
use Rattle.linked_zone.specs.Fit.{HasSizes}
use Rattle.zone_heap.specs.Gaps.{Settled}
use Rattle.linked_zone.specs.Places.{ParcelAt, ParcelUpTo, all_can_move, can_move}
use Rattle.zone_index.specs.Runs.{none_fixed}
use Rattle.zone_index.proofs.Sizes.{all_parts}
use Rattle.zone_heap.specs.Runs.{RunAt, PackedAt, arranged, topped}
use Rattle.zone_heap.proofs.Opening.{used_here, free_lower, sizes_lower, run_upper, arranged_upper, used_upper}
use Rattle.zone_heap.proofs.Owning.{Owned, here_owned, moves_owned, can_move_owned}
use Rattle.zone_heap.proofs.Between.{parcel_loose, parcel_up_loose}
use Rattle.zone_heap.proofs.Pressing.{no_free, free-push_used, sizes-pressed}
use Rattle.zone_index.proofs.SomeBytes.{all_both}

-- of blocks that x doesn't name none is left by one filter
those_none : (x : ℕ) (a : ZoneMap) → sizes (is_named x) a ≡ [] → filter (λ (e : Entry). is_named x e.kind) a ≡ []
those_none x [] none = refl
those_none x (e ∷ es) none =
    let parts = nothing_passes (is_named x e.kind) e.size (sizes (is_named x) es) none in
    ap (λ c. cond c (e ∷ filter (λ (e : Entry). is_named x e.kind) es) (filter (λ (e : Entry). is_named x e.kind) es)) parts.0 ∙ those_none x es parts.1

-- and each by the other
others_all : (x : ℕ) (a : ZoneMap) → sizes (is_named x) a ≡ [] → filter (λ (e : Entry). not (is_named x e.kind)) a ≡ a
others_all x [] none = refl
others_all x (e ∷ es) none =
    let parts = nothing_passes (is_named x e.kind) e.size (sizes (is_named x) es) none in
    ap (λ c. cond (not c) (e ∷ filter (λ (e : Entry). not (is_named x e.kind)) es) (filter (λ (e : Entry). not (is_named x e.kind)) es)) parts.0 ∙ ap (λ m. e ∷ m) (others_all x es parts.1)

-- high at the one block of x
high-parts : (x : ℕ) (b : ZoneMap) (n : ℕ) (front : ZoneMap) (kind : Kind) (back : ZoneMap) → At x b n front kind back → high x b ≡ down (front ++ back) ++ block kind n ∷ []
high-parts x b n front kind back at =
    let e : Entry = block kind n in
    let used : is_free kind ≡ false = named-used x kind at.named in
    let others : ZoneMap → ZoneMap = λ m. filter (λ (e : Entry). not (is_named x e.kind)) m in
    let those : ZoneMap → ZoneMap = λ m. filter (λ (e : Entry). is_named x e.kind) m in
    let used_same : used_blocks b ≡ used_blocks front ++ e ∷ used_blocks back = ap used_blocks at.was ∙ used_blocks-around front e back used in
    let no_front : sizes (is_named x) (used_blocks front) ≡ [] = sizes-used (is_named x) front refl ∙ at.none_front in
    let no_back : sizes (is_named x) (used_blocks back) ≡ [] = sizes-used (is_named x) back refl ∙ at.none_back in
    let others_same : others (used_blocks b) ≡ used_blocks (front ++ back) =
    ap others used_same ∙ filter-append _ (used_blocks front) (e ∷ used_blocks back)
    ∙ ap (λ c. others (used_blocks front) ++ cond (not c) (e ∷ others (used_blocks back)) (others (used_blocks back))) at.named
    ∙ ap (λ m. m ++ others (used_blocks back)) (others_all x (used_blocks front) no_front) ∙ ap (λ m. used_blocks front ++ m) (others_all x (used_blocks back) no_back)
    ∙ sym (filter-append _ front back) in
    let those_same : those b ≡ e ∷ [] =
    ap those at.was ∙ filter-append _ front (e ∷ back) ∙ ap (λ c. those front ++ cond c (e ∷ those back) (those back)) at.named
    ∙ ap (λ m. m ++ e ∷ those back) (those_none x front at.none_front) ∙ ap (λ m. e ∷ m) (those_none x back at.none_back) in
    let bytes : free_bytes b ≡ free_bytes (front ++ back) =
    ap free_bytes at.was ∙ free_bytes-append front (e ∷ back) ∙ ap (λ c. free_bytes front + (cond c n 0 + free_bytes back)) used
    ∙ (let same : free_bytes front + (0 + free_bytes back) ≡ free_bytes front + free_bytes back = omega arith in same) ∙ sym (free_bytes-append front back) in
    ap (λ m. (m ++ free_block (free_bytes b)) ++ those b) others_same ∙ ap (λ k. (used_blocks (front ++ back) ++ free_block k) ++ those b) bytes ∙ ap (λ m. down (front ++ back) ++ m) those_same

-- a block above the others of a gap, and the gap's free bytes below it
topped_blocks : (a front back : ZoneMap) (e : Entry) (c : ZoneMap) → (a ++ used_blocks front) ++ (used_blocks back ++ (free_block (free_bytes (front ++ back)) ++ e ∷ c)) ≡ (a ++ (down (front ++ back) ++ e ∷ [])) ++ c
topped_blocks a front back e c =
    let f = free_block (free_bytes (front ++ back)) in
    let same : (a ++ used_blocks front) ++ (used_blocks back ++ (f ++ e ∷ c)) ≡ (a ++ (((used_blocks front ++ used_blocks back) ++ f) ++ e ∷ [])) ++ c = simp append_assoc in
    same ∙ ap (λ u. (a ++ ((u ++ f) ++ e ∷ [])) ++ c) (sym (filter-append _ front back))

-- the blocks in use after free bytes
used-past_free : (n : ℕ) (m : ZoneMap) → used_blocks (free_block n ++ m) ≡ used_blocks m
used-past_free n m = filter-append _ (free_block n) m ∙ ap (λ u. u ++ used_blocks m) (used_blocks-free_block n)

-- the free bytes below a block and those above it, pressed down
down_above : (front back : ZoneMap) (e : Entry) → is_free e.kind ≡ false → down (free_block (free_bytes (front ++ e ∷ [])) ++ back) ≡ used_blocks back ++ free_block (free_bytes (front ++ back))
down_above front back e used =
    let k : ℕ = free_bytes (front ++ e ∷ []) in
    let bytes : free_bytes (free_block k ++ back) ≡ free_bytes (front ++ back) =
    let some = free_bytes-append (free_block k) back in
    let none = free_bytes-free_block k in
    let low = free-push_used front e used in
    let all = free_bytes-append front back in
    omega arith in
    ap (λ n. used_blocks (free_block k ++ back) ++ free_block n) bytes ∙ ap (λ u. u ++ free_block (free_bytes (front ++ back))) (used-past_free k back)

module _ (z : ZoneState) (h at : ℕ) (settled : Settled z) (o : Owned z h at) (start middle end : ℕ) (start_is : start + total_size (o.place).front ≡ at) (middle_is : middle ≡ at + o.size) (end_is : end ≡ at + (o.size + total_size (o.place).back))
    (new : ZoneState) (below : ℕ) (pressed : (run : RunAt z start middle) → new ≡ arranged z run (down run.blocks)) (below_is : (run : RunAt z start middle) → below ≡ start + total_size (used_blocks run.blocks)) where
  abbrev here : Entry
  here = here_owned z h at o

  abbrev front : ZoneMap
  front = (o.place).front

  abbrev back : ZoneMap
  back = (o.place).back

  -- the free bytes of the lower part, and the blocks above
  abbrev pub run_above : RunAt new below end
  run_above = run_upper z h at settled o start middle end start_is middle_is end_is new below pressed below_is

  below_used : below ≡ start + (total_size (used_blocks front) + o.size)
  below_used =
      let lower = free_lower z h at settled o start middle end start_is middle_is end_is new below pressed below_is in
      let parts = ap total_size (used_blocks-around front here [] (used_here z h at settled o)) in
      let all = total_size-append (used_blocks front) (here ∷ []) in
      omega arith

  -- the block is below them
  pub after_it : o.size ≤ below
  after_it = let b = below_used in omega arith

  module _ (next : ZoneState) (free : ℕ) (pressed_above : (run : RunAt new below end) → next ≡ arranged new run (down run.blocks)) (free_is : (run : RunAt new below end) → free ≡ below + total_size (used_blocks run.blocks)) where
    -- sizes stay possible
    pub sizes_above : HasSizes next
    sizes_above = subst HasSizes (sym (pressed_above run_above)) (sizes-pressed new run_above (sizes_lower z h at settled o start middle end start_is middle_is end_is new below pressed below_is))

    -- the free bytes of the gap
    abbrev bytes : ℕ
    bytes = free_bytes (front ++ back)

    zone_above : next ≡ with_map (((o.gap).before ++ used_blocks front) ++ (here ∷ used_blocks back ++ (free_block bytes ++ (o.gap).after))) z
    zone_above =
        let a = (o.gap).before in
        let c = (o.gap).after in
        let used = used_here z h at settled o in
        let u = used_blocks back in
        let f = free_block bytes in
        let same : (a ++ (used_blocks front ++ here ∷ [])) ++ ((u ++ f) ++ c) ≡ (a ++ used_blocks front) ++ (here ∷ u ++ (f ++ c)) = simp append_assoc in
        arranged_upper z h at settled o start middle end start_is middle_is end_is new below pressed below_is down next pressed_above
        ∙ ap (λ m. with_map m z) (ap (λ u. (a ++ u) ++ (down (free_block (free_bytes (front ++ here ∷ [])) ++ back) ++ c)) (used_blocks-around front here [] used) ∙ ap (λ d. (a ++ (used_blocks front ++ here ∷ [])) ++ (d ++ c)) (down_above front back here used) ∙ same)

    free_above : free ≡ below + total_size (used_blocks back)
    free_above = used_upper z h at settled o start middle end start_is middle_is end_is new below pressed below_is free free_is ∙ ap (λ m. below + total_size m) (used-past_free (free_bytes (front ++ here ∷ [])) back)

    module _ (low : ℕ) (low_is : low + o.size ≡ below) where
      place_packed : low ≡ address_after next.shape ((o.gap).before ++ used_blocks front)
      place_packed =
          let there = o.at_is in
          let first = total_size-append (o.gap).before front in
          let all = total_size-append (o.gap).before (used_blocks front) in
          let b = below_used in
          let here : low ≡ address_after z.shape ((o.gap).before ++ used_blocks front) = omega arith in
          here ∙ ap (λ (w : ZoneState). address_after w.shape ((o.gap).before ++ used_blocks front)) (sym zone_above)

      ends_packed : end ≡ free + bytes
      ends_packed =
          let f = free_above in
          let b = below_used in
          let low = total_size-used front in
          let high = total_size-used back in
          let all = free_bytes-append front back in
          omega arith

      moves_packed : all_can_move next.heap.table (here ∷ used_blocks back) ≡ true
      moves_packed =
          let moves = can_move_owned z h at o settled in
          let parts = and_parts (can_move z.heap.table (o.place).kind) (all_can_move z.heap.table back) moves.1 in
          ap (λ (w : ZoneState). all_can_move w.heap.table (here ∷ used_blocks back)) zone_above ∙ and_from _ _ parts.0 (list_all-used (λ (e : Entry). can_move z.heap.table e.kind) back parts.1)

      loose_packed : none_fixed next.heap.table (here ∷ used_blocks back) ≡ true
      loose_packed =
          let loose = moves_owned z h at o in
          let parts = and_parts (not (is_fixed z.heap.table (o.place).kind)) (none_fixed z.heap.table back) loose.1 in
          ap (λ (w : ZoneState). none_fixed w.heap.table (here ∷ used_blocks back)) zone_above ∙ and_from _ _ parts.0 (list_all-used (λ (e : Entry). not (is_fixed z.heap.table e.kind)) back parts.1)

      -- the block, those in use above it and the free bytes are packed
      pub packed_above : PackedAt next low free end
      packed_above = record {
        before = (o.gap).before ++ used_blocks front;
        here = here;
        blocks = used_blocks back;
        bytes = bytes;
        after = (o.gap).after;
        map = ap (λ (w : ZoneState). w.heap.map) zone_above;
        place = place_packed;
        long = (let f = free_above in omega arith);
        ends = ends_packed;
        moves = moves_packed;
        loose = loose_packed;
      }

      raised_blocks : ((o.gap).before ++ used_blocks front) ++ (used_blocks back ++ (free_block bytes ++ here ∷ (o.gap).after)) ≡ filled o.gap (high h (o.gap).blocks)
      raised_blocks = topped_blocks (o.gap).before front back here (o.gap).after
          ∙ ap (λ b. ((o.gap).before ++ b) ++ (o.gap).after) (sym (high-parts h (o.gap).blocks o.size front (o.place).kind back (o.place).at))

      -- put on top of them the block is raised
      pub raised : (after : ZoneState) → ((packed : PackedAt next low free end) → after ≡ topped next packed) → after ≡ with_map (moved_high z.heap.table h z.heap.map) z
      unfolding packed_above
      raised after is =
          is packed_above ∙ ap (with_map (((o.gap).before ++ used_blocks front) ++ (used_blocks back ++ (free_block bytes ++ here ∷ (o.gap).after)))) zone_above
          ∙ ap (λ m. with_map m z) (raised_blocks ∙ ap (λ found. option_map_or (λ (g : Gap). filled g (high h g.blocks)) found z.heap.map) (sym o.found))

module _ (z : ZoneState) (at free end : ℕ) (sizes : HasSizes z) (packed : PackedAt z at free end) where
  -- the block and those after it
  pub parcel_packed : ParcelAt z at free
  parcel_packed = record {
    before = packed.before;
    here = packed.here;
    blocks = packed.blocks;
    after = free_block packed.bytes ++ packed.after;
    map = packed.map;
    place = packed.place;
    long = packed.long;
    moves = packed.moves;
  }

  pub loose_carried : (parcel : ParcelAt z at free) → IsTrue (none_fixed z.heap.table (parcel.here ∷ parcel.blocks))
  unfolding parcel_packed
  loose_carried = parcel_loose z at free sizes parcel_packed packed.loose

  module _ (new : ZoneState) (high : ℕ) (carried : (parcel : ParcelAt z at free) → new ≡ carried_up z parcel) (high_is : (parcel : ParcelAt z at free) → high + (parcel.here).size ≡ free) where
    -- the free bytes
    abbrev unused : ZoneMap
    unused = free_block packed.bytes ++ packed.after

    zone_carried : new ≡ with_map (packed.before ++ (packed.blocks ++ packed.here ∷ unused)) z
    unfolding parcel_packed
    zone_carried = carried parcel_packed

    high_carried : high + (packed.here).size ≡ free
    unfolding parcel_packed
    high_carried = high_is parcel_packed

    sizes_carried : HasSizes new
    sizes_carried =
        let p : Entry → Bool = λ e. is_block_size z.shape e.size in
        let outer = all_parts p packed.before (packed.here ∷ packed.blocks ++ unused) (ap (list_all p) (sym packed.map) ∙ sizes) in
        let here = and_parts (p packed.here) (list_all p (packed.blocks ++ unused)) outer.1 in
        let rest = all_parts p packed.blocks unused here.1 in
        subst HasSizes (sym zone_carried) (all_both p packed.before (packed.blocks ++ packed.here ∷ unused) outer.0 (all_both p packed.blocks (packed.here ∷ unused) rest.0 (and_from _ _ here.0 rest.1)))

    -- there are some
    module _ (some : free < end) where
      some_bytes : 0 < packed.bytes
      some_bytes = let e = packed.ends in omega arith

      map_carried : new.heap.map ≡ (packed.before ++ packed.blocks) ++ (packed.here ∷ [] ++ block Free packed.bytes ∷ packed.after)
      map_carried =
          ap (λ (w : ZoneState). w.heap.map) zone_carried ∙ ap (λ f. packed.before ++ (packed.blocks ++ packed.here ∷ (f ++ packed.after))) (free_block-some packed.bytes some_bytes)
          ∙ sym (append_assoc packed.before packed.blocks (packed.here ∷ block Free packed.bytes ∷ packed.after))

      place_carried : high ≡ address_after new.shape (packed.before ++ packed.blocks)
      place_carried =
          let first = packed.place in
          let long = packed.long in
          let there = high_carried in
          let all = total_size-append packed.before packed.blocks in
          let here : high ≡ address_after z.shape (packed.before ++ packed.blocks) = omega arith in
          here ∙ ap (λ (w : ZoneState). address_after w.shape (packed.before ++ packed.blocks)) (sym zone_carried)

      -- with the block before them they are a parcel
      pub parcel_carried : ParcelUpTo new high free
      parcel_carried = record {
        before = packed.before ++ packed.blocks;
        blocks = packed.here ∷ [];
        here = block Free packed.bytes;
        after = packed.after;
        map = map_carried;
        place = place_carried;
        long = (let there = high_carried in omega arith);
        moves = ap (λ (w : ZoneState). all_can_move w.heap.table (packed.here ∷ block Free packed.bytes ∷ [])) zone_carried
            ∙ and_from _ _ (and_parts (can_move z.heap.table (packed.here).kind) (all_can_move z.heap.table packed.blocks) packed.moves).0 refl;
      }

      pub loose_sunk : (parcel : ParcelUpTo new high free) → IsTrue (none_fixed new.heap.table (parcel.blocks ++ parcel.here ∷ []))
      unfolding parcel_carried
      loose_sunk = parcel_up_loose new high free sizes_carried parcel_carried
          (ap (λ (w : ZoneState). none_fixed w.heap.table (packed.here ∷ block Free packed.bytes ∷ [])) zone_carried
          ∙ and_from _ _ (and_parts (not (is_fixed z.heap.table (packed.here).kind)) (none_fixed z.heap.table packed.blocks) packed.loose).0 refl)

      -- which change places with it
      pub topped_some : (after : ZoneState) → ((parcel : ParcelUpTo new high free) → after ≡ sunk new parcel) → after ≡ topped z packed
      unfolding parcel_carried
      topped_some after is =
          is parcel_carried ∙ ap (with_map ((packed.before ++ packed.blocks) ++ (block Free packed.bytes ∷ packed.here ∷ packed.after))) zone_carried
          ∙ ap (λ m. with_map m z) (append_assoc packed.before packed.blocks (block Free packed.bytes ∷ packed.here ∷ packed.after)
          ∙ ap (λ f. packed.before ++ (packed.blocks ++ (f ++ packed.here ∷ packed.after))) (sym (free_block-some packed.bytes some_bytes)))

    -- or there are none
    pub topped_none : end ≤ free → new ≡ topped z packed
    topped_none none =
        let e = packed.ends in
        let no = no_free packed.bytes (omega arith) in
        zone_carried ∙ ap (λ f. with_map (packed.before ++ (packed.blocks ++ packed.here ∷ (f ++ packed.after))) z) no
        ∙ ap (λ f. with_map (packed.before ++ (packed.blocks ++ (f ++ packed.here ∷ packed.after))) z) (sym no)

-- The lowest gap with room is cleared, or arranged down: what the zone is then, and where its lowest free block with
-- room is.
use Rattle.std.proofs.Common.{◌≡◌, ℕ, ◌+◌, ◌<◌, ◌≤◌, true, false, not, cond, [], ◌∷◌, ◌++◌, Some, refl, ap, sym, ◌∙◌, subst, append-nil, append_assoc, arith}
use Rattle.std.specs.Prelude.{nat_le, option_map, option_and_then}
use Rattle.std.specs.Option.{option_or}
use Rattle.std.proofs.lemmas.Bool.Decides.{nat_tests}
use Rattle.std.proofs.lemmas.List.Folds.{list_all-append}
use Rattle.std.proofs.lemmas.Bool.{and_from}
use Rattle.mac_base.specs.declared.block.Entry.{Entry}
use Rattle.mac_base.specs.declared.block.Kind.{Kind}
use Rattle.mac_base.specs.declared.block.Kind.TheVariants.{Free}
use Rattle.mac_base.specs.Arrangement.{down, up, used_blocks}
use Rattle.mac_base.specs.Gap.{Gap, gaps, filled, lowest_gap, room}
use Rattle.mac_base.specs.Serve.{begins_free, taken, take_lowest, placed_relocatable}
use Rattle.mac_base.specs.ZoneMap.{ZoneMap, block, free_bytes, has_free, address_after, total_size}
use Rattle.mac_base.specs.ZoneState.{ZoneState}
use Rattle.zone_laws.proofs.Arranging.{IsArrangement, down-IsArrangement, up-IsArrangement}
use Rattle.zone_laws.proofs.Fitting.{free_block-some}
use Rattle.zone_laws.proofs.GapParts.{IsGap, lowest_gap-is}
use Rattle.zone_laws.proofs.Maps.{total_size-append}
use Rattle.zone_laws.proofs.RearrangedSuits.{Sound-arranged}
use Rattle.linked_zone.specs.Changes.{with_map}
use Rattle.linked_zone.specs.Fit.{HasSizes}
use Rattle.linked_zone.specs.Places.{EntryAt, LowestAt}
use Rattle.zone_index.specs.Gaps.{IsLowestGap}
use Rattle.zone_heap.specs.Gaps.{GapAt, GapBetween, GapFrom, with_gap}
use Rattle.zone_heap.proofs.Laws.{gap_from}
use Rattle.zone_heap.proofs.Squeezing.{map_from, rest_from, start_from, none_before}
use Rattle.zone_heap.specs.Attempts.{SoundZone}
use Rattle.zone_heap.specs.Room.{IsCleared, IsOpened}
use Rattle.zone_heap.proofs.Finding.{NoneHas, before_none, used_none, used_begins}
use Rattle.zone_heap.proofs.Taking.{take_lowest-there, take_lowest-none}

-- a zone with a gap arranged is sound
pub sound-arranged : (z new : ZoneState) (g : Gap) (b : ZoneMap) → SoundZone z → IsGap z.heap.table z.heap.map g → IsArrangement g.blocks b → new ≡ with_gap z g b → SoundZone new
sound-arranged z new g b s i a is = subst SoundZone (sym is) (let there : SoundZone (with_gap z g b) = record { sound = Sound-arranged z.shape z.heap.table z.heap g b i a s.sound; fixed = s.fixed } in there)

-- a relocatable block takes the lowest free block that has room
pub opened_there : (z : ZoneState) (k at : ℕ) → LowestAt z k at → IsOpened z k at z
opened_there z k at low = record {
  map = z.heap.map;
  zone = refl;
  low = low;
  taken = λ kind. let there = ap (take_lowest z.shape k kind) (low.free).map ∙ take_lowest-there z.shape k kind (low.free).before (low.free).size (low.free).after low.lowest low.large in
      ap (λ o. option_or o (option_and_then (λ (g : Gap). option_map (filled g) (take_lowest z.shape k kind (down g.blocks))) (lowest_gap k (gaps z.heap.table z.heap.map)))) there ∙ sym there;
}

-- so it does once a free block is opened for it
pub opened_taken : (z new : ZoneState) (k at : ℕ) (o : IsOpened z k at new) (kind : Kind) → placed_relocatable z.shape z.heap.table k kind z.heap.map ≡ Some (o.low.free.before ++ (taken new.shape k kind o.low.free.size ++ o.low.free.after))
opened_taken z new k at o kind =
    o.taken kind ∙ ap (λ (w : ZoneState). take_lowest w.shape k kind w.heap.map) (sym o.zone) ∙ ap (take_lowest new.shape k kind) o.low.free.map
    ∙ take_lowest-there new.shape k kind o.low.free.before o.low.free.size o.low.free.after o.low.lowest o.low.large

-- no free block has room in blocks where none has in two parts of them
both_none : (k : ℕ) (a b : ZoneMap) → NoneHas k a → NoneHas k b → NoneHas k (a ++ b)
both_none k a b none others = list_all-append (λ e. not (has_free k e)) a b ∙ and_from _ _ none others

module _ (z : ZoneState) (k at : ℕ) (some : 0 < k) (is : IsLowestGap z k at) where
  abbrev g : Gap
  g = is.gap

  -- the gap has room
  pub gap_is : IsGap z.heap.table z.heap.map g × (k ≤ room g)
  gap_is = lowest_gap-is z.heap.table z.heap.map k g is.lowest

  pub gap_free : 0 < free_bytes g.blocks
  gap_free = let fits = gap_is.1 in omega arith

  -- the map with the gap arranged down: its free bytes are one block, after the blocks that are used
  down_map : filled g (down g.blocks) ≡ (g.before ++ used_blocks g.blocks) ++ block Free (free_bytes g.blocks) ∷ g.after
  down_map =
      let used = used_blocks g.blocks in
      ap (λ free. filled g (used ++ free)) (free_block-some (free_bytes g.blocks) gap_free)
      ∙ ap (λ m. m ++ g.after) (sym (append_assoc g.before used (block Free (free_bytes g.blocks) ∷ [])))
      ∙ append_assoc (g.before ++ used) (block Free (free_bytes g.blocks) ∷ []) g.after

  -- nothing before it is free and has room
  below_none : NoneHas k (g.before ++ used_blocks g.blocks)
  below_none = both_none k g.before (used_blocks g.blocks) (before_none z.heap.table k z.heap.map g is.lowest) (used_none k g.blocks)

  -- a relocatable block takes that block
  taken_down : NoneHas k z.heap.map → (kind : Kind) → placed_relocatable z.shape z.heap.table k kind z.heap.map ≡ take_lowest z.shape k kind (filled g (down g.blocks))
  taken_down none kind =
      let used = used_blocks g.blocks in
      let free = free_bytes g.blocks in
      let s = z.shape in
      let front = taken s k kind free in
      let in_gap : Gap → _ = λ (g : Gap). option_map (filled g) (take_lowest s k kind (down g.blocks)) in
      ap (λ o. option_or o (option_and_then in_gap (lowest_gap k (gaps z.heap.table z.heap.map)))) (take_lowest-none s k kind z.heap.map none)
      ∙ ap (option_and_then in_gap) is.lowest
      ∙ ap (λ f. option_map (filled g) (take_lowest s k kind (used ++ f))) (free_block-some free gap_free)
      ∙ ap (option_map (filled g)) (take_lowest-there s k kind used free [] (used_none k g.blocks) gap_is.1)
      ∙ ap Some (ap (λ m. filled g (used ++ m)) (append-nil front) ∙ ap (λ m. m ++ g.after) (sym (append_assoc g.before used front)) ∙ append_assoc (g.before ++ used) front g.after)
      ∙ sym (ap (take_lowest s k kind) down_map ∙ take_lowest-there s k kind (g.before ++ used) free g.after below_none gap_is.1)

  -- arranged down, the gap has the lowest free block with room
  pub opened_down : (new : ZoneState) (low : ℕ) → NoneHas k z.heap.map → new ≡ with_gap z g (down g.blocks) → low ≡ address_after z.shape (g.before ++ used_blocks g.blocks) → IsOpened z k low new
  opened_down new low none same place = record {
    map = filled g (down g.blocks);
    zone = same;
    low = subst (λ w. LowestAt w k low) (sym same) (let low : LowestAt (with_gap z g (down g.blocks)) k low = record {
      free = record { before = g.before ++ used_blocks g.blocks; size = free_bytes g.blocks; after = g.after; map = down_map; place = place };
      large = gap_is.1;
      lowest = below_none;
    } in low);
    taken = taken_down none;
  }

  pub sound_down : (new : ZoneState) → SoundZone z → new ≡ with_gap z g (down g.blocks) → SoundZone new
  sound_down new s same = sound-arranged z new g (down g.blocks) s gap_is.0 (down-IsArrangement g.blocks) same

  -- the gap with its first free block
  abbrev pub from : GapFrom z at
  from = gap_from z k at is

  pub sound_up : (new : ZoneState) → SoundZone z → new ≡ with_gap z g (up g.blocks) → SoundZone new
  sound_up new s same = sound-arranged z new g (up g.blocks) s gap_is.0 (up-IsArrangement g.blocks) same

  -- it is there
  abbrev pub entry_first : EntryAt z at
  entry_first = record { before = g.before ++ (is.first).used; here = block Free (is.first).size; after = (is.first).rest ++ g.after; map = map_from z at from; place = (is.first).place }

  module _ (start : ℕ) (there : start + total_size (is.first).used ≡ at) where
    -- the gap begins there
    abbrev pub at_start : GapAt z start
    at_start = record { gap = g; among = from.among; place = start_from z at from start there }

    -- and ends where its blocks from the free one on do
    abbrev pub between : (end : ℕ) → end ≡ at + total_size (rest_from z at from).blocks → GapBetween z start end
    between end long = record {
      at = at_start;
      long = (let all = ap total_size (is.first).blocks ∙ total_size-append (is.first).used (block Free (is.first).size ∷ (is.first).rest) in omega (arith, all, long, there));
    }

    -- arranged up where it begins with used blocks, or with too few free bytes
    pub cleared_up : (new : ZoneState) → begins_free k g.blocks ≡ false → new ≡ with_gap z g (up g.blocks) → IsCleared z k start new
    cleared_up new begins same = record { gap = g; lowest = is.lowest; start = start_from z at from start there; zone = same ∙ sym (ap (λ c. with_gap z g (cond c g.blocks (up g.blocks))) begins) }

    -- it stays where it begins with enough
    pub cleared_there : begins_free k g.blocks ≡ true → IsCleared z k start z
    cleared_there begins = record {
      gap = g;
      lowest = is.lowest;
      start = start_from z at from start there;
      zone = ap (λ m. with_map m z) gap_is.0.parts ∙ sym (ap (λ c. with_gap z g (cond c g.blocks (up g.blocks))) begins);
    }

    pub begins_used : start < at → begins_free k g.blocks ≡ false
    begins_used below = ap (begins_free k) (is.first).blocks ∙ used_begins k (is.first).used _ (is.first).none (omega arith)

    begins_there : HasSizes z → at ≤ start → begins_free k g.blocks ≡ nat_le k (is.first).size
    begins_there sizes above = ap (begins_free k) ((is.first).blocks ∙ ap (λ u. u ++ block Free (is.first).size ∷ (is.first).rest) (none_before z at from sizes start there above))

    -- by the size of its first block
    pub begins_few : HasSizes z → at ≤ start → (e : Entry) → e ≡ block Free (is.first).size → e.size < k → begins_free k g.blocks ≡ false
    begins_few sizes above e here few = begins_there sizes above ∙ below k (is.first).size (subst (λ (e : Entry). e.size < k) here few)
      where
        below : (k n : ℕ) → n < k → nat_le k n ≡ false
        below k n h = grind (arith, nat_tests)

    pub begins_enough : HasSizes z → at ≤ start → (e : Entry) → e ≡ block Free (is.first).size → k ≤ e.size → begins_free k g.blocks ≡ true
    begins_enough sizes above e here fits = begins_there sizes above ∙ within k (is.first).size (subst (λ (e : Entry). k ≤ e.size) here fits)
      where
        within : (k n : ℕ) → k ≤ n → nat_le k n ≡ true
        within k n h = grind (arith, nat_tests)

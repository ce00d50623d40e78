-- A gap arranged down from its first free block on.
use Rattle.std.proofs.Common.{◌≡◌, ℕ, ◌+◌, ◌≤◌, [], ◌∷◌, ◌++◌, ap, sym, ◌∙◌, append_assoc, arith}
use Rattle.mac_base.specs.declared.block.Entry.{Entry}
use Rattle.mac_base.specs.declared.block.Kind.TheVariants.{Free}
use Rattle.mac_base.specs.Arrangement.{used_blocks, down}
use Rattle.mac_base.specs.Gap.{Gap, filled}
use Rattle.mac_base.specs.Suits.{is_block_size}
use Rattle.mac_base.specs.ZoneMap.{ZoneMap, block, address_after, total_size}
use Rattle.mac_base.specs.ZoneState.{ZoneState}
use Rattle.zone_laws.proofs.GapParts.{IsGap, gap-IsGap}
use Rattle.zone_laws.proofs.GapApart.{sizes_possible}
use Rattle.zone_laws.proofs.Maps.{total_size-append}
use Rattle.linked_zone.specs.Changes.{with_map}
use Rattle.linked_zone.specs.Fit.{HasSizes}
use Rattle.zone_heap.specs.Gaps.{Settled, GapFrom, with_gap}
use Rattle.zone_index.specs.Runs.{FrontAt, RestAt, none_fixed}
use Rattle.zone_index.proofs.Sizes.{all_parts}
use Rattle.zone_heap.specs.Runs.{arranged}
use Rattle.zone_heap.proofs.Pressing.{used-front, down-front}
use Rattle.zone_heap.proofs.Settling.{run_of_rest}
use Rattle.zone_index.proofs.SomeBytes.{no_bytes}

module _ (z : ZoneState) (at : ℕ) (from : GapFrom z at) where
  abbrev g : Gap
  g = from.gap

  -- the blocks in use before the free one
  abbrev pub used : ZoneMap
  used = (from.first).used

  -- the gap's blocks from the free one on
  abbrev blocks : ZoneMap
  blocks = block Free (from.first).size ∷ (from.first).rest

  pub gap_is : IsGap z.heap.table z.heap.map g
  gap_is = gap-IsGap z.heap.table z.heap.map g from.among

  outwards : (m : ZoneMap) → (g.before ++ (used ++ m)) ++ g.after ≡ (g.before ++ used) ++ (m ++ g.after)
  outwards m = ap (λ f. f ++ g.after) (sym (append_assoc g.before used m)) ∙ append_assoc (g.before ++ used) m g.after

  pub map_from : z.heap.map ≡ (g.before ++ used) ++ (blocks ++ g.after)
  map_from = gap_is.parts ∙ ap (filled g) (from.first).blocks ∙ outwards blocks

  abbrev pub rest_from : RestAt z at
  rest_from = record { before = g.before ++ used; blocks = blocks; after = g.after; map = map_from; place = (from.first).place; moves = (all_parts _ used blocks (ap (none_fixed z.heap.table) (sym (from.first).blocks) ∙ gap_is.moves)).1; above = gap_is.above }

  -- once they are arranged down the gap is
  pub zone_from : (end : ℕ) (s : Settled z) (long : end ≡ at + total_size blocks) (new : ZoneState) → new ≡ arranged z (run_of_rest z at end s rest_from long) (down blocks) → new ≡ with_gap z g (down g.blocks)
  zone_from end s long new is =
      is ∙ ap (λ m. with_map m z) (sym (outwards (down blocks)) ∙ ap (filled g) (sym (down-front used blocks (from.first).none) ∙ ap down (sym (from.first).blocks)))

  -- and its free bytes begin after its used blocks
  pub free_from : (low : ℕ) → low ≡ at + total_size (used_blocks blocks) → low ≡ address_after z.shape (g.before ++ used_blocks g.blocks)
  free_from low is =
      let all : used_blocks g.blocks ≡ used ++ used_blocks blocks = ap used_blocks (from.first).blocks ∙ used-front used blocks (from.first).none in
      let bytes = ap total_size all ∙ total_size-append used (used_blocks blocks) in
      let whole = total_size-append g.before (used_blocks g.blocks) in
      let low = total_size-append g.before used in
      let here = (from.first).place in
      omega arith

  pub map_front : z.heap.map ≡ g.before ++ (used ++ block Free (from.first).size ∷ ((from.first).rest ++ g.after))
  map_front = map_from ∙ append_assoc g.before used (blocks ++ g.after)

  -- those before it reach down to the gap's start
  abbrev pub front_from : FrontAt z at
  front_from = record {
    before = g.before;
    blocks = used;
    after = block Free (from.first).size ∷ ((from.first).rest ++ g.after);
    map = map_front;
    place = (from.first).place;
    moves = (all_parts _ used blocks (ap (none_fixed z.heap.table) (sym (from.first).blocks) ∙ gap_is.moves)).0;
    below = gap_is.below;
  }

  -- where the gap begins
  pub start_from : (start : ℕ) → start + total_size used ≡ at → start ≡ address_after z.shape g.before
  start_from start is = let here = (from.first).place in let all = total_size-append g.before used in omega arith

  -- and where it begins with the free block
  pub none_before : HasSizes z → (start : ℕ) → start + total_size used ≡ at → at ≤ start → used ≡ []
  none_before sizes start is above =
      let parts = all_parts (λ (e : Entry). is_block_size z.shape e.size) g.before (used ++ (blocks ++ g.after)) (ap (sizes_possible z.shape) (sym map_front) ∙ sizes) in
      no_bytes z.shape used (all_parts _ used (blocks ++ g.after) parts.1).0 (omega arith)

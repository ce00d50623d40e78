-- All gaps pressed down, one after another.
use Rattle.std.proofs.Common.{◌≡◌, ℕ, ◌+◌, ◌<◌, ◌≤◌, Bool, true, not, cond, [], ◌∷◌, ◌++◌, refl, ap, sym, ◌∙◌, subst, append_assoc, append-nil, arith, inr}
use Rattle.std.specs.List.{list_all}
use Rattle.std.proofs.lemmas.Bool.{and_parts, not-true}
use Rattle.mac_base.specs.declared.block.Entry.{Entry}
use Rattle.mac_base.specs.HandleTable.{HandleTable}
use Rattle.mac_base.specs.Arrangement.{down}
use Rattle.mac_base.specs.Compaction.{all_down, all_down_after}
use Rattle.mac_base.specs.Gap.{Gap, is_fixed}
use Rattle.mac_base.specs.Suits.{is_block_size}
use Rattle.mac_base.specs.ZoneMap.{ZoneMap, total_size, address_after}
use Rattle.mac_base.specs.ZoneState.{ZoneState}
use Rattle.zone_laws.proofs.Arranging.{down-IsArrangement}
use Rattle.zone_laws.proofs.GapApart.{sizes_possible, free_bytes-possible}
use Rattle.zone_laws.proofs.GapParts.{IsGap, first_gap, first_gap-before, first_gap-IsGap}
use Rattle.zone_laws.proofs.Maps.{total_size-append}
use Rattle.linked_zone.specs.Changes.{with_map}
use Rattle.linked_zone.specs.Fit.{HasSizes}
use Rattle.linked_zone.specs.Places.{EntryAt, all_can_move}
use Rattle.zone_heap.specs.Gaps.{Settled}
use Rattle.zone_index.specs.Runs.{RestAt, none_fixed, begins_fixed}
use Rattle.zone_index.proofs.Entries.{FirstIn, first_in}
use Rattle.zone_index.proofs.Sizes.{all_parts, first_bytes}
use Rattle.zone_heap.specs.Runs.{RunAt, has_owner, arranged}
use Rattle.zone_heap.proofs.Settling.{owners-settled, all_move-unfixed}
use Rattle.zone_index.proofs.SomeBytes.{all_both, no_bytes}

-- whether the owners of these blocks are live
abbrev owned : HandleTable → ZoneMap → Bool
owned t m = list_all (λ (e : Entry). has_owner t e.kind) m

-- blocks that may move join the run
all_down-run : (t : HandleTable) (run blocks following : ZoneMap) → none_fixed t blocks ≡ true → all_down_after t run (blocks ++ following) ≡ all_down_after t (run ++ blocks) following
all_down-run t run [] following moves = ap (λ r. all_down_after t r following) (sym (append-nil run))
all_down-run t run (e ∷ es) following moves =
    let parts = and_parts (not (is_fixed t e.kind)) (none_fixed t es) moves in
    ap (λ c. cond c (down run ++ e ∷ all_down_after t [] (es ++ following)) (all_down_after t (run ++ e ∷ []) (es ++ following))) (not-true _ parts.0)
    ∙ all_down-run t (run ++ e ∷ []) es following parts.1 ∙ ap (λ r. all_down_after t r following) (append_assoc run (e ∷ []) es)

-- a fixed block ends it
pub all_down-fixed : (t : HandleTable) (blocks : ZoneMap) (e : Entry) (es : ZoneMap) → none_fixed t blocks ≡ true → is_fixed t e.kind ≡ true → all_down t (blocks ++ e ∷ es) ≡ down blocks ++ e ∷ all_down t es
all_down-fixed t blocks e es moves fixed =
    all_down-run t [] blocks (e ∷ es) moves ∙ ap (λ c. cond c (down blocks ++ e ∷ all_down_after t [] es) (all_down_after t (blocks ++ e ∷ []) es)) fixed

-- or the end does
pub all_down-last : (t : HandleTable) (blocks : ZoneMap) → none_fixed t blocks ≡ true → all_down t (blocks ++ []) ≡ down blocks
all_down-last t blocks moves = all_down-run t [] blocks [] moves

-- The gaps below an address are pressed down.
pub record Swept (z new : ZoneState) (at : ℕ) : Type 0 where
  pub lower : ZoneMap
  pub rest : ZoneMap
  pub zone : new ≡ with_map (lower ++ rest) z
  pub at_is : at ≡ address_after z.shape lower
  pub same : all_down z.heap.table z.heap.map ≡ lower ++ all_down z.heap.table rest
  pub sizes : sizes_possible z.shape (lower ++ rest) ≡ true
  pub owners : owned z.heap.table (lower ++ rest) ≡ true
  pub total : total_size (lower ++ rest) ≡ total_size z.heap.map

-- at first none is
pub none_swept : (z : ZoneState) (at : ℕ) → Settled z → at ≡ address_after z.shape [] → Swept z z at
none_swept z at s place = record { lower = []; rest = z.heap.map; zone = refl; at_is = place; same = refl; sizes = s.sizes; owners = owners-settled z s; total = refl }

module _ (z new : ZoneState) (at : ℕ) (settled : Settled z) (s : Swept z new at) where
  table_swept : new.heap.table ≡ z.heap.table
  table_swept = ap (λ (w : ZoneState). w.heap.table) s.zone

  -- sizes are possible
  pub sizes_swept : HasSizes new
  sizes_swept = subst HasSizes (sym s.zone) s.sizes

  -- the gap at the address
  abbrev pub gap_swept : Gap
  gap_swept = first_gap z.heap.table s.rest

  is_gap : IsGap z.heap.table s.rest gap_swept
  is_gap = first_gap-IsGap z.heap.table s.rest

  -- it and what lies after
  pub parts_swept : s.rest ≡ gap_swept.blocks ++ gap_swept.after
  parts_swept = (is_gap).parts ∙ ap (λ b. (b ++ gap_swept.blocks) ++ gap_swept.after) (first_gap-before z.heap.table s.rest)

  pub map_swept : new.heap.map ≡ s.lower ++ (gap_swept.blocks ++ gap_swept.after)
  map_swept = ap (λ (w : ZoneState). w.heap.map) s.zone ∙ ap (λ m. s.lower ++ m) parts_swept

  pub place_swept : at ≡ address_after new.shape s.lower
  place_swept = s.at_is ∙ ap (λ (w : ZoneState). address_after w.shape s.lower) (sym s.zone)

  pub moves_swept : none_fixed new.heap.table gap_swept.blocks ≡ true
  moves_swept = ap (λ t. none_fixed t gap_swept.blocks) table_swept ∙ (is_gap).moves

  pub above_swept : begins_fixed new.heap.table gap_swept.after ≡ true
  above_swept = ap (λ t. begins_fixed t gap_swept.after) table_swept ∙ (is_gap).above

  abbrev pub rest_swept : RestAt new at
  rest_swept = record { before = s.lower; blocks = gap_swept.blocks; after = gap_swept.after; map = map_swept; place = place_swept; moves = moves_swept; above = above_swept }

  -- of both parts what holds of all
  both_swept : (p : Entry → Bool) → list_all p (s.lower ++ s.rest) ≡ true → (list_all p s.lower ≡ true) × (list_all p gap_swept.blocks ≡ true) × (list_all p gap_swept.after ≡ true)
  both_swept p h =
      let parts = all_parts p s.lower s.rest h in
      let inner = all_parts p gap_swept.blocks gap_swept.after (ap (list_all p) (sym parts_swept) ∙ parts.1) in
      (parts.0, inner.0, inner.1)

  pub can_move_swept : all_can_move new.heap.table gap_swept.blocks ≡ true
  can_move_swept = ap (λ t. all_can_move t gap_swept.blocks) table_swept ∙ all_move-unfixed z.heap gap_swept.blocks settled.loans (both_swept _ s.owners).1 (is_gap).moves

  abbrev pub run_swept : (end : ℕ) → end ≡ at + total_size gap_swept.blocks → RunAt new at end
  run_swept end long = record { before = s.lower; blocks = gap_swept.blocks; after = gap_swept.after; map = map_swept; place = place_swept; long = long; moves = can_move_swept; loose = moves_swept }

  -- the zone's end
  end_swept : address_after z.shape z.heap.map ≡ at + (total_size gap_swept.blocks + total_size gap_swept.after)
  end_swept =
      let all = s.total in
      let here = s.at_is in
      let lower = total_size-append s.lower s.rest in
      let rest : total_size s.rest ≡ total_size gap_swept.blocks + total_size gap_swept.after = ap total_size parts_swept ∙ total_size-append gap_swept.blocks gap_swept.after in
      omega arith

  -- what holds of the blocks holds of them pressed down
  pressed_all : (p : Entry → Bool) → list_all p (s.lower ++ s.rest) ≡ true → list_all p (down gap_swept.blocks) ≡ true → list_all p (s.lower ++ (down gap_swept.blocks ++ gap_swept.after)) ≡ true
  pressed_all p h middle = let parts = both_swept p h in all_both p s.lower (down gap_swept.blocks ++ gap_swept.after) parts.0 (all_both p (down gap_swept.blocks) gap_swept.after middle parts.2)

  pressed_sizes : sizes_possible z.shape (s.lower ++ (down gap_swept.blocks ++ gap_swept.after)) ≡ true
  pressed_sizes =
      let possible = (both_swept (λ (e : Entry). is_block_size z.shape e.size) s.sizes).1 in
      pressed_all (λ (e : Entry). is_block_size z.shape e.size) s.sizes ((down-IsArrangement gap_swept.blocks).kept (λ (e : Entry). is_block_size z.shape e.size) possible (free_bytes-possible z.shape gap_swept.blocks possible))

  pressed_owners : owned z.heap.table (s.lower ++ (down gap_swept.blocks ++ gap_swept.after)) ≡ true
  pressed_owners =
      let owner : Entry → Bool = λ e. has_owner z.heap.table e.kind in
      pressed_all owner s.owners ((down-IsArrangement gap_swept.blocks).kept owner (both_swept owner s.owners).1 (inr refl))

  pressed_total : total_size (s.lower ++ (down gap_swept.blocks ++ gap_swept.after)) ≡ total_size z.heap.map
  pressed_total =
      let all = s.total in
      let lower = total_size-append s.lower s.rest in
      let rest : total_size s.rest ≡ total_size gap_swept.blocks + total_size gap_swept.after = ap total_size parts_swept ∙ total_size-append gap_swept.blocks gap_swept.after in
      let new_lower = total_size-append s.lower (down gap_swept.blocks ++ gap_swept.after) in
      let new_rest = total_size-append (down gap_swept.blocks) gap_swept.after in
      let same = (down-IsArrangement gap_swept.blocks).same_total in
      omega arith

  module _ (end : ℕ) (long : end ≡ at + total_size gap_swept.blocks) (after : ZoneState) (done : after ≡ arranged new (run_swept end long) (down gap_swept.blocks)) where
    -- the zone with the gap pressed down
    zone_pressed : after ≡ with_map (s.lower ++ (down gap_swept.blocks ++ gap_swept.after)) z
    zone_pressed = done ∙ ap (with_map (s.lower ++ (down gap_swept.blocks ++ gap_swept.after))) s.zone

    end_pressed : end ≡ address_after z.shape (s.lower ++ down gap_swept.blocks)
    end_pressed =
        let here = s.at_is in
        let all = total_size-append s.lower (down gap_swept.blocks) in
        let same = (down-IsArrangement gap_swept.blocks).same_total in
        omega arith

    -- below the zone's end a fixed block is after it
    pub stop : end < address_after z.shape z.heap.map → FirstIn gap_swept.after
    stop below = let all = end_swept in first_in gap_swept.after (omega arith)

    -- at the zone's end all gaps are pressed down
    pub swept_last : address_after z.shape z.heap.map ≤ end → Swept z after end
    swept_last above =
        let all = end_swept in
        let none = no_bytes z.shape gap_swept.after (both_swept _ s.sizes).2 (omega arith) in
        let m : ZoneMap = s.lower ++ (down gap_swept.blocks ++ gap_swept.after) in
        let same : m ≡ (s.lower ++ down gap_swept.blocks) ++ [] = ap (λ b. s.lower ++ (down gap_swept.blocks ++ b)) none ∙ sym (append_assoc s.lower (down gap_swept.blocks) []) in
        record {
          lower = s.lower ++ down gap_swept.blocks;
          rest = [];
          zone = zone_pressed ∙ ap (λ m. with_map m z) same;
          at_is = end_pressed;
          same = s.same ∙ ap (λ m. s.lower ++ all_down z.heap.table m) (parts_swept ∙ ap (λ b. gap_swept.blocks ++ b) none) ∙ ap (λ m. s.lower ++ m) (all_down-last z.heap.table gap_swept.blocks (is_gap).moves)
              ∙ sym (append-nil (s.lower ++ down gap_swept.blocks));
          sizes = ap (sizes_possible z.shape) (sym same) ∙ pressed_sizes;
          owners = ap (owned z.heap.table) (sym same) ∙ pressed_owners;
          total = ap total_size (sym same) ∙ pressed_total;
        }

    module _ (b : FirstIn gap_swept.after) where
      -- it is read there
      pub map_stop : after.heap.map ≡ (s.lower ++ down gap_swept.blocks) ++ b.here ∷ b.after
      map_stop = ap (λ (w : ZoneState). w.heap.map) zone_pressed ∙ ap (λ m. s.lower ++ (down gap_swept.blocks ++ m)) b.is ∙ sym (append_assoc s.lower (down gap_swept.blocks) (b.here ∷ b.after))

      pub place_stop : end ≡ address_after after.shape (s.lower ++ down gap_swept.blocks)
      place_stop = end_pressed ∙ ap (λ (w : ZoneState). address_after w.shape (s.lower ++ down gap_swept.blocks)) (sym zone_pressed)

      abbrev pub entry_stop : EntryAt after end
      entry_stop = record { before = s.lower ++ down gap_swept.blocks; here = b.here; after = b.after; map = map_stop; place = place_stop }

      -- it has bytes
      pub some_stop : 0 < (b.here).size
      some_stop = first_bytes z.shape b.here b.after (ap (sizes_possible z.shape) (sym b.is) ∙ (both_swept _ s.sizes).2)

      -- it ends at the zone's end or below
      pub within_stop : end + (b.here).size ≤ address_after z.shape z.heap.map
      within_stop = let all = end_swept in let bytes = ap total_size b.is in omega arith

      -- the next gap begins after it
      pub swept_on : Swept z after (end + (b.here).size)
      swept_on =
          let m : ZoneMap = s.lower ++ (down gap_swept.blocks ++ gap_swept.after) in
          let d : ZoneMap = down gap_swept.blocks in
          let regroup : (r : ZoneMap) → s.lower ++ (d ++ (b.here ∷ r)) ≡ (s.lower ++ (d ++ b.here ∷ [])) ++ r = λ r. simp append_assoc in
          let same : m ≡ (s.lower ++ (d ++ b.here ∷ [])) ++ b.after = ap (λ m. s.lower ++ (d ++ m)) b.is ∙ regroup b.after in
          record {
            lower = s.lower ++ (d ++ b.here ∷ []);
            rest = b.after;
            zone = zone_pressed ∙ ap (λ m. with_map m z) same;
            at_is =
                let first = end_pressed in
                let old = total_size-append s.lower d in
                let all = total_size-append s.lower (d ++ b.here ∷ []) in
                let push = total_size-append d (b.here ∷ []) in
                omega arith;
            same = s.same ∙ ap (λ m. s.lower ++ all_down z.heap.table m) (parts_swept ∙ ap (λ m. gap_swept.blocks ++ m) b.is)
                ∙ ap (λ m. s.lower ++ m) (all_down-fixed z.heap.table gap_swept.blocks b.here b.after (is_gap).moves (ap (begins_fixed z.heap.table) (sym b.is) ∙ (is_gap).above)) ∙ regroup (all_down z.heap.table b.after);
            sizes = ap (sizes_possible z.shape) (sym same) ∙ pressed_sizes;
            owners = ap (owned z.heap.table) (sym same) ∙ pressed_owners;
            total = ap total_size (sym same) ∙ pressed_total;
          }

  -- at the zone's end all gaps are pressed down
  pub all_swept : address_after z.shape z.heap.map ≤ at → new ≡ with_map (all_down z.heap.table z.heap.map) z
  all_swept above =
      let all = s.total in
      let here = s.at_is in
      let both = total_size-append s.lower s.rest in
      let none = no_bytes z.shape s.rest (all_parts _ s.lower s.rest s.sizes).1 (omega arith) in
      s.zone ∙ ap (λ m. with_map (s.lower ++ m) z) none ∙ ap (λ m. with_map m z) (ap (λ m. s.lower ++ all_down z.heap.table m) (sym none) ∙ sym s.same)

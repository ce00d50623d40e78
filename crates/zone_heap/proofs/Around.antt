-- Some gaps arranged down, before all are.
use Rattle.std.proofs.Common.{◌≡◌, ℕ, ◌+◌, Bool, true, false, not, cond, [], ◌∷◌, ◌++◌, refl, ap, sym, ◌∙◌, append_assoc, arith, inr}
use Rattle.std.specs.List.{list_all}
use Rattle.std.proofs.lemmas.Bool.{and_from, and_parts}
use Rattle.mac_base.specs.declared.block.Entry.{Entry}
use Rattle.mac_base.specs.Arrangement.{down, used_blocks}
use Rattle.mac_base.specs.Compaction.{all_down, all_down_after}
use Rattle.mac_base.specs.Gap.{Gap, is_fixed}
use Rattle.mac_base.specs.HandleTable.{HandleTable}
use Rattle.mac_base.specs.ZoneMap.{ZoneMap, address_after, free_block, free_bytes, total_size}
use Rattle.mac_base.specs.ZoneState.{ZoneState}
use Rattle.zone_laws.proofs.Arranging.{down-IsArrangement, used_blocks-down}
use Rattle.zone_laws.proofs.GapParts.{IsGap, first_gap, first_gap-before, first_gap-IsGap}
use Rattle.zone_laws.proofs.Maps.{total_size-append}
use Rattle.linked_zone.specs.Changes.{with_map}
use Rattle.linked_zone.specs.Loans.{KeepsLoans}
use Rattle.linked_zone.specs.Places.{EntryAt}
use Rattle.zone_index.specs.Runs.{FrontAt, RestAt, begins_fixed, ends_fixed, none_fixed}
use Rattle.zone_index.proofs.Sizes.{all_parts}
use Rattle.zone_index.specs.Weights.{in_order, weights}
use Rattle.zone_heap.specs.Gaps.{AroundAt, Settled}
use Rattle.zone_heap.specs.Runs.{RunAt, has_owner}
use Rattle.zone_heap.proofs.Arranged.{order-all_down}
use Rattle.zone_heap.proofs.Settling.{all_move-unfixed, owners-settled}
use Rattle.zone_heap.proofs.Sweeping.{all_down-fixed, all_down-last}

-- what is arranged down is so already
down-down : (b : ZoneMap) → down (down b) ≡ down b
down-down b = ap (λ u. u ++ free_block (free_bytes (down b))) (used_blocks-down b) ∙ ap (λ n. used_blocks b ++ free_block n) (down-IsArrangement b).same_free

-- all gaps arranged down are the same where those after a fixed block are
after_fixed : (t : HandleTable) (run : ZoneMap) (e : Entry) (es a b : ZoneMap) → ends_fixed t (e ∷ es) ≡ true → all_down t a ≡ all_down t b → all_down_after t run (e ∷ es ++ a) ≡ all_down_after t run (e ∷ es ++ b)
after_fixed t run e [] a b ends same =
    ap (λ c. cond c (down run ++ e ∷ all_down_after t [] a) (all_down_after t (run ++ e ∷ []) a)) ends
    ∙ ap (λ m. down run ++ e ∷ m) same
    ∙ sym (ap (λ c. cond c (down run ++ e ∷ all_down_after t [] b) (all_down_after t (run ++ e ∷ []) b)) ends)
after_fixed t run e (f ∷ fs) a b ends same =
    let stands = after_fixed t [] f fs a b ends same in
    let joins = after_fixed t (run ++ e ∷ []) f fs a b ends same in
    elim (is_fixed t e.kind) as (λ c. cond c (down run ++ e ∷ all_down_after t [] (f ∷ fs ++ a)) (all_down_after t (run ++ e ∷ []) (f ∷ fs ++ a)) ≡ cond c (down run ++ e ∷ all_down_after t [] (f ∷ fs ++ b)) (all_down_after t (run ++ e ∷ []) (f ∷ fs ++ b))) [
      | true ↦ ap (λ m. down run ++ e ∷ m) stands
      | false ↦ joins
    ]

-- the lowest gap arranged down
first_down : (t : HandleTable) (blocks following : ZoneMap) → none_fixed t blocks ≡ true → begins_fixed t following ≡ true → all_down t (down blocks ++ following) ≡ all_down t (blocks ++ following)
first_down t blocks following moves above = by_after following above
  where
    kept : none_fixed t (down blocks) ≡ true
    kept = (down-IsArrangement blocks).kept (λ (e : Entry). not (is_fixed t e.kind)) moves (inr refl)

    by_after : (m : ZoneMap) → begins_fixed t m ≡ true → all_down t (down blocks ++ m) ≡ all_down t (blocks ++ m)
    by_after [] above = all_down-last t (down blocks) kept ∙ down-down blocks ∙ sym (all_down-last t blocks moves)
    by_after (e ∷ es) above = all_down-fixed t (down blocks) e es kept above ∙ ap (λ d. d ++ e ∷ all_down t es) (down-down blocks) ∙ sym (all_down-fixed t blocks e es moves above)

-- any gap arranged down changes nothing of all gaps arranged down
all_down-around : (t : HandleTable) (before blocks following : ZoneMap) → none_fixed t blocks ≡ true → ends_fixed t before ≡ true → begins_fixed t following ≡ true
    → all_down t (before ++ (down blocks ++ following)) ≡ all_down t (before ++ (blocks ++ following))
all_down-around t [] blocks following moves below above = first_down t blocks following moves above
all_down-around t (e ∷ es) blocks following moves below above = after_fixed t [] e es (down blocks ++ following) (blocks ++ following) below (first_down t blocks following moves above)

-- Blocks up to the last fixed one, and those after it.
record Cut (t : HandleTable) (m : ZoneMap) : Type 0 where
  pub before : ZoneMap
  pub lower : ZoneMap
  pub is : m ≡ before ++ lower
  pub moves : none_fixed t lower ≡ true
  pub below : ends_fixed t before ≡ true

cut : (t : HandleTable) (m : ZoneMap) → Cut t m
cut t [] = record { before = []; lower = []; is = refl; moves = refl; below = refl }
cut t (e ∷ es) = let c = cut t es in by_parts c.before c.lower c.is c.moves c.below
  where
    by_fixed : (b : Bool) → is_fixed t e.kind ≡ b → (lower : ZoneMap) → es ≡ lower → none_fixed t lower ≡ true → Cut t (e ∷ es)
    by_fixed true fixed lower is moves = record { before = e ∷ []; lower = lower; is = ap (λ m. e ∷ m) is; moves = moves; below = fixed }
    by_fixed false free lower is moves = record { before = []; lower = e ∷ lower; is = ap (λ m. e ∷ m) is; moves = and_from _ _ (ap not free) moves; below = refl }

    by_parts : (before lower : ZoneMap) → es ≡ before ++ lower → none_fixed t lower ≡ true → ends_fixed t before ≡ true → Cut t (e ∷ es)
    by_parts [] lower is moves below = by_fixed (is_fixed t e.kind) refl lower is moves
    by_parts (b ∷ bs) lower is moves below = record { before = e ∷ b ∷ bs; lower = lower; is = ap (λ m. e ∷ m) is; moves = moves; below = below }

-- the gap around a block
pub around_entry : (z : ZoneState) (at : ℕ) → EntryAt z at → AroundAt z at
around_entry z at e =
    let t : HandleTable = z.heap.table in
    let low = cut t e.before in
    let rest : ZoneMap = e.here ∷ e.after in
    let g : Gap = first_gap t rest in
    let is : IsGap t rest g = first_gap-IsGap t rest in
    let parts : rest ≡ g.blocks ++ g.after = is.parts ∙ ap (λ b. (b ++ g.blocks) ++ g.after) (first_gap-before t rest) in
    record {
      before = low.before;
      lower = low.lower;
      upper = g.blocks;
      after = g.after;
      map = e.map ∙ ap (λ m. m ++ rest) low.is ∙ ap (λ m. (low.before ++ low.lower) ++ m) parts
          ∙ append_assoc low.before low.lower (g.blocks ++ g.after) ∙ ap (λ m. low.before ++ m) (sym (append_assoc low.lower g.blocks g.after));
      place = e.place ∙ ap (address_after z.shape) low.is;
      moves = both low.lower g.blocks low.moves is.moves;
      below = low.below;
      above = is.above;
    }
  where
    both : (a b : ZoneMap) → none_fixed z.heap.table a ≡ true → none_fixed z.heap.table b ≡ true → none_fixed z.heap.table (a ++ b) ≡ true
    both [] b ha hb = hb
    both (e ∷ es) b ha hb = let parts = and_parts _ _ ha in and_from _ _ parts.0 (both es b parts.1 hb)

module _ (z : ZoneState) (at : ℕ) (a : AroundAt z at) where
  -- the blocks before the address, and those from it on
  abbrev pub front_around : FrontAt z at
  front_around = record {
    before = a.before;
    blocks = a.lower;
    after = a.upper ++ a.after;
    map = a.map ∙ ap (λ m. a.before ++ m) (append_assoc a.lower a.upper a.after);
    place = a.place;
    moves = (all_parts _ a.lower a.upper a.moves).0;
    below = a.below;
  }

  abbrev pub rest_around : RestAt z at
  rest_around = record {
    before = a.before ++ a.lower;
    blocks = a.upper;
    after = a.after;
    map = a.map ∙ ap (λ m. a.before ++ m) (append_assoc a.lower a.upper a.after) ∙ sym (append_assoc a.before a.lower (a.upper ++ a.after));
    place = a.place;
    moves = (all_parts _ a.lower a.upper a.moves).1;
    above = a.above;
  }

  -- they are a gap
  abbrev pub gap_around : Gap
  gap_around = record { before = a.before; blocks = a.lower ++ a.upper; after = a.after }

  pub is_gap_around : IsGap z.heap.table z.heap.map gap_around
  is_gap_around = record { parts = a.map ∙ sym (append_assoc a.before (a.lower ++ a.upper) a.after); moves = a.moves; below = a.below; above = a.above }

  -- and a run
  abbrev pub run_around : (start end : ℕ) → Settled z → start + total_size a.lower ≡ at → end ≡ at + total_size a.upper → RunAt z start end
  run_around start end s low high = record {
    before = a.before;
    blocks = a.lower ++ a.upper;
    after = a.after;
    map = a.map;
    place = (let place = a.place in let all = total_size-append a.before a.lower in omega arith);
    long = (let all = total_size-append a.lower a.upper in omega arith);
    moves = all_move-unfixed z.heap (a.lower ++ a.upper) s.loans
        (all_parts _ (a.lower ++ a.upper) a.after (all_parts _ a.before ((a.lower ++ a.upper) ++ a.after) (ap (list_all (λ (e : Entry). has_owner z.heap.table e.kind)) (sym a.map) ∙ owners-settled z s)).1).0 a.moves;
    loose = a.moves;
  }

-- Some gaps are arranged down.
pub record Partly (z new : ZoneState) : Type 0 where
  pub map : ZoneMap
  pub zone : new ≡ with_map map z
  pub same : all_down z.heap.table map ≡ all_down z.heap.table z.heap.map
  pub loans : KeepsLoans z new
  pub settled : Settled new

-- at first none is
pub none_partly : (z : ZoneState) → Settled z → Partly z z
none_partly z s = record { map = z.heap.map; zone = refl; same = refl; loans = (refl, λ x loan is. is); settled = s }

module _ (z new : ZoneState) (p : Partly z new) where
  table_is : new.heap.table ≡ z.heap.table
  table_is = ap (λ (w : ZoneState). w.heap.table) p.zone

  map_is : new.heap.map ≡ p.map
  map_is = ap (λ (w : ZoneState). w.heap.map) p.zone

  -- all of them are the same
  same_all : all_down new.heap.table new.heap.map ≡ all_down z.heap.table z.heap.map
  same_all = ap (λ t. all_down t new.heap.map) table_is ∙ ap (all_down z.heap.table) map_is ∙ p.same

  -- and one more
  pub partly_on : (at : ℕ) (a : AroundAt new at) (after : ZoneState) → after ≡ with_map (a.before ++ (down (a.lower ++ a.upper) ++ a.after)) new → KeepsLoans new after → Settled after → Partly z after
  partly_on at a after is loans settled =
      let m : ZoneMap = a.before ++ (down (a.lower ++ a.upper) ++ a.after) in
      record {
        map = m;
        zone = is ∙ ap (with_map m) p.zone;
        same = ap (λ t. all_down t m) (sym table_is) ∙ all_down-around new.heap.table a.before (a.lower ++ a.upper) a.after a.moves a.below a.above ∙ ap (all_down new.heap.table) (sym a.map) ∙ same_all;
        loans = (loans.0 ∙ p.loans.0, λ x loan is. loans.1 x loan (p.loans.1 x loan is));
        settled = settled;
      }

  -- where no block can be moved down, all are
  pub partly_all : in_order false (weights new.heap.table new.heap.map) ≡ true → new ≡ with_map (all_down z.heap.table z.heap.map) z
  partly_all order =
      let whole = order-all_down new.heap.table new.shape new.heap.map (p.settled).sizes order in
      p.zone ∙ ap (λ m. with_map m z) (sym map_is ∙ sym whole ∙ same_all)

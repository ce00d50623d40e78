-- What a settled zone gives: owners are live, and blocks that aren't fixed can be moved.
use Rattle.std.proofs.Common.{◌≡◌, ℕ, ◌+◌, Bool, true, false, not, cond, List, [], ◌∷◌, ◌++◌, length, refl, ap, sym, ◌∙◌, subst, append_assoc, arith, Option, Some, None}
use Rattle.std.specs.Prelude.{◌||◌}
use Rattle.std.specs.List.{list_all}
use Rattle.std.proofs.lemmas.Bool.{and_from, and_parts, not-true, true≢false}
use Rattle.std.proofs.lemmas.Bool.Decides.{nat_tests}
use Rattle.mac_base.specs.declared.block.Entry.{Entry}
use Rattle.mac_base.specs.declared.block.Kind.{Kind}
use Rattle.mac_base.specs.declared.block.Kind.TheVariants.{Free, Master, Ptr, Rel}
use Rattle.mac_base.specs.Gap.{Gap, is_fixed}
use Rattle.mac_base.specs.HandleTable.{HandleTable, Live, EmptyHandle, FullHandle, Pointer, live_at, live_handle, live_pointer, is_full, is_handle, is_lent, is_locked}
use Rattle.mac_base.specs.Heap.{Heap}
use Rattle.mac_base.specs.Loans.{LoansAreFixed}
use Rattle.mac_base.specs.Suits.{is_handle_block}
use Rattle.mac_base.specs.ZoneMap.{ZoneMap, address_after, sizes, total_size}
use Rattle.mac_base.specs.ZoneState.{ZoneState}
use Rattle.zone_laws.proofs.GapAppend.{sizes-append, length-addresses_from}
use Rattle.zone_laws.proofs.GapParts.{IsGap, gap-IsGap}
use Rattle.zone_heap.specs.Gaps.{Settled, GapAt}
use Rattle.linked_zone.specs.Places.{can_move, all_can_move}
use Rattle.zone_index.specs.Runs.{RestAt, none_fixed}
use Rattle.zone_index.proofs.Sizes.{all_parts}
use Rattle.zone_heap.specs.Runs.{HasOwners, RunAt, has_owner}
use Rattle.zone_index.proofs.Owners.{live_full-handle}

-- and no pointer
live_handle-pointer : (o : Option Live) → live_handle o ≡ true → live_pointer o ≡ false
live_handle-pointer None h = refl
live_handle-pointer (Some EmptyHandle) h = refl
live_handle-pointer (Some (FullHandle flags bytes)) h = refl
live_handle-pointer (Some (Pointer bytes)) h = absurd (cc h)

-- each handle with a block of these is one that has a block
abbrev OneBlock : HandleTable → ZoneMap → Type 0
OneBlock t m = (h : ℕ) → length (sizes (is_handle_block h) m) ≡ cond (is_full t h) 1 0

kind_owned : (t : HandleTable) (a : ZoneMap) (e : Entry) (b : ZoneMap) (kind : Kind) → e.kind ≡ kind → OneBlock t (a ++ e ∷ b) → has_owner t kind ≡ true
kind_owned t a e b Free is one = refl
kind_owned t a e b Master is one = refl
kind_owned t a e b (Ptr p) is one = refl
kind_owned t a e b (Rel h) is one = by_full (is_full t h) refl
  where
    here : is_handle_block h e.kind ≡ true
    here = ap (is_handle_block h) is ∙ same h
      where
        same : (h : ℕ) → is_handle_block h (Rel h) ≡ true
        same h = grind (arith, nat_tests)

    by_full : (c : Bool) → is_full t h ≡ c → is_handle t h ≡ true
    by_full true full = live_full-handle (live_at t h) full
    by_full false none =
        let count = ap length (sizes-append (is_handle_block h) a (e ∷ b) ∙ ap (λ c. sizes (is_handle_block h) a ++ (cond c (e.size ∷ []) [] ++ sizes (is_handle_block h) b)) here) in
        absurd (no_one (sizes (is_handle_block h) a) e.size (sizes (is_handle_block h) b) (sym count ∙ one h ∙ ap (λ c. cond c 1 0) none))
      where
        no_one : (xs : List ℕ) (n : ℕ) (ys : List ℕ) → length (xs ++ n ∷ ys) ≡ 0 → ⊥
        no_one [] n ys h = absurd (omega arith)
        no_one (x ∷ xs) n ys h = absurd (omega arith)

owners_from : (t : HandleTable) (a m : ZoneMap) → OneBlock t (a ++ m) → list_all (λ (e : Entry). has_owner t e.kind) m ≡ true
owners_from t a [] one = refl
owners_from t a (e ∷ es) one =
    and_from _ _ (kind_owned t a e es e.kind refl one)
    (owners_from t (a ++ e ∷ []) es (subst (OneBlock t) (sym (append_assoc a (e ∷ []) es)) one))

-- the owners of a settled zone's blocks are live
pub owners-settled : (z : ZoneState) → Settled z → HasOwners z
owners-settled z s = owners_from z.heap.table [] z.heap.map (λ h. sym (length-addresses_from (address_after z.shape []) (is_handle_block h) z.heap.map) ∙ (s.coherent).handles h)

unlocked_here : (heap : Heap) (h : ℕ) → LoansAreFixed heap → is_handle heap.table h ≡ true → is_locked heap.table h ≡ false → not (is_lent heap.table h) ≡ true
unlocked_here heap h loans live unlocked = by_lent (is_lent heap.table h) refl
  where
    by_lent : (c : Bool) → is_lent heap.table h ≡ c → not c ≡ true
    by_lent false lent = refl
    by_lent true lent =
        let fixed = loans h lent in
        absurd (true≢false (sym fixed ∙ ap (λ c. c || is_locked heap.table h) (live_handle-pointer (live_at heap.table h) live) ∙ unlocked))

-- a block that isn't fixed can be moved
pub moves-unfixed : (heap : Heap) (kind : Kind) → LoansAreFixed heap → has_owner heap.table kind ≡ true → is_fixed heap.table kind ≡ false → can_move heap.table kind ≡ true
moves-unfixed heap Free loans owner moves = refl
moves-unfixed heap Master loans owner moves = absurd (cc moves)
moves-unfixed heap (Ptr p) loans owner moves = absurd (cc moves)
moves-unfixed heap (Rel h) loans owner moves = unlocked_here heap h loans owner moves

-- so can blocks of which none is
pub all_move-unfixed : (heap : Heap) (b : ZoneMap) → LoansAreFixed heap → list_all (λ (e : Entry). has_owner heap.table e.kind) b ≡ true → none_fixed heap.table b ≡ true → all_can_move heap.table b ≡ true
all_move-unfixed heap [] loans owners moves = refl
all_move-unfixed heap (e ∷ es) loans owners moves =
    let o = and_parts (has_owner heap.table e.kind) _ owners in
    let m = and_parts (not (is_fixed heap.table e.kind)) (none_fixed heap.table es) moves in
    and_from _ _ (moves-unfixed heap e.kind loans o.0 (not-true _ m.0)) (all_move-unfixed heap es loans o.1 m.1)

-- the blocks from the beginning of a gap on are those of the gap
abbrev pub rest_of_gap : (z : ZoneState) (start : ℕ) → GapAt z start → RestAt z start
rest_of_gap z start at =
    let g : Gap = at.gap in
    let is : IsGap z.heap.table z.heap.map g = gap-IsGap z.heap.table z.heap.map g at.among in
    record { before = g.before; blocks = g.blocks; after = g.after; map = is.parts ∙ append_assoc g.before g.blocks g.after; place = at.place; moves = is.moves; above = is.above }

-- they are a run
abbrev pub run_of_rest : (z : ZoneState) (start end : ℕ) → Settled z → (rest : RestAt z start) → end ≡ start + total_size rest.blocks → RunAt z start end
run_of_rest z start end s rest long = record {
  before = rest.before;
  blocks = rest.blocks;
  after = rest.after;
  map = rest.map;
  place = rest.place;
  long = long;
  moves = all_move-unfixed z.heap rest.blocks s.loans
      (all_parts _ rest.blocks rest.after (all_parts _ rest.before (rest.blocks ++ rest.after) (ap (list_all (λ (e : Entry). has_owner z.heap.table e.kind)) (sym rest.map) ∙ owners-settled z s)).1).0 rest.moves;
  loose = rest.moves;
}

-- The lowest gap with room is that of the block with which some gap has room.
use Rattle.std.proofs.Common.{cond, not, ◌≡◌, ℕ, ◌+◌, ◌<◌, ◌≤◌, Bool, true, false, [], ◌∷◌, ◌++◌, refl, ap, sym, ◌∙◌, subst, append_assoc, arith, Option, Some, None, MatchOption}
use Rattle.std.specs.Prelude.{IfNone, IfSome, IsTrue, max, nat_lt}
use Rattle.std.proofs.lemmas.Bool.{and_from, and_parts, false_from_ne_true, le-leb, leb-true, not-true}
use Rattle.std.proofs.lemmas.Bool.Decides.{nat_tests}
use Rattle.std.proofs.lemmas.List.Folds.{list_all-append}
use Rattle.mac_base.specs.declared.block.Entry.{Entry}
use Rattle.mac_base.specs.Gap.{Gap, gaps, is_fixed, lowest_gap, room}
use Rattle.mac_base.specs.HandleTable.{HandleTable}
use Rattle.mac_base.specs.Reports.{largest_room}
use Rattle.mac_base.specs.declared.block.Kind.TheVariants.{Free}
use Rattle.mac_base.specs.ZoneMap.{ZoneMap, address_after, block, free_bytes, free_size, is_free, total_size}
use Rattle.mac_base.specs.ZoneState.{ZoneState}
use Rattle.zone_laws.proofs.Arranging.{free_bytes-all_used}
use Rattle.zone_laws.proofs.GapAppend.{free_bytes-append}
use Rattle.zone_laws.proofs.GapParts.{first_gap, gaps-first, later_gaps, lowest_gap-is}
use Rattle.zone_laws.proofs.Maps.{total_size-append}
use Rattle.linked_zone.specs.Places.{FirstFree, SplitAt, none_free}
use Rattle.zone_index.specs.declared.weight.Weight.{Weight}
use Rattle.zone_index.specs.Gaps.{IsLowestGap}
use Rattle.zone_index.specs.Rooms.{Reaches}
use Rattle.zone_index.specs.Runs.{FrontAt, RestAt, none_fixed, begins_fixed, ends_fixed}
use Rattle.zone_index.specs.Weights.{most, weights}
use Rattle.zone_index.proofs.Fronts.{front_split, split_entry}
use Rattle.zone_index.proofs.Lowest.{FewBelow, first_run-is, later-found}
use Rattle.zone_index.proofs.Most.{most-gaps}
use Rattle.zone_index.proofs.GapWalk.{free-among, none-among}
use Rattle.zone_index.proofs.Splits.{FirstRun, LastRun, first_run, last_run, run-free}

-- where fewer bytes are free in all no gap has room
pub none-lowest : (t : HandleTable) (k : ℕ) (m : ZoneMap) → free_bytes m < k → lowest_gap k (gaps t m) ≡ None
none-lowest t k m few = by_found (lowest_gap k (gaps t m)) refl
  where
    by_found : (o : Option Gap) → lowest_gap k (gaps t m) ≡ o → lowest_gap k (gaps t m) ≡ None
    by_found None none = none
    by_found (Some g) found =
        let is = lowest_gap-is t m k g found in
        let parts = ap free_bytes is.0.parts ∙ free_bytes-append (g.before ++ g.blocks) g.after in
        let inner = free_bytes-append g.before g.blocks in
        let fits = is.1 in
        absurd (omega arith)

-- the most free bytes that one gap has of some blocks, where r lie before them
abbrev most_free : HandleTable → ℕ → ZoneMap → ℕ
most_free t r m = most (λ (w : Weight). w.free) r (weights t m)

module _ (t : HandleTable) where
  -- with one more block in front
  fixed_first : (r : ℕ) (e : Entry) (es : ZoneMap) → is_fixed t e.kind ≡ true → most_free t r (e ∷ es) ≡ max r (most_free t 0 es)
  fixed_first r e es is = ap (λ c. cond c (max r (most_free t 0 es)) (most_free t (r + free_size e) es)) is

  loose_first : (r : ℕ) (e : Entry) (es : ZoneMap) → is_fixed t e.kind ≡ false → most_free t r (e ∷ es) ≡ most_free t (r + free_size e) es
  loose_first r e es is = ap (λ c. cond c (max r (most_free t 0 es)) (most_free t (r + free_size e) es)) is

  most-least : (r : ℕ) (m : ZoneMap) → r ≤ most_free t r m
  most-least r [] = omega arith
  most-least r (e ∷ es) = elim (is_fixed t e.kind) as (λ b. is_fixed t e.kind ≡ b → r ≤ most_free t r (e ∷ es)) [
    | true ↦ λ is. let first = fixed_first r e es is in omega arith
    | false ↦ λ is. let first = loose_first r e es is in let rest = most-least (r + free_size e) es in omega arith
  ] refl

  -- of the first blocks it is no more
  most-prefix : (r : ℕ) (a b : ZoneMap) → most_free t r a ≤ most_free t r (a ++ b)
  most-prefix r [] b = most-least r b
  most-prefix r (e ∷ es) b = elim (is_fixed t e.kind) as (λ f. is_fixed t e.kind ≡ f → most_free t r (e ∷ es) ≤ most_free t r (e ∷ (es ++ b))) [
    | true ↦ λ is. let one = fixed_first r e es is in let two = fixed_first r e (es ++ b) is in let rest = most-prefix 0 es b in omega arith
    | false ↦ λ is. let one = loose_first r e es is in let two = loose_first r e (es ++ b) is in let rest = most-prefix (r + free_size e) es b in omega arith
  ] refl

  -- a run has no more
  run-most : (r : ℕ) (run after : ZoneMap) → none_fixed t run ≡ true → r + free_bytes run ≤ most_free t r (run ++ after)
  run-most r [] after moves = let least = most-least r after in omega arith
  run-most r (e ∷ es) after moves =
      let both = and_parts (not (is_fixed t e.kind)) (none_fixed t es) moves in
      let first = loose_first r e (es ++ after) (not-true _ both.0) in
      let rest = run-most (r + free_size e) es after both.1 in
      omega arith

  -- nor has any gap
  gap-most : (r : ℕ) (before run after : ZoneMap) → none_fixed t run ≡ true → ends_fixed t before ≡ true → free_bytes run ≤ most_free t r (before ++ (run ++ after))
  gap-most r [] run after moves ends = let most = run-most r run after moves in omega arith
  gap-most r (e ∷ []) run after moves ends = let first = fixed_first r e (run ++ after) ends in let rest = run-most 0 run after moves in omega arith
  gap-most r (e ∷ f ∷ fs) run after moves ends = elim (is_fixed t e.kind) as (λ b. is_fixed t e.kind ≡ b → free_bytes run ≤ most_free t r (e ∷ f ∷ (fs ++ (run ++ after)))) [
    | true ↦ λ is. let first = fixed_first r e (f ∷ (fs ++ (run ++ after))) is in let rest = gap-most 0 (f ∷ fs) run after moves ends in omega arith
    | false ↦ λ is. let first = loose_first r e (f ∷ (fs ++ (run ++ after))) is in let rest = gap-most (r + free_size e) (f ∷ fs) run after moves ends in omega arith
  ] refl

  -- the first of some gaps that end with a fixed block
  first-fixed : (r : ℕ) (c : Entry) (bs rest : ZoneMap) → is_fixed t c.kind ≡ true → r + room (first_gap t ((c ∷ bs) ++ rest)) ≤ most_free t r (c ∷ bs)
  first-fixed r c bs rest is =
      let none : room (first_gap t ((c ∷ bs) ++ rest)) ≡ 0 = ap (λ f. let g = first_gap t (bs ++ rest) in room (cond f (record { before = []; blocks = []; after = c ∷ (bs ++ rest) }) (record g { blocks = c ∷ g.blocks }))) is in
      let first = fixed_first r c bs is in
      omega arith

  first-most : (r : ℕ) (c : Entry) (bs rest : ZoneMap) → ends_fixed t (c ∷ bs) ≡ true → r + room (first_gap t ((c ∷ bs) ++ rest)) ≤ most_free t r (c ∷ bs)
  first-most r c [] rest ends = first-fixed r c [] rest ends
  first-most r c (d ∷ ds) rest ends = elim (is_fixed t c.kind) as (λ b. is_fixed t c.kind ≡ b → r + room (first_gap t ((c ∷ d ∷ ds) ++ rest)) ≤ most_free t r (c ∷ d ∷ ds)) [
    | true ↦ λ is. first-fixed r c (d ∷ ds) rest is
    | false ↦ λ is.
        let all : room (first_gap t ((c ∷ d ∷ ds) ++ rest)) ≡ free_size c + room (first_gap t ((d ∷ ds) ++ rest)) = ap (λ f. let g = first_gap t ((d ∷ ds) ++ rest) in room (cond f (record { before = []; blocks = []; after = c ∷ ((d ∷ ds) ++ rest) }) (record g { blocks = c ∷ g.blocks }))) is in
        let first = loose_first r c (d ∷ ds) is in
        let later = first-most (r + free_size c) d ds rest ends in
        omega arith
  ] refl

  -- none of them has room for k bytes where the most is less
  few-below : (k r : ℕ) (b : Entry) (bs rest : ZoneMap) → ends_fixed t (b ∷ bs) ≡ true → most_free t r (b ∷ bs) < k → FewBelow t k (b ∷ bs) rest
  few-below k r b [] rest ends few = tt
  few-below k r b (c ∷ cs) rest ends few = elim (is_fixed t b.kind) as (λ f. is_fixed t b.kind ≡ f → FewBelow t k (b ∷ c ∷ cs) rest) [
    | true ↦ λ is.
        let first = fixed_first r b (c ∷ cs) is in
        let one = first-most 0 c cs rest ends in
        ((λ _. omega arith), few-below k 0 c cs rest ends (omega arith))
    | false ↦ λ is.
        let first = loose_first r b (c ∷ cs) is in
        ((λ fixed. absurd (cc (sym is ∙ fixed))), few-below k (r + free_size b) c cs rest ends (omega arith))
  ] refl

  -- then the gap after them is the lowest that has
  lowest-begins : (k : ℕ) (before run rest : ZoneMap) → ends_fixed t before ≡ true → none_fixed t run ≡ true → begins_fixed t rest ≡ true → k ≤ free_bytes run → most_free t 0 before < k
      → lowest_gap k (gaps t (before ++ (run ++ rest))) ≡ Some (record { before = before; blocks = run; after = rest })
  lowest-begins k [] run rest ends moves above fits few =
      ap (lowest_gap k) (gaps-first t (run ++ rest)) ∙ ap (λ g. lowest_gap k (g ∷ later_gaps t (run ++ rest))) (first_run-is t run rest moves above)
      ∙ ap (λ c. cond c (Some (record { before = []; blocks = run; after = rest })) (lowest_gap k (later_gaps t (run ++ rest)))) (le-leb k (free_bytes run) fits)
  lowest-begins k (b ∷ bs) run rest ends moves above fits few =
      let low = first-most 0 b bs (run ++ rest) ends in
      ap (lowest_gap k) (gaps-first t ((b ∷ bs) ++ (run ++ rest)))
      ∙ ap (λ c. cond c (Some (first_gap t ((b ∷ bs) ++ (run ++ rest)))) (lowest_gap k (later_gaps t ((b ∷ bs) ++ (run ++ rest)))))
      (false_from_ne_true _ (λ h. let le = leb-true k (room (first_gap t ((b ∷ bs) ++ (run ++ rest)))) h in omega arith))
      ∙ later-found t k b bs run rest ends moves above fits (few-below k 0 b bs (run ++ rest) ends few)

  -- one more block after a run adds no more than its free bytes to the run's
  open-most : (r : ℕ) (run : ZoneMap) (here : Entry) → none_fixed t run ≡ true → most_free t r (run ++ here ∷ []) ≤ r + free_bytes run + free_size here
  open-most r [] here moves = by_fixed (is_fixed t here.kind) refl
    where
      by_fixed : (b : Bool) → is_fixed t here.kind ≡ b → most_free t r (here ∷ []) ≤ r + 0 + free_size here
      by_fixed true is = let first = fixed_first r here [] is in omega arith
      by_fixed false is = let first = loose_first r here [] is in omega arith
  open-most r (e ∷ es) here moves =
      let both = and_parts (not (is_fixed t e.kind)) (none_fixed t es) moves in
      let first = loose_first r e (es ++ here ∷ []) (not-true _ both.0) in
      let rest = open-most (r + free_size e) es here both.1 in
      omega arith

  closed-most : (r : ℕ) (b : Entry) (bs run : ZoneMap) (here : Entry) → ends_fixed t (b ∷ bs) ≡ true → none_fixed t run ≡ true
      → most_free t r (((b ∷ bs) ++ run) ++ here ∷ []) ≤ max (most_free t r ((b ∷ bs) ++ run)) (free_bytes run + free_size here)
  closed-most r b [] run here ends moves =
      let one = fixed_first r b (run ++ here ∷ []) ends in
      let two = fixed_first r b run ends in
      let added = open-most 0 run here moves in
      omega arith
  closed-most r b (c ∷ cs) run here ends moves = elim (is_fixed t b.kind) as (λ f. is_fixed t b.kind ≡ f → most_free t r (b ∷ (((c ∷ cs) ++ run) ++ here ∷ [])) ≤ max (most_free t r (b ∷ ((c ∷ cs) ++ run))) (free_bytes run + free_size here)) [
    | true ↦ λ is.
        let one = fixed_first r b (((c ∷ cs) ++ run) ++ here ∷ []) is in
        let two = fixed_first r b ((c ∷ cs) ++ run) is in
        let rest = closed-most 0 c cs run here ends moves in
        omega arith
    | false ↦ λ is.
        let one = loose_first r b (((c ∷ cs) ++ run) ++ here ∷ []) is in
        let two = loose_first r b ((c ∷ cs) ++ run) is in
        let rest = closed-most (r + free_size b) c cs run here ends moves in
        omega arith
  ] refl

  -- so the run has room, where with the block some gap has it for the first time
  last-room : (k : ℕ) (before run : ZoneMap) (here : Entry) → ends_fixed t before ≡ true → none_fixed t run ≡ true → most_free t 0 (before ++ run) < k → k ≤ most_free t 0 ((before ++ run) ++ here ∷ []) → k ≤ free_bytes run + free_size here
  last-room k [] run here ends moves few enough = let added = open-most 0 run here moves in omega arith
  last-room k (b ∷ bs) run here ends moves few enough = let closed = closed-most 0 b bs run here ends moves in omega arith

-- no gap has more than the gap with most
pub gap-within : (z : ZoneState) (start : ℕ) (rest : RestAt z start) → ends_fixed z.heap.table rest.before ≡ true → free_bytes rest.blocks ≤ largest_room z.heap.table z.heap.map
gap-within z start rest below =
    let most = gap-most z.heap.table 0 rest.before rest.blocks rest.after rest.moves below in
    let whole : most_free z.heap.table 0 z.heap.map ≡ most_free z.heap.table 0 (rest.before ++ (rest.blocks ++ rest.after)) = ap (most_free z.heap.table 0) rest.map in
    let all = most-gaps z.heap.table (λ (w : Weight). w.free) free_bytes refl (λ e es. refl) z.heap.map in
    omega arith

module _ (z : ZoneState) (k : ℕ) (some : 0 < k) (at start : ℕ) (r : Reaches z k at) where
  abbrev t : HandleTable
  t = z.heap.table

  abbrev last : LastRun t (r.entry).before
  last = last_run t (r.entry).before

  abbrev first : FirstRun t ((r.entry).here ∷ (r.entry).after)
  first = first_run t ((r.entry).here ∷ (r.entry).after)

  abbrev run : ZoneMap
  run = last.blocks ++ first.blocks

  parts : z.heap.map ≡ last.before ++ (run ++ first.after)
  parts =
      (r.entry).map ∙ ap (λ m. m ++ ((r.entry).here ∷ (r.entry).after)) last.parts ∙ ap (λ m. (last.before ++ last.blocks) ++ m) first.parts
      ∙ append_assoc last.before last.blocks (first.blocks ++ first.after) ∙ ap (λ m. last.before ++ m) (sym (append_assoc last.blocks first.blocks first.after))

  moves : none_fixed t run ≡ true
  moves = list_all-append (λ (e : Entry). not (is_fixed t e.kind)) last.blocks first.blocks ∙ and_from _ _ last.moves first.moves

  has_room : k ≤ free_bytes run
  has_room =
      let few = r.few in
      let enough = r.enough in
      let mine = last-room t k last.before last.blocks (r.entry).here last.below last.moves (subst (λ m. most_free t 0 m < k) last.parts few) (subst (λ m. k ≤ most_free t 0 (m ++ (r.entry).here ∷ [])) last.parts enough) in
      let here = run-free t (r.entry).here (r.entry).after in
      let both = free_bytes-append last.blocks first.blocks in
      omega arith

  lowest_is : lowest_gap k (gaps t z.heap.map) ≡ Some (record { before = last.before; blocks = run; after = first.after })
  lowest_is =
      let few = r.few in
      let prefix = most-prefix t 0 last.before last.blocks in
      let same = ap (most_free t 0) last.parts in
      ap (λ m. lowest_gap k (gaps t m)) parts ∙ lowest-begins t k last.before run first.after last.below moves first.above has_room (omega arith)

  -- the gap begins where its first blocks do
  start_of : ((front : FrontAt z at) → start + total_size front.blocks ≡ at) → start ≡ address_after z.shape last.before
  start_of begins =
      let there = begins (front_split z at (split_entry z at r.entry)) in
      let place = (r.entry).place in
      let all = ap total_size last.parts ∙ total_size-append last.before last.blocks in
      omega arith

  first_free : start ≡ address_after z.shape last.before → (free : ℕ) → FirstFree (run ++ first.after) start free → IsLowestGap z k free
  first_free start_is free f =
      let low : total_size f.passed < total_size run = elim (nat_lt (total_size f.passed) (total_size run)) as (λ b. nat_lt (total_size f.passed) (total_size run) ≡ b → total_size f.passed < total_size run) [
        | true ↦ λ is. grind (arith, nat_tests)
        | false ↦ λ is.
            let high : total_size run ≤ total_size f.passed = grind (arith, nat_tests) in
            let none = none-among run first.after f.passed f.size f.after f.splits f.used high in
            let enough = has_room in
            absurd (omega (arith, none, enough, some))
      ] refl in
      let among = free-among run first.after f.passed f.size f.after f.splits low in
      record {
        gap = record { before = last.before; blocks = run; after = first.after };
        lowest = lowest_is;
        first = record {
          used = f.passed;
          size = f.size;
          rest = among.rest;
          blocks = among.parts;
          none = f.used;
          place = (let there = f.place in let all = total_size-append last.before f.passed in omega arith);
        };
      }

  none_left : none_free (run ++ first.after) ≡ true → lowest_gap k (gaps t z.heap.map) ≡ None
  none_left used =
      let both = free_bytes-append run first.after in
      let none = free_bytes-all_used (run ++ first.after) used in
      let enough = has_room in
      absurd (omega (arith, both, none, enough, some))

  module _ (begins : (front : FrontAt z at) → start + total_size front.blocks ≡ at) where
    pub split_start : SplitAt z start
    split_start = record { before = last.before; after = run ++ first.after; map = parts; place = start_of begins }

    pub lowest-found : (o : Option ℕ) → IfSome o (λ free. (split : SplitAt z start) → FirstFree split.after start free) → IfNone o ((split : SplitAt z start) → IsTrue (none_free split.after))
        → MatchOption o (lowest_gap k (gaps t z.heap.map) ≡ None) (λ free. IsLowestGap z k free)
    unfolding split_start
    lowest-found None next none = none_left (none split_start)
    lowest-found (Some free) next none = first_free (start_of begins) free (next split_start)

  -- where none of the blocks before it is free, the block is the first free one of that gap
  pub first-found : none_free (r.entry).before ≡ true → (size : ℕ) → (r.entry).here ≡ block Free size → start ≡ address_after z.shape last.before → IsLowestGap z k at
  first-found used size is start_is =
      let both = and_parts (none_free last.before) (none_free last.blocks) (sym (list_all-append (λ (e : Entry). not (is_free e.kind)) last.before last.blocks) ∙ ap none_free (sym last.parts) ∙ used) in
      first_free start_is at (record {
        passed = last.blocks;
        size = size;
        after = (r.entry).after;
        splits = append_assoc last.blocks first.blocks first.after ∙ ap (λ m. last.blocks ++ m) (sym first.parts ∙ ap (λ e. e ∷ (r.entry).after) is);
        used = both.1;
        place = (let place = (r.entry).place in let all = ap total_size last.parts ∙ total_size-append last.before last.blocks in omega (arith, place, all, start_is));
      })

-- of blocks none of which is free no gap has any byte, and with one more it has that block's
module _ (t : HandleTable) where
  idle-most : (m : ZoneMap) → none_free m ≡ true → most_free t 0 m ≡ 0
  idle-most [] used = refl
  idle-most (e ∷ es) used =
      let both = and_parts (not (is_free e.kind)) (none_free es) used in
      let none : free_size e ≡ 0 = ap (λ b. cond b e.size 0) (not-true _ both.0) in
      let rest = idle-most es both.1 in
      elim (is_fixed t e.kind) as (λ b. is_fixed t e.kind ≡ b → most_free t 0 (e ∷ es) ≡ 0) [
        | true ↦ λ is. let first = fixed_first t 0 e es is in omega arith
        | false ↦ λ is. let first = loose_first t 0 e es is in let same : 0 + free_size e ≡ 0 = omega arith in first ∙ ap (λ n. most_free t n es) same ∙ rest
      ] refl

  here-most : (r : ℕ) (m : ZoneMap) (size : ℕ) → size ≤ most_free t r (m ++ block Free size ∷ [])
  here-most r [] size = omega arith
  here-most r (e ∷ es) size = elim (is_fixed t e.kind) as (λ b. is_fixed t e.kind ≡ b → size ≤ most_free t r (e ∷ (es ++ block Free size ∷ []))) [
    | true ↦ λ is. let first = fixed_first t r e (es ++ block Free size ∷ []) is in let rest = here-most 0 es size in omega arith
    | false ↦ λ is. let first = loose_first t r e (es ++ block Free size ∷ []) is in let rest = here-most (r + free_size e) es size in omega arith
  ] refl

-- the zone's lowest free block, where it alone has room: its gap is the lowest that has
pub first-large : (z : ZoneState) (k : ℕ) → 0 < k → (from at : ℕ) → from ≡ address_after z.shape [] → (f : FirstFree z.heap.map from at) → k ≤ f.size → IsLowestGap z k at
first-large z k some from at begins f large =
    let t = z.heap.table in
    let few = idle-most t f.passed f.used in
    let enough = here-most t 0 f.passed f.size in
    let r : Reaches z k at = record {
      entry = record { before = f.passed; here = block Free f.size; after = f.after; map = f.splits; place = (let place = f.place in omega arith) };
      few = omega arith;
      enough = omega arith;
    } in
    first-found z k some at (address_after z.shape (last_run t f.passed).before) r f.used f.size refl refl

-- Among which blocks a request may purge, read from one end of the map to the other: free blocks don't matter, and
-- fewer movable blocks leave fewer.
use Rattle.std.proofs.Common.{arith, ◌≡◌, ℕ, Bool, true, false, not, cond, List, [], ◌∷◌, ◌++◌, refl, ap, sym, ◌∙◌, append-nil, Some, Option}
use Rattle.std.specs.Prelude.{◌&&◌, ◌||◌, map, find, filter, filter_map, ◌-◌, ◌+◌}
use Rattle.std.specs.Option.{option_map_or}
use Rattle.std.specs.List.{All, list_all}
use Rattle.std.proofs.lemmas.Bool.{and_from, and_parts, or_right, true≢false}
use Rattle.std.proofs.lemmas.List.Elements.{All-head, All-tail, filter-append}
use Rattle.mac_base.specs.declared.block.Entry.{Entry}
use Rattle.mac_base.specs.declared.block.Kind.TheVariants.{Free}
use Rattle.mac_base.specs.HeadKind.{Shape, zone_header}
use Rattle.mac_base.specs.ZoneMap.{ZoneMap, block, is_free, is_named, handle_of, free_block, joined, joined_to, released, total_size, at_limit}
use Rattle.mac_base.specs.HandleTable.{HandleTable, is_purgeable}
use Rattle.mac_base.specs.Gap.{Gap, gaps, further, is_fixed, gap_after, ends_with}
use Rattle.mac_base.specs.Arrangement.{used_blocks}
use Rattle.mac_base.specs.declared.request.Request.{Request}
use Rattle.mac_base.specs.declared.request.Request.TheVariants.{NewBlock, NewEmpty, NewPointer, NewMaster, Reserve, Resize, Replace}
use Rattle.mac_base.specs.Request.{stays, blocks_to_purge, candidates, is_among}
use Rattle.zone_laws.proofs.GapParts.{IsLater, first_gap, later_gaps, gaps-first, first_gap-before, later_gaps-IsLater, has_blocks}
use Rattle.zone_laws.proofs.JoinedBlocks.{join_cases}
use Rattle.zone_laws.proofs.ReleasedBlocks.{marked}
use Rattle.zone_laws.proofs.Arranging.{used_blocks-free_block}

-- the blocks up to the first fixed one
abbrev pub run : HandleTable → ZoneMap → ZoneMap
run t [] = []
run t (e ∷ es) = cond (is_fixed t e.kind) [] (e ∷ run t es)

-- those after the fixed block of x, up to the next fixed one
abbrev pub run_after : HandleTable → ℕ → ZoneMap → ZoneMap
run_after t x [] = []
run_after t x (e ∷ es) = cond (is_fixed t e.kind) (cond (is_named x e.kind) (run t es) (run_after t x es)) (run_after t x es)

-- the blocks of a gap, and none without one
abbrev blocks_of : Option Gap → ZoneMap
blocks_of g = option_map_or (λ (g : Gap). g.blocks) g []

run-first : (t : HandleTable) (m : ZoneMap) → (first_gap t m).blocks ≡ run t m
run-first t [] = refl
run-first t (e ∷ es) = elim (is_fixed t e.kind) as (λ c. (let g = first_gap t es in cond c (record { before = []; blocks = []; after = e ∷ es }) (record g { blocks = e ∷ g.blocks })).blocks ≡ cond c [] (e ∷ run t es)) [
  | true ↦ refl
  | false ↦ ap (λ m. e ∷ m) (run-first t es)
]

ends_with-further : (x : ℕ) (e : Entry) (b : ZoneMap) → has_blocks b ≡ true → ends_with x (e ∷ b) ≡ ends_with x b
ends_with-further x e [] h = absurd (cc h)
ends_with-further x e (f ∷ b) h = refl

-- gaps with something before them are found as before where one block more lies below
found-further : (t : HandleTable) (m : ZoneMap) (x : ℕ) (e : Entry) (gs : List Gap) → All (IsLater t m) gs → blocks_of (find (λ g. ends_with x g.before) (map (further e) gs)) ≡ blocks_of (find (λ g. ends_with x g.before) gs)
found-further t m x e [] each = refl
found-further t m x e (g ∷ gs) each = grind (arith, found-further t m x e gs (All-tail (IsLater t m) g gs each), All-head, All-tail, IsLater, ends_with-further)

found-later : (t : HandleTable) (x : ℕ) (m : ZoneMap) → blocks_of (find (λ g. ends_with x g.before) (later_gaps t m)) ≡ run_after t x m
found-later t x [] = refl
found-later t x (e ∷ es) =
    let rest = found-further t es x e (later_gaps t es) (later_gaps-IsLater t es) ∙ found-later t x es in
    elim (is_fixed t e.kind) as (λ c. blocks_of (find (λ g. ends_with x g.before) (map (further e) (cond c (first_gap t es ∷ later_gaps t es) (later_gaps t es)))) ≡ cond c (cond (is_named x e.kind) (run t es) (run_after t x es)) (run_after t x es)) [
      | true ↦ ap (λ before. blocks_of (cond (ends_with x (e ∷ before)) (Some (further e (first_gap t es))) (find (λ g. ends_with x g.before) (map (further e) (later_gaps t es))))) (first_gap-before t es)
          ∙ elim (is_named x e.kind) as (λ c. blocks_of (cond c (Some (further e (first_gap t es))) (find (λ g. ends_with x g.before) (map (further e) (later_gaps t es)))) ≡ cond c (run t es) (run_after t x es)) [
            | true ↦ run-first t es
            | false ↦ rest
          ]
      | false ↦ rest
    ]

-- the blocks of the gap right after x
pub gap_after-run : (t : HandleTable) (x : ℕ) (m : ZoneMap) → option_map_or (λ (g : Gap). g.blocks) (gap_after x (gaps t m)) [] ≡ run_after t x m
gap_after-run t x m =
    ap (λ gs. blocks_of (gap_after x gs)) (gaps-first t m)
    ∙ ap (λ before. blocks_of (cond (ends_with x before) (Some (first_gap t m)) (find (λ g. ends_with x g.before) (later_gaps t m)))) (first_gap-before t m)
    ∙ found-later t x m

-- so the blocks among which a request may purge are these
abbrev pub purge_blocks : HandleTable → Request → ZoneMap → ZoneMap
purge_blocks t (Resize x n) m = cond (stays t x) (run_after t x m) m
purge_blocks t _ m = m

-- those among which a request may purge
pub blocks_to_purge-is : (t : HandleTable) (r : Request) (m : ZoneMap) → blocks_to_purge t r m ≡ purge_blocks t r m
blocks_to_purge-is t (NewBlock n) m = refl
blocks_to_purge-is t NewEmpty m = refl
blocks_to_purge-is t (NewPointer n) m = refl
blocks_to_purge-is t NewMaster m = refl
blocks_to_purge-is t (Reserve n) m = refl
blocks_to_purge-is t (Resize x n) m = ap (λ b. cond (stays t x) b m) (gap_after-run t x m)
blocks_to_purge-is t (Replace h n) m = refl

-- ---- some blocks left out, but no fixed one

-- whether each fixed block passes a test
abbrev pub keeps_fixed : HandleTable → (Entry → Bool) → ZoneMap → Bool
keeps_fixed t q m = list_all (λ (e : Entry). not (is_fixed t e.kind) || q e) m

run-filter : (t : HandleTable) (q : Entry → Bool) (m : ZoneMap) → keeps_fixed t q m ≡ true → run t (filter q m) ≡ filter q (run t m)
run-filter t q [] h = refl
run-filter t q (e ∷ es) h = let parts = and_parts (not (is_fixed t e.kind) || q e) (keeps_fixed t q es) h in by_tests (q e) (is_fixed t e.kind) refl refl parts.0 (run-filter t q es parts.1)
  where
    by_tests : (kept fixed : Bool) → q e ≡ kept → is_fixed t e.kind ≡ fixed → (not (is_fixed t e.kind) || q e) ≡ true → run t (filter q es) ≡ filter q (run t es) → run t (cond kept (e ∷ filter q es) (filter q es)) ≡ filter q (cond fixed [] (e ∷ run t es))
    by_tests true true kept fixed h rest = ap (λ c. cond c [] (e ∷ run t (filter q es))) fixed
    by_tests true false kept moves h rest = ap (λ c. cond c [] (e ∷ run t (filter q es))) moves ∙ ap (λ m. e ∷ m) rest ∙ sym (ap (λ c. cond c (e ∷ filter q (run t es)) (filter q (run t es))) kept)
    by_tests false true left_out fixed h rest = absurd (true≢false (sym h ∙ ap (λ c. not c || q e) fixed ∙ left_out))
    by_tests false false left_out moves h rest = rest ∙ sym (ap (λ c. cond c (e ∷ filter q (run t es)) (filter q (run t es))) left_out)

run_after-filter : (t : HandleTable) (q : Entry → Bool) (x : ℕ) (m : ZoneMap) → keeps_fixed t q m ≡ true → run_after t x (filter q m) ≡ filter q (run_after t x m)
run_after-filter t q x [] h = refl
run_after-filter t q x (e ∷ es) h =
    let parts = and_parts (not (is_fixed t e.kind) || q e) (keeps_fixed t q es) h in
    by_tests (q e) (is_fixed t e.kind) refl refl parts.0 (both (is_named x e.kind) (run-filter t q es parts.1) (run_after-filter t q x es parts.1)) (run_after-filter t q x es parts.1)
  where
    both : (named : Bool) → run t (filter q es) ≡ filter q (run t es) → run_after t x (filter q es) ≡ filter q (run_after t x es) → cond named (run t (filter q es)) (run_after t x (filter q es)) ≡ filter q (cond named (run t es) (run_after t x es))
    both true first rest = first
    both false first rest = rest

    by_tests : (kept fixed : Bool) → q e ≡ kept → is_fixed t e.kind ≡ fixed → (not (is_fixed t e.kind) || q e) ≡ true
        → cond (is_named x e.kind) (run t (filter q es)) (run_after t x (filter q es)) ≡ filter q (cond (is_named x e.kind) (run t es) (run_after t x es)) → run_after t x (filter q es) ≡ filter q (run_after t x es)
        → run_after t x (cond kept (e ∷ filter q es) (filter q es)) ≡ filter q (cond fixed (cond (is_named x e.kind) (run t es) (run_after t x es)) (run_after t x es))
    by_tests true true kept fixed h here rest = ap (λ c. cond c (cond (is_named x e.kind) (run t (filter q es)) (run_after t x (filter q es))) (run_after t x (filter q es))) fixed ∙ here
    by_tests true false kept moves h here rest = ap (λ c. cond c (cond (is_named x e.kind) (run t (filter q es)) (run_after t x (filter q es))) (run_after t x (filter q es))) moves ∙ rest
    by_tests false true left_out fixed h here rest = absurd (true≢false (sym h ∙ ap (λ c. not c || q e) fixed ∙ left_out))
    by_tests false false left_out moves h here rest = rest

-- of those among which a request may purge, the same are left out
pub purge_blocks-filter : (t : HandleTable) (q : Entry → Bool) (r : Request) (m : ZoneMap) → keeps_fixed t q m ≡ true → purge_blocks t r (filter q m) ≡ filter q (purge_blocks t r m)
purge_blocks-filter t q (NewBlock n) m h = refl
purge_blocks-filter t q NewEmpty m h = refl
purge_blocks-filter t q (NewPointer n) m h = refl
purge_blocks-filter t q NewMaster m h = refl
purge_blocks-filter t q (Reserve n) m h = refl
purge_blocks-filter t q (Resize x n) m h = elim (stays t x) as (λ c. cond c (run_after t x (filter q m)) (filter q m) ≡ filter q (cond c (run_after t x m) m)) [ true ↦ run_after-filter t q x m h | false ↦ refl ]
purge_blocks-filter t q (Replace g n) m h = refl

-- ---- blocks in use

-- fixed blocks are in use
used_kept : (t : HandleTable) (m : ZoneMap) → keeps_fixed t (λ (e : Entry). not (is_free e.kind)) m ≡ true
used_kept t [] = refl
used_kept t (e ∷ es) = grind (arith, used_kept t es, and_from, or_right)

-- the handles of blocks are those of the blocks in use
handles-used : (m : ZoneMap) → filter_map (λ (e : Entry). handle_of e.kind) (used_blocks m) ≡ filter_map (λ (e : Entry). handle_of e.kind) m
handles-used [] = refl
handles-used (e ∷ es) = grind (arith, handles-used es)

-- the handles of the blocks among which a request may purge
abbrev pub purge_handles : HandleTable → Request → ZoneMap → List ℕ
purge_handles t r m = filter_map (λ (e : Entry). handle_of e.kind) (blocks_to_purge t r m)

-- they are read off the blocks in use
pub purge_handles-used : (t : HandleTable) (r : Request) (m : ZoneMap) → purge_handles t r m ≡ filter_map (λ (e : Entry). handle_of e.kind) (purge_blocks t r (used_blocks m))
purge_handles-used t r m =
    ap (filter_map (λ (e : Entry). handle_of e.kind)) (blocks_to_purge-is t r m) ∙ sym (handles-used (purge_blocks t r m))
    ∙ ap (filter_map (λ (e : Entry). handle_of e.kind)) (sym (purge_blocks-filter t (λ (e : Entry). not (is_free e.kind)) r m (used_kept t m)))

used-joined_to : (e : Entry) (m : ZoneMap) → used_blocks (joined_to e m) ≡ used_blocks (e ∷ m)
used-joined_to e m = join_cases (λ j. used_blocks j ≡ used_blocks (e ∷ m)) e m
    (λ f es was free also_free. sym (ap (λ m. used_blocks (e ∷ m)) was ∙ ap (λ k. cond (not (is_free k)) (e ∷ used_blocks (f ∷ es)) (used_blocks (f ∷ es))) free ∙ ap (λ k. cond (not (is_free k)) (f ∷ used_blocks es) (used_blocks es)) also_free)) refl

-- joining free blocks leaves the blocks in use
pub used-joined : (m : ZoneMap) → used_blocks (joined m) ≡ used_blocks m
used-joined [] = refl
used-joined (e ∷ es) = used-joined_to e (joined es) ∙ ap (λ m. cond (not (is_free e.kind)) (e ∷ m) m) (used-joined es)

-- and so does growth
pub used-at_limit : (s : Shape) (m : ZoneMap) → used_blocks (at_limit s m) ≡ used_blocks m
used-at_limit s m =
    let more = s.limit - (zone_header + total_size m) in
    used-joined (m ++ free_block more) ∙ filter-append (λ (e : Entry). not (is_free e.kind)) m (free_block more) ∙ ap (λ b. used_blocks m ++ b) (used_blocks-free_block more) ∙ append-nil (used_blocks m)

-- so growth leaves the handles that may be purged
pub candidates-at_limit : (s : Shape) (t : HandleTable) (protected : List ℕ) (r : Request) (m : ZoneMap) → candidates t protected r (at_limit s m) ≡ candidates t protected r m
candidates-at_limit s t protected r m =
    ap (filter (λ h. is_purgeable t h && not (is_among protected h))) (purge_handles-used t r (at_limit s m) ∙ ap (λ b. filter_map (λ (e : Entry). handle_of e.kind) (purge_blocks t r b)) (used-at_limit s m) ∙ sym (purge_handles-used t r m))

-- what is released is left out of the blocks in use
pub used-released : (x : ℕ) (m : ZoneMap) → used_blocks (released x m) ≡ filter (λ (e : Entry). not (is_named x e.kind)) (used_blocks m)
used-released x m = used-joined (marked x m) ∙ marks m
  where
    marks : (m : ZoneMap) → used_blocks (marked x m) ≡ filter (λ (e : Entry). not (is_named x e.kind)) (used_blocks m)
    marks [] = refl
    marks (e ∷ es) = by_tests (is_named x e.kind) (is_free e.kind) refl refl (marks es)
      where
        by_tests : (named free : Bool) → is_named x e.kind ≡ named → is_free e.kind ≡ free → used_blocks (marked x es) ≡ filter (λ (e : Entry). not (is_named x e.kind)) (used_blocks es)
            → used_blocks (cond named (block Free e.size) e ∷ marked x es) ≡ filter (λ (e : Entry). not (is_named x e.kind)) (cond (not free) (e ∷ used_blocks es) (used_blocks es))
        by_tests true true named free rest = rest
        by_tests true false named used rest = rest ∙ sym (ap (λ c. cond (not c) (e ∷ filter (λ (e : Entry). not (is_named x e.kind)) (used_blocks es)) (filter (λ (e : Entry). not (is_named x e.kind)) (used_blocks es))) named)
        by_tests false true other free rest = ap (λ c. cond (not c) (e ∷ used_blocks (marked x es)) (used_blocks (marked x es))) free ∙ rest
        by_tests false false other used rest = ap (λ c. cond (not c) (e ∷ used_blocks (marked x es)) (used_blocks (marked x es))) used ∙ ap (λ m. e ∷ m) rest
            ∙ sym (ap (λ c. cond (not c) (e ∷ filter (λ (e : Entry). not (is_named x e.kind)) (used_blocks es)) (filter (λ (e : Entry). not (is_named x e.kind)) (used_blocks es))) other)

-- A zone of which no block can be moved down is arranged.
use Rattle.std.proofs.Common.{◌≡◌, ◌+◌, ◌<◌, Bool, true, false, not, cond, [], ◌∷◌, ◌++◌, refl, ap, sym, ◌∙◌, subst, append_assoc, append-nil, arith}
use Rattle.std.specs.Prelude.{nat_lt, ◌==◌, ◌||◌, ◌&&◌}
use Rattle.std.proofs.lemmas.Bool.{and_parts, false≢true}
use Rattle.std.proofs.lemmas.Bool.Decides.{nat_tests}
use Rattle.mac_base.specs.declared.block.Entry.{Entry}
use Rattle.mac_base.specs.declared.block.Kind.{Kind}
use Rattle.mac_base.specs.declared.block.Kind.TheVariants.{Free, Master, Ptr, Rel}
use Rattle.mac_base.specs.Arrangement.{down, used_blocks}
use Rattle.mac_base.specs.Compaction.{all_down, all_down_after}
use Rattle.mac_base.specs.Gap.{is_fixed}
use Rattle.mac_base.specs.HandleTable.{HandleTable}
use Rattle.mac_base.specs.HeadKind.{Shape}
use Rattle.mac_base.specs.Suits.{is_block_size}
use Rattle.mac_base.specs.ZoneMap.{ZoneMap, block, free_block, free_bytes, free_size, is_free}
use Rattle.zone_laws.proofs.GapApart.{sizes_possible}
use Rattle.zone_laws.proofs.Arranging.{free_bytes-all_used, used_blocks-same, free_is}
use Rattle.linked_zone.specs.Places.{none_free}
use Rattle.zone_index.specs.Weights.{in_order, weights}
use Rattle.zone_index.proofs.SomeBytes.{all_both, some_bytes}
use Rattle.zone_heap.proofs.Pressing.{free-push_free, used-push_free}

-- blocks in use, then a free one or none
abbrev Ends : Bool → ZoneMap → Type 0
Ends false run = none_free run ≡ true
Ends true run = (used : ZoneMap) × (e : Entry) × (run ≡ used ++ e ∷ []) × (none_free used ≡ true) × (is_free e.kind ≡ true) × (0 < e.size)

-- a free block of so many bytes is the block
free_block-of : (e : Entry) → is_free e.kind ≡ true → 0 < e.size → free_block e.size ≡ e ∷ []
free_block-of e free some =
    let large : (e.size == 0) ≡ false = grind (arith, nat_tests) in
    ap (λ c. cond c [] (block Free e.size ∷ [])) large ∙ ap (λ k. block k e.size ∷ []) (sym (free_is e.kind free))

-- such blocks are arranged down
down-ends : (free : Bool) (run : ZoneMap) → Ends free run → down run ≡ run
down-ends false run none = ap (λ n. used_blocks run ++ free_block n) (free_bytes-all_used run none) ∙ ap (λ u. u ++ []) (used_blocks-same run none) ∙ append-nil run
down-ends true run ends =
    let used = ends.0 in let e = ends.1 in let none = ends.3 in
    let all = free_bytes-all_used used none in
    let bytes : free_bytes (used ++ e ∷ []) ≡ e.size = free-push_free used e ends.4 ∙ (let same : free_bytes used + e.size ≡ e.size = omega arith in same) in
    ap down ends.2 ∙ ap (λ n. used_blocks (used ++ e ∷ []) ++ free_block n) bytes
    ∙ ap (λ u. u ++ free_block e.size) (used-push_free used e ends.4 ∙ used_blocks-same used none)
    ∙ ap (λ m. used ++ m) (free_block-of e ends.4 ends.5) ∙ sym ends.2

-- a fixed block isn't free
fixed_used : (t : HandleTable) (e : Entry) → is_fixed t e.kind ≡ true → nat_lt 0 (free_size e) ≡ false
fixed_used t e fixed = by_kind e.kind fixed
  where
    by_kind : (k : Kind) → is_fixed t k ≡ true → nat_lt 0 (cond (is_free k) e.size 0) ≡ false
    by_kind Free is = absurd (cc is)
    by_kind Master is = refl
    by_kind (Ptr p) is = refl
    by_kind (Rel h) is = refl

-- one block more
pushed : (run : ZoneMap) (e : Entry) → none_free run ≡ true → 0 < e.size → Ends (nat_lt 0 (free_size e)) (run ++ e ∷ [])
pushed run e none some = by_free (is_free e.kind) refl
  where
    by_free : (free : Bool) → is_free e.kind ≡ free → Ends (nat_lt 0 (cond (is_free e.kind) e.size 0)) (run ++ e ∷ [])
    by_free true is =
        let large : nat_lt 0 e.size ≡ true = grind (arith, nat_tests) in
        subst (λ b. Ends b (run ++ e ∷ [])) (sym (ap (λ c. nat_lt 0 (cond c e.size 0)) is ∙ large)) (run, e, refl, none, is, some)
    by_free false is =
        subst (λ b. Ends b (run ++ e ∷ [])) (sym (ap (λ c. nat_lt 0 (cond c e.size 0)) is))
        (all_both (λ (e : Entry). not (is_free e.kind)) run (e ∷ []) none (ap (λ c. not c && true) is))

-- what follows such blocks in order is arranged with them
order-kept : (t : HandleTable) (s : Shape) (free : Bool) (run es : ZoneMap) → Ends free run → sizes_possible s es ≡ true → in_order free (weights t es) ≡ true → all_down_after t run es ≡ run ++ es
order-kept t s free run [] ends sizes order = down-ends free run ends ∙ sym (append-nil run)
order-kept t s free run (e ∷ es) ends sizes order =
    let size = and_parts (is_block_size s e.size) (sizes_possible s es) sizes in
    let parts = and_parts (not free || is_fixed t e.kind) (in_order (nat_lt 0 (free_size e)) (weights t es)) order in
    by_fixed free ends (is_fixed t e.kind) refl parts.0 parts.1 (some_bytes s e.size size.0) (λ f r en o. order-kept t s f r es en size.1 o)
  where
    by_fixed : (free : Bool) → Ends free run → (fixed : Bool) → is_fixed t e.kind ≡ fixed → (not free || is_fixed t e.kind) ≡ true → in_order (nat_lt 0 (free_size e)) (weights t es) ≡ true → 0 < e.size
        → ((f : Bool) (r : ZoneMap) → Ends f r → in_order f (weights t es) ≡ true → all_down_after t r es ≡ r ++ es) → all_down_after t run (e ∷ es) ≡ run ++ e ∷ es
    by_fixed free ends true is stands order some next =
        ap (λ c. cond c (down run ++ e ∷ all_down_after t [] es) (all_down_after t (run ++ e ∷ []) es)) is
        ∙ ap (λ d. d ++ e ∷ all_down_after t [] es) (down-ends free run ends)
        ∙ ap (λ m. run ++ e ∷ m) (next false [] refl (subst (λ b. in_order b (weights t es) ≡ true) (fixed_used t e is) order))
    by_fixed true ends false is stands order some next = absurd (false≢true (sym is ∙ stands))
    by_fixed false ends false is stands order some next =
        ap (λ c. cond c (down run ++ e ∷ all_down_after t [] es) (all_down_after t (run ++ e ∷ []) es)) is
        ∙ next (nat_lt 0 (free_size e)) (run ++ e ∷ []) (pushed run e ends some) order ∙ append_assoc run (e ∷ []) es

-- a zone in order is as it is once all gaps are arranged down
pub order-all_down : (t : HandleTable) (s : Shape) (m : ZoneMap) → sizes_possible s m ≡ true → in_order false (weights t m) ≡ true → all_down t m ≡ m
order-all_down t s m sizes order = order-kept t s false [] m refl sizes order

-- Where a gap with room, or with a block, is found.
use Rattle.std.proofs.Common.{◌≡◌, ℕ, Bool, true, false, not, cond, List, [], ◌∷◌, ◌++◌, refl, ap, sym, ◌∙◌, inl, inr, append_assoc, arith, Some}
use Rattle.std.specs.Prelude.{◌||◌, ◌⊎◌, nat_le, map, find, is_some}
use Rattle.std.specs.List.{list_any}
use Rattle.std.proofs.lemmas.Bool.{and_parts, or_left, or_right, or_cases, leb-true, le-leb, not-true, true≢false}
use Rattle.mac_base.specs.declared.block.Entry.{Entry}
use Rattle.mac_base.specs.ZoneMap.{ZoneMap, is_free, is_named, has_free, free_bytes}
use Rattle.mac_base.specs.HandleTable.{HandleTable}
use Rattle.mac_base.specs.Gap.{Gap, gaps, further, is_fixed, room, gap_after, ends_with, some_gap_has}
use Rattle.zone_laws.proofs.GapParts.{all_move, starts_fixed, ends_fixed, IsGap, first_gap, later_gaps, gaps-first, first_gap-before, first_gap-IsGap}
use Rattle.zone_laws.proofs.Arranging.{free_is}

-- one is found where one passes
pub is_some-find : (test : Gap → Bool) (gs : List Gap) → is_some (find test gs) ≡ list_any test gs
is_some-find test [] = refl
is_some-find test (g ∷ gs) = elim (test g) as (λ c. is_some (cond c (Some g) (find test gs)) ≡ (c || list_any test gs)) [ true ↦ refl | false ↦ is_some-find test gs ]

-- a test that a further block leaves
pub list_any-further : (test : Gap → Bool) (e : Entry) (gs : List Gap) → ((g : Gap) → test g ≡ true → test (further e g) ≡ true) → list_any test gs ≡ true → list_any test (map (further e) gs) ≡ true
list_any-further test e [] keeps h = h
list_any-further test e (g ∷ gs) keeps h = grind (arith, list_any-further test e gs keeps, or_cases, or_left, or_right)

-- the gaps of a map, by the lowest and those above it
pub list_any-gaps : (test : Gap → Bool) (t : HandleTable) (m : ZoneMap) → list_any test (gaps t m) ≡ (test (first_gap t m) || list_any test (later_gaps t m))
list_any-gaps test t m = ap (list_any test) (gaps-first t m)

-- a block that may move and passes a test lies in a gap with such a block
pub gap_of_block : (p : Entry → Bool) (t : HandleTable) (m : ZoneMap) → ((e : Entry) → p e ≡ true → is_fixed t e.kind ≡ false) → list_any p m ≡ true → list_any (λ (g : Gap). list_any p g.blocks) (gaps t m) ≡ true
gap_of_block p t [] moves h = absurd (cc h)
gap_of_block p t (e ∷ es) moves h =
    list_any-gaps (λ (g : Gap). list_any p g.blocks) t (e ∷ es)
    ∙ elim (is_fixed t e.kind) as (λ c. is_fixed t e.kind ≡ c → (list_any p (let g = first_gap t es in cond c (record { before = []; blocks = []; after = e ∷ es }) (record g { blocks = e ∷ g.blocks })).blocks || list_any (λ (g : Gap). list_any p g.blocks) (map (further e) (cond c (first_gap t es ∷ later_gaps t es) (later_gaps t es)))) ≡ true) [
      | true ↦ λ fixed. list_any-further (λ (g : Gap). list_any p g.blocks) e (first_gap t es ∷ later_gaps t es) (λ g h. h) (sym (list_any-gaps (λ (g : Gap). list_any p g.blocks) t es) ∙ after fixed (or_cases (p e) (list_any p es) h) (gap_of_block p t es moves))
      | false ↦ λ moving. here (or_cases (p e) (list_any p es) h) (λ there. sym (list_any-gaps (λ (g : Gap). list_any p g.blocks) t es) ∙ gap_of_block p t es moves there)
    ] refl
  where
    after : is_fixed t e.kind ≡ true → (p e ≡ true) ⊎ (list_any p es ≡ true) → (list_any p es ≡ true → list_any (λ (g : Gap). list_any p g.blocks) (gaps t es) ≡ true) → list_any (λ (g : Gap). list_any p g.blocks) (gaps t es) ≡ true
    after fixed (inl passes) rest = absurd (true≢false (sym fixed ∙ moves e passes))
    after fixed (inr there) rest = rest there

    above : (list_any p (first_gap t es).blocks ≡ true) ⊎ (list_any (λ (g : Gap). list_any p g.blocks) (later_gaps t es) ≡ true)
        → (p e || list_any p (first_gap t es).blocks || list_any (λ (g : Gap). list_any p g.blocks) (map (further e) (later_gaps t es))) ≡ true
    above (inl first) = or_left (p e || list_any p (first_gap t es).blocks) _ (or_right _ _ first)
    above (inr later) = or_right (p e || list_any p (first_gap t es).blocks) _ (list_any-further (λ (g : Gap). list_any p g.blocks) e (later_gaps t es) (λ g h. h) later)

    here : (p e ≡ true) ⊎ (list_any p es ≡ true) → (list_any p es ≡ true → (list_any p (first_gap t es).blocks || list_any (λ (g : Gap). list_any p g.blocks) (later_gaps t es)) ≡ true)
        → (p e || list_any p (first_gap t es).blocks || list_any (λ (g : Gap). list_any p g.blocks) (map (further e) (later_gaps t es))) ≡ true
    here (inl passes) rest = or_left (p e || list_any p (first_gap t es).blocks) _ (or_left _ _ passes)
    here (inr there) rest = above (or_cases _ _ (rest there))

list_any-map : (test : Gap → Bool) (f : Gap → Gap) (gs : List Gap) → list_any test (map f gs) ≡ list_any (λ g. test (f g)) gs
list_any-map test f [] = refl
list_any-map test f (g ∷ gs) = ap (λ b. test (f g) || b) (list_any-map test f gs)

-- blocks that may move, before a fixed one or the end, are the lowest gap
pub first_gap-is : (t : HandleTable) (blocks after : ZoneMap) → all_move t blocks ≡ true → starts_fixed t after ≡ true → first_gap t (blocks ++ after) ≡ record { before = []; blocks = blocks; after = after }
first_gap-is t [] [] moves fixed = refl
first_gap-is t [] (e ∷ es) moves fixed = ap (λ c. let g = first_gap t es in cond c (record { before = []; blocks = []; after = e ∷ es }) (record g { blocks = e ∷ g.blocks })) fixed
first_gap-is t (e ∷ es) after moves fixed =
    let parts = and_parts (not (is_fixed t e.kind)) (all_move t es) moves in
    ap (λ c. let g = first_gap t (es ++ after) in cond c (record { before = []; blocks = []; after = e ∷ (es ++ after) }) (record g { blocks = e ∷ g.blocks })) (not-true _ parts.0)
    ∙ ap (λ (g : Gap). record g { blocks = e ∷ g.blocks }) (first_gap-is t es after parts.1 fixed)

later_among : (test : Gap → Bool) (t : HandleTable) (e : Entry) (before blocks after : ZoneMap) → ends_fixed t (e ∷ before) ≡ true → all_move t blocks ≡ true → starts_fixed t after ≡ true
    → test (record { before = e ∷ before; blocks = blocks; after = after }) ≡ true → list_any test (later_gaps t (e ∷ (before ++ (blocks ++ after)))) ≡ true
later_among test t e [] blocks after below moves above holds = grind (arith, first_gap, first_gap-is, later_gaps, list_any-map, or_left, or_right)
later_among test t e (f ∷ fs) blocks after below moves above holds = grind (arith, later_among (λ g. test (further e g)) t f fs blocks after below moves above holds, first_gap, first_gap-is, later_gaps, list_any-map, or_left, or_right)

among_parts : (test : Gap → Bool) (t : HandleTable) (before blocks after : ZoneMap) → ends_fixed t before ≡ true → all_move t blocks ≡ true → starts_fixed t after ≡ true
    → test (record { before = before; blocks = blocks; after = after }) ≡ true → list_any test (gaps t (before ++ (blocks ++ after))) ≡ true
among_parts test t [] blocks after below moves above holds = list_any-gaps test t (blocks ++ after) ∙ or_left _ _ (ap test (first_gap-is t blocks after moves above) ∙ holds)
among_parts test t (e ∷ before) blocks after below moves above holds = list_any-gaps test t (e ∷ (before ++ (blocks ++ after))) ∙ or_right _ _ (later_among test t e before blocks after below moves above holds)

-- blocks that may move between fixed blocks or the ends of the zone are one of the gaps
pub gap_among : (test : Gap → Bool) (t : HandleTable) (m : ZoneMap) (g : Gap) → IsGap t m g → test g ≡ true → list_any test (gaps t m) ≡ true
gap_among test t m g i holds = ap (λ m. list_any test (gaps t m)) (i.parts ∙ append_assoc g.before g.blocks g.after) ∙ among_parts test t g.before g.blocks g.after i.below i.moves i.above holds

ends_with-push : (x : ℕ) (a : ZoneMap) (e : Entry) → ends_with x (a ++ e ∷ []) ≡ is_named x e.kind
ends_with-push x [] e = refl
ends_with-push x (f ∷ []) e = refl
ends_with-push x (f ∷ g ∷ a) e = ends_with-push x (g ∷ a) e

-- a fixed block bounds what lies before a gap
pub ends_fixed-push : (t : HandleTable) (a : ZoneMap) (e : Entry) → ends_fixed t (a ++ e ∷ []) ≡ is_fixed t e.kind
ends_fixed-push t [] e = refl
ends_fixed-push t (f ∷ []) e = refl
ends_fixed-push t (f ∷ g ∷ a) e = ends_fixed-push t (g ∷ a) e

-- right after a fixed block lies a gap
pub gap_after_fixed : (t : HandleTable) (a : ZoneMap) (e : Entry) (b : ZoneMap) → is_fixed t e.kind ≡ true → IsGap t (a ++ e ∷ b) (let g = first_gap t b in record g { before = a ++ e ∷ [] })
gap_after_fixed t a e b fixed =
    let first = first_gap-IsGap t b in
    let g : Gap = first_gap t b in
    record {
      parts = ap (λ b. a ++ e ∷ b) (first.parts ∙ ap (λ before. before ++ g.blocks ++ g.after) (first_gap-before t b)) ∙ sym (append_assoc a (e ∷ []) (g.blocks ++ g.after)) ∙ sym (append_assoc (a ++ e ∷ []) g.blocks g.after);
      moves = first.moves;
      below = ends_fixed-push t a e ∙ fixed;
      above = first.above;
    }

-- a fixed block that x names has a gap right after it
pub gap_after-found : (t : HandleTable) (x : ℕ) (a : ZoneMap) (e : Entry) (b : ZoneMap) → is_fixed t e.kind ≡ true → is_named x e.kind ≡ true → is_some (gap_after x (gaps t (a ++ e ∷ b))) ≡ true
gap_after-found t x a e b fixed named =
    is_some-find (λ g. ends_with x g.before) (gaps t (a ++ e ∷ b)) ∙ gap_among (λ g. ends_with x g.before) t (a ++ e ∷ b) _ (gap_after_fixed t a e b fixed) (ends_with-push x a e ∙ named)

-- a block with k free bytes gives room for them
room-has_free : (k : ℕ) (b : ZoneMap) → list_any (has_free k) b ≡ true → nat_le k (free_bytes b) ≡ true
room-has_free k [] h = absurd (cc h)
room-has_free k (e ∷ es) h = grind (arith, room-has_free k es, and_parts, le-leb, leb-true, or_cases)

list_any-weaker : (p q : Gap → Bool) (gs : List Gap) → ((g : Gap) → p g ≡ true → q g ≡ true) → list_any p gs ≡ true → list_any q gs ≡ true
list_any-weaker p q [] weaker h = h
list_any-weaker p q (g ∷ gs) weaker h = grind (arith, list_any-weaker p q gs weaker, or_cases, or_left, or_right)

free_moves : (t : HandleTable) (k : ℕ) (e : Entry) → has_free k e ≡ true → is_fixed t e.kind ≡ false
free_moves t k e h = ap (is_fixed t) (free_is e.kind (and_parts (is_free e.kind) (nat_le k e.size) h).0)

-- where a free block has k bytes, a gap has room for them
pub some_gap_has-free : (t : HandleTable) (k : ℕ) (m : ZoneMap) → list_any (has_free k) m ≡ true → some_gap_has k (gaps t m) ≡ true
some_gap_has-free t k m h = list_any-weaker (λ (g : Gap). list_any (has_free k) g.blocks) (λ g. nat_le k (room g)) (gaps t m) (λ g there. room-has_free k g.blocks there) (gap_of_block (has_free k) t m (free_moves t k) h)

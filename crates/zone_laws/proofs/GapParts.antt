-- What each gap of a map is: a run of blocks that may move, between blocks that may not.
use Rattle.std.proofs.Common.{arith, ◌≡◌, ℕ, ◌≤◌, Bool, true, false, not, cond, List, [], ◌∷◌, ◌++◌, refl, ap, sym, ◌∙◌, subst, inl, inr}
use Rattle.std.specs.Prelude.{Contains, ◌⊎◌, map, find, IsTrue, Some, nat_le}
use Rattle.std.specs.List.{list_all, All}
use Rattle.std.proofs.lemmas.List.Elements.{All-contains, All-nil, All-cons, All-map, All-weaker, All-head, All-tail}
use Rattle.std.proofs.lemmas.Bool.{and_from, leb-true}
use Rattle.mac_base.specs.declared.block.Entry.{Entry}
use Rattle.mac_base.specs.HandleTable.{HandleTable}
use Rattle.mac_base.specs.ZoneMap.{ZoneMap}
use Rattle.mac_base.specs.Gap.{Gap, gaps, gaps_with, further, filled, is_fixed, room, lowest_gap, own_gap, gap_after, has_named, ends_with}

-- whether all these blocks may move
abbrev pub all_move : HandleTable → ZoneMap → Bool
all_move t blocks = list_all (λ (e : Entry). not (is_fixed t e.kind)) blocks

-- whether a fixed block is the first, where there is a block
abbrev pub starts_fixed : HandleTable → ZoneMap → Bool
starts_fixed t [] = true
starts_fixed t (e ∷ es) = is_fixed t e.kind

-- whether a fixed block is the last, where there is a block
abbrev pub ends_fixed : HandleTable → ZoneMap → Bool
ends_fixed t [] = true
ends_fixed t (e ∷ []) = is_fixed t e.kind
ends_fixed t (e ∷ f ∷ es) = ends_fixed t (f ∷ es)

-- a gap of the map: the map is its three parts, its blocks may move, and fixed blocks or the zone's ends bound it
pub record IsGap (t : HandleTable) (m : ZoneMap) (g : Gap) : Type 0 where
  pub parts : m ≡ filled g g.blocks
  pub moves : IsTrue (all_move t g.blocks)
  pub below : IsTrue (ends_fixed t g.before)
  pub above : IsTrue (starts_fixed t g.after)

-- the lowest gap of a map
abbrev pub first_gap : HandleTable → ZoneMap → Gap
first_gap t [] = record { before = []; blocks = []; after = [] }
first_gap t (e ∷ es) = let g = first_gap t es in cond (is_fixed t e.kind) (record { before = []; blocks = []; after = e ∷ es }) (record g { blocks = e ∷ g.blocks })

-- the gaps above it
abbrev pub later_gaps : HandleTable → ZoneMap → List Gap
later_gaps t [] = []
later_gaps t (e ∷ es) = map (further e) (cond (is_fixed t e.kind) (first_gap t es ∷ later_gaps t es) (later_gaps t es))

-- the gaps of a map are the lowest one and those above it
pub gaps-first : (t : HandleTable) (m : ZoneMap) → gaps t m ≡ first_gap t m ∷ later_gaps t m
gaps-first t [] = refl
gaps-first t (e ∷ es) = ap (gaps_with (is_fixed t e.kind) e es) (gaps-first t es) ∙ split (is_fixed t e.kind)
  where
    split : (b : Bool) → gaps_with b e es (first_gap t es ∷ later_gaps t es)
        ≡ (let g = first_gap t es in cond b (record { before = []; blocks = []; after = e ∷ es }) (record g { blocks = e ∷ g.blocks })) ∷ map (further e) (cond b (first_gap t es ∷ later_gaps t es) (later_gaps t es))
    split true = refl
    split false = refl

-- whether there is a block
abbrev pub has_blocks : ZoneMap → Bool
has_blocks [] = false
has_blocks (e ∷ es) = true

-- the lowest gap has nothing before it
record IsFirst (t : HandleTable) (m : ZoneMap) (g : Gap) : Type 0 where
  pub none_before : g.before ≡ []
  pub parts : m ≡ g.blocks ++ g.after
  pub moves : IsTrue (all_move t g.blocks)
  pub above : IsTrue (starts_fixed t g.after)

first_is : (t : HandleTable) (m : ZoneMap) → IsFirst t m (first_gap t m)
first_is t [] = record { none_before = refl; parts = refl; moves = refl; above = refl }
first_is t (e ∷ es) =
    elim (is_fixed t e.kind) as (λ b. is_fixed t e.kind ≡ b → IsFirst t (e ∷ es) (let g = first_gap t es in cond b (record { before = []; blocks = []; after = e ∷ es }) (record g { blocks = e ∷ g.blocks }))) [
      | true ↦ λ fixed. record { none_before = refl; parts = refl; moves = refl; above = fixed }
      | false ↦ λ moving. let rest = first_is t es in
          record { none_before = rest.none_before; parts = ap (λ m. e ∷ m) rest.parts; moves = and_from _ _ (ap not moving) rest.moves; above = rest.above }
    ] refl

-- nothing lies before the lowest gap
pub first_gap-before : (t : HandleTable) (m : ZoneMap) → (first_gap t m).before ≡ []
first_gap-before t m = let f = first_is t m in f.none_before

-- the lowest gap, with the other parts of a gap's description
pub first_gap-IsGap : (t : HandleTable) (m : ZoneMap) → IsGap t m (first_gap t m)
first_gap-IsGap t m = let f = first_is t m in
    record { parts = f.parts ∙ ap (λ b. b ++ (first_gap t m).blocks ++ (first_gap t m).after) (sym f.none_before); moves = f.moves; below = ap (ends_fixed t) f.none_before; above = f.above }

ends_fixed-cons : (t : HandleTable) (e : Entry) (b : ZoneMap) → ends_fixed t b ≡ true → (is_fixed t e.kind ≡ true) ⊎ (has_blocks b ≡ true) → ends_fixed t (e ∷ b) ≡ true
ends_fixed-cons t e v2 h v4 = grind arith

further-IsGap : (t : HandleTable) (m : ZoneMap) (e : Entry) (g : Gap) → IsGap t m g → (is_fixed t e.kind ≡ true) ⊎ (has_blocks g.before ≡ true) → IsGap t (e ∷ m) (further e g)
further-IsGap t m e g i which = record { parts = ap (λ m. e ∷ m) i.parts; moves = i.moves; below = ends_fixed-cons t e g.before i.below which; above = i.above }

-- a gap with a block before it
pub record IsLater (t : HandleTable) (m : ZoneMap) (g : Gap) : Type 0 where
  pub gap : IsGap t m g
  pub some_before : IsTrue (has_blocks g.before)

further_later : (t : HandleTable) (m : ZoneMap) (e : Entry) (g : Gap) → IsGap t m g → (is_fixed t e.kind ≡ true) ⊎ (has_blocks g.before ≡ true) → IsLater t (e ∷ m) (further e g)
further_later t m e g i which = record { gap = further-IsGap t m e g i which; some_before = refl }

-- each gap above the lowest is one with a block before it
pub later_gaps-IsLater : (t : HandleTable) (m : ZoneMap) → All (IsLater t m) (later_gaps t m)
later_gaps-IsLater t [] = All-nil (IsLater t [])
later_gaps-IsLater t (e ∷ es) =
    elim (is_fixed t e.kind) as (λ b. is_fixed t e.kind ≡ b → All (IsLater t (e ∷ es)) (map (further e) (cond b (first_gap t es ∷ later_gaps t es) (later_gaps t es)))) [
      | true ↦ λ fixed. All-cons (IsLater t (e ∷ es)) _ _ (further_later t es e (first_gap t es) (first_gap-IsGap t es) (inl fixed))
          (All-map (IsLater t (e ∷ es)) (further e) (later_gaps t es) (All-weaker (IsLater t es) (λ g. IsLater t (e ∷ es) (further e g)) (λ g l. further_later t es e g l.gap (inl fixed)) (later_gaps t es) (later_gaps-IsLater t es)))
      | false ↦ λ moving. All-map (IsLater t (e ∷ es)) (further e) (later_gaps t es) (All-weaker (IsLater t es) (λ g. IsLater t (e ∷ es) (further e g)) (λ g l. further_later t es e g l.gap (inr l.some_before)) (later_gaps t es) (later_gaps-IsLater t es))
    ] refl

-- each gap of a map is its blocks between fixed blocks or the ends of the zone
pub gaps-IsGap : (t : HandleTable) (m : ZoneMap) → All (IsGap t m) (gaps t m)
gaps-IsGap t m = subst (All (IsGap t m)) (sym (gaps-first t m))
    (All-cons (IsGap t m) (first_gap t m) (later_gaps t m) (first_gap-IsGap t m) (All-weaker (IsLater t m) (IsGap t m) (λ g l. l.gap) (later_gaps t m) (later_gaps-IsLater t m)))

found_passes : (P : Gap → Type 0) (test : Gap → Bool) (gs : List Gap) (g : Gap) → All P gs → find test gs ≡ Some g → P g × (test g ≡ true)
found_passes P test [] g each found = absurd (cc found)
found_passes P test (f ∷ gs) g each found =
    elim (test f) as (λ b. test f ≡ b → cond b (Some f) (find test gs) ≡ Some g → P g × (test g ≡ true)) [
      | true ↦ λ passes is. let same : f ≡ g = cc is in (subst P same (All-head P f gs each), ap test (sym same) ∙ passes)
      | false ↦ λ fails is. found_passes P test gs g (All-tail P f gs each) is
    ] refl found

-- the lowest gap with room for k bytes is a gap, and has room for them
pub lowest_gap-is : (t : HandleTable) (m : ZoneMap) (k : ℕ) (g : Gap) → lowest_gap k (gaps t m) ≡ Some g → IsGap t m g × (k ≤ room g)
lowest_gap-is t m k g found = let h = found_passes (IsGap t m) (λ g. nat_le k (room g)) (gaps t m) g (gaps-IsGap t m) found in (h.0, leb-true k (room g) h.1)

-- the gap in which the block of x lies is a gap, and has it
pub own_gap-is : (t : HandleTable) (m : ZoneMap) (x : ℕ) (g : Gap) → own_gap x (gaps t m) ≡ Some g → IsGap t m g × (has_named x g.blocks ≡ true)
own_gap-is t m x g found = found_passes (IsGap t m) (λ g. has_named x g.blocks) (gaps t m) g (gaps-IsGap t m) found

-- the gap right after the block of x is a gap, and lies there
pub gap_after-is : (t : HandleTable) (m : ZoneMap) (x : ℕ) (g : Gap) → gap_after x (gaps t m) ≡ Some g → IsGap t m g × (ends_with x g.before ≡ true)
gap_after-is t m x g found = found_passes (IsGap t m) (λ g. ends_with x g.before) (gaps t m) g (gaps-IsGap t m) found

-- a gap among the gaps of a map
pub gap-IsGap : (t : HandleTable) (m : ZoneMap) (g : Gap) → Contains (gaps t m) g → IsGap t m g
gap-IsGap t m g there = All-contains (IsGap t m) (gaps t m) g (gaps-IsGap t m) there

-- The bytes that are free or may be purged, block by block.
use Rattle.std.proofs.Common.{◌≡◌, ℕ, ◌+◌, ◌≤◌, true, false, cond, List, [], ◌∷◌, ◌++◌, length, refl, ap, sym, ◌∙◌, arith, length-append, append-nil}
use Rattle.std.specs.Prelude.{◌&&◌, map, sum, sum_by}
use Rattle.std.specs.List.{All}
use Rattle.std.proofs.lemmas.Bool.{and_parts}
use Rattle.std.proofs.lemmas.List.Elements.{All-head, All-tail}
use Rattle.std.proofs.lemmas.List.Sums.{sum_by-cons}
use Rattle.mac_base.specs.declared.block.Kind.{Kind}
use Rattle.mac_base.specs.declared.block.Kind.TheVariants.{Free, Master, Ptr, Rel}
use Rattle.mac_base.specs.Gap.{Gap, gaps}
use Rattle.mac_base.specs.HandleTable.{HandleTable, is_full, is_purgeable}
use Rattle.mac_base.specs.HeadKind.{Shape}
use Rattle.mac_base.specs.Reports.{largest, purge_space, largest_purge_space}
use Rattle.mac_base.specs.Request.{candidates_in, size_of}
use Rattle.mac_base.specs.Suits.{Coherent}
use Rattle.mac_base.specs.ZoneMap.{ZoneMap, block, free_bytes, is_named, sizes}
use Rattle.zone_laws.proofs.GapAppend.{sizes-append}
use Rattle.zone_laws.proofs.GapParts.{IsGap, gaps-IsGap}
use Rattle.zone_laws.proofs.Tables.{eqb_same}
use Rattle.zone_index.specs.declared.weight.Weight.{Weight}
use Rattle.zone_index.specs.Weights.{most, space_of, weights}
use Rattle.zone_index.proofs.Most.{most-gaps}
use Rattle.zone_index.proofs.Naming.{named_alone}

-- those of some blocks
abbrev space_in : HandleTable → ZoneMap → ℕ
space_in t m = space_of (weights t m)

-- f says of each handle of these blocks that may be purged how large its block is
abbrev Sizes : HandleTable → (ℕ → ℕ) → ZoneMap → Type 0
Sizes t f b = (h n : ℕ) (before after : ZoneMap) → b ≡ before ++ block (Rel h) n ∷ after → is_purgeable t h ≡ true → f h ≡ n

space-sum : (t : HandleTable) (f : ℕ → ℕ) (b : ZoneMap) → Sizes t f b → free_bytes b + sum_by f (candidates_in t [] b) ≡ space_in t b
space-sum t f [] each = refl
space-sum t f (e ∷ es) each = by_kind e.kind refl (space-sum t f es (λ h n before after is. each h n (e ∷ before) after (ap (λ m. e ∷ m) is)))
  where
    by_kind : (k : Kind) → e.kind ≡ k → free_bytes es + sum_by f (candidates_in t [] es) ≡ space_in t es
        → free_bytes (block k e.size ∷ es) + sum_by f (candidates_in t [] (block k e.size ∷ es)) ≡ space_in t (block k e.size ∷ es)
    by_kind Free is rest = omega arith
    by_kind Master is rest = omega arith
    by_kind (Ptr p) is rest = omega arith
    by_kind (Rel h) is rest = elim (is_purgeable t h) as (λ c. is_purgeable t h ≡ c → (0 + free_bytes es) + sum_by f (cond (c && true) (h ∷ candidates_in t [] es) (candidates_in t [] es)) ≡ cond c e.size 0 + space_in t es) [
      | true ↦ λ may. let size = each h e.size [] es (ap (λ k. block k e.size ∷ es) is) may in let all = sum_by-cons f h (candidates_in t [] es) in omega arith
      | false ↦ λ not_now. omega arith
    ] refl

-- one number among these is their sum
sum-alone : (a : List ℕ) (n : ℕ) (b : List ℕ) → length (a ++ n ∷ b) ≤ 1 → sum (a ++ n ∷ b) ≡ n
sum-alone [] n [] one = omega arith
sum-alone [] n (k ∷ b) one = absurd (omega arith)
sum-alone (k ∷ a) n b one = let all = length-append a (n ∷ b) in absurd (omega arith)

module _ (s : Shape) (t : HandleTable) (m : ZoneMap) (coherent : Coherent s t m) where
  -- some blocks of the map, each handle's among them once
  space-part : (b before after : ZoneMap) → m ≡ (before ++ b) ++ after → purge_space t b ≡ space_in t b
  space-part b before after parts = space-sum t (λ h. size_of h b) b (λ h n front back is may.
      let named = is_named h in
      let alone : length (sizes named m) ≡ 1 = named_alone s t m h coherent (and_parts (is_full t h) _ may).0 in
      let outer : length (sizes named m) ≡ length (sizes named before) + length (sizes named b) + length (sizes named after) =
      ap (λ m. length (sizes named m)) parts ∙ ap length (sizes-append named (before ++ b) after) ∙ length-append (sizes named (before ++ b)) (sizes named after)
      ∙ ap (λ n. n + length (sizes named after)) (ap length (sizes-append named before b) ∙ length-append (sizes named before) (sizes named b)) in
      let here : sizes named b ≡ sizes named front ++ n ∷ sizes named back =
      ap (sizes named) is ∙ sizes-append named front (block (Rel h) n ∷ back) ∙ ap (λ c. sizes named front ++ (cond c (n ∷ []) [] ++ sizes named back)) (eqb_same h) in
      let long = ap length here in
      ap sum here ∙ sum-alone (sizes named front) n (sizes named back) (omega arith))

  -- so the sum over the handles that may be purged is that over their blocks
  pub purge_space-is : purge_space t m ≡ space_of (weights t m)
  purge_space-is = space-part m [] [] (sym (append-nil m))

  each_gap : (gs : List Gap) → All (IsGap t m) gs → map (λ (g : Gap). purge_space t g.blocks) gs ≡ map (λ (g : Gap). space_in t g.blocks) gs
  each_gap [] each = refl
  each_gap (g ∷ gs) each =
      let gap = All-head (IsGap t m) g gs each in
      ap (λ n. n ∷ map (λ (g : Gap). purge_space t g.blocks) gs) (space-part g.blocks g.before g.after gap.parts)
      ∙ ap (λ ns. space_in t g.blocks ∷ ns) (each_gap gs (All-tail (IsGap t m) g gs each))

  -- also in each gap
  pub largest_purge_space-is : most (λ (w : Weight). w.space) 0 (weights t m) ≡ largest_purge_space t m
  largest_purge_space-is = most-gaps t (λ (w : Weight). w.space) (space_in t) refl (λ e es. refl) m ∙ ap largest (sym (each_gap (gaps t m) (gaps-IsGap t m)))

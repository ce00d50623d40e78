-- The most that a gap has of a sort of bytes, by a walk over what the blocks weigh.
use Rattle.std.proofs.Common.{◌≡◌, ℕ, ◌+◌, true, false, cond, List, [], ◌∷◌, refl, ap, sym, ◌∙◌, arith}
use Rattle.std.specs.Prelude.{max, map, fold}
use Rattle.mac_base.specs.declared.block.Entry.{Entry}
use Rattle.mac_base.specs.Gap.{Gap, gaps, further, is_fixed}
use Rattle.mac_base.specs.HandleTable.{HandleTable}
use Rattle.mac_base.specs.Reports.{largest}
use Rattle.mac_base.specs.ZoneMap.{ZoneMap}
use Rattle.zone_laws.proofs.GapParts.{first_gap, later_gaps, gaps-first}
use Rattle.zone_index.specs.declared.weight.Weight.{Weight}
use Rattle.zone_index.specs.Weights.{most, weigh, weights}

-- a number and others
pub fold-max : (n : ℕ) (ns : List ℕ) → fold max n ns ≡ max n (largest ns)
fold-max n [] = omega arith
fold-max n (k ∷ ns) = let first = fold-max (max n k) ns in let rest = fold-max (max 0 k) ns in omega arith

-- where all blocks of a run have so much of the sort
module _ (t : HandleTable) (sort : Weight → ℕ) (total : ZoneMap → ℕ) (none : total [] ≡ 0) (more : (e : Entry) (es : ZoneMap) → total (e ∷ es) ≡ sort (weigh t e) + total es) where
  abbrev totals : List Gap → List ℕ
  totals gs = map (λ (g : Gap). total g.blocks) gs

  totals-further : (e : Entry) (gs : List Gap) → totals (map (further e) gs) ≡ totals gs
  totals-further e [] = refl
  totals-further e (g ∷ gs) = ap (λ ns. total g.blocks ∷ ns) (totals-further e gs)

  most-first : (r : ℕ) (m : ZoneMap) → most sort r (weights t m) ≡ max (r + total (first_gap t m).blocks) (largest (totals (later_gaps t m)))
  most-first r [] = let none = none in omega arith
  most-first r (e ∷ es) = elim (is_fixed t e.kind) as (λ c. cond c (max r (most sort 0 (weights t es))) (most sort (r + sort (weigh t e)) (weights t es))
      ≡ max (r + total (let g = first_gap t es in cond c (record { before = []; blocks = []; after = e ∷ es }) (record g { blocks = e ∷ g.blocks })).blocks) (largest (totals (map (further e) (cond c (first_gap t es ∷ later_gaps t es) (later_gaps t es)))))) [
        | true ↦ (let rest = most-first 0 es in
            let none = none in
            let first : ℕ = total (first_gap t es).blocks in
            let all = ap largest (totals-further e (first_gap t es ∷ later_gaps t es)) ∙ fold-max (max 0 first) (totals (later_gaps t es)) in
            omega arith)
        | false ↦ (let rest = most-first (r + sort (weigh t e)) es in
            let first = more e (first_gap t es).blocks in
            let later = ap largest (totals-further e (later_gaps t es)) in
            omega arith)
      ]

  -- the walk finds the largest of what the gaps have
  pub most-gaps : (m : ZoneMap) → most sort 0 (weights t m) ≡ largest (map (λ (g : Gap). total g.blocks) (gaps t m))
  most-gaps m = sym (ap (λ gs. largest (totals gs)) (gaps-first t m) ∙ fold-max (max 0 (total (first_gap t m).blocks)) (totals (later_gaps t m)) ∙ (let all = most-first 0 m in omega arith))

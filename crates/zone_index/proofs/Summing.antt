-- What is summed up of blocks can be joined, and a block that has no part in gaps has none in any sum.
use Rattle.std.proofs.Common.{◌≡◌, ℕ, ◌+◌, ◌*◌, ◌≤◌, false, List, ◌++◌, map, length, ap, sym, ◌∙◌, arith}
use Rattle.std.proofs.lemmas.List.{map-append}
use Rattle.mac_base.specs.HandleTable.{HandleTable}
use Rattle.mac_base.specs.HeadKind.{zone_header}
use Rattle.mac_base.specs.ZoneMap.{ZoneMap, total_size}
use Rattle.mac_base.specs.ZoneState.{ZoneState}
use Rattle.sum_tree.proofs.Leaves.{sum-leaves}
use Rattle.sum_tree.specs.Monoids.{MonoidLaws, total, sum_of}
use Rattle.sum_tree.specs.Stale.{Stored}
use Rattle.sum_tree.proofs.Totals.{sum-all, total-append}
use Rattle.zone_index.specs.declared.weight.Weight.{Weight}
use Rattle.zone_index.specs.Leaves.{AllFresh, Summing, sum_over}
use Rattle.zone_index.specs.Pages.{begun}
use Rattle.zone_index.specs.Weights.{bytes_of, weights}
use Rattle.zone_index.proofs.Begun.{begun-append, begun-between, below-end, bytes-weights, weights-append}

pub record IsSumming {M : Type 0} (s : Summing M) (fits : M → Type 0) : Type 0 where
  pub laws : MonoidLaws s.empty s.op fits
  pub idle : (w : Weight) → w.fixed ≡ false → w.free ≡ 0 → s.one w ≡ s.empty

-- of two parts
pub sum-append : {M : Type 0} {fits : M → Type 0} (s : Summing M) → IsSumming s fits → (a b : List Weight) → sum_over s (a ++ b) ≡ s.op (sum_over s a) (sum_over s b)
sum-append s is a b = ap (total s.empty s.op) (map-append s.one a b) ∙ total-append is.laws (map s.one a) (map s.one b)

-- of the blocks of two parts that begin between two places
pub sum-parts : {M : Type 0} {fits : M → Type 0} (s : Summing M) → IsSumming s fits → (t : HandleTable) (low high at : ℕ) (a b : ZoneMap)
    → sum_over s (begun low high at (weights t (a ++ b))) ≡ s.op (sum_over s (begun low high at (weights t a))) (sum_over s (begun low high (at + total_size a) (weights t b)))
sum-parts s is t low high at a b =
    ap (λ ws. sum_over s (begun low high at ws)) (weights-append t a b) ∙ ap (sum_over s) (begun-append low high at (weights t a) (weights t b))
    ∙ sum-append s is (begun low high at (weights t a)) (begun low high (at + bytes_of (weights t a)) (weights t b))
    ∙ ap (λ n. s.op (sum_over s (begun low high at (weights t a))) (sum_over s (begun low high (at + n) (weights t b)))) (bytes-weights t a)

-- the sums of leaves are those of blocks
module _ {M : Type 0} {fits : M → Type 0} (s : Summing M) (is : IsSumming s fits) (z : ZoneState) (kept : Stored M) (fresh : AllFresh s z kept) where
  pub leaves-sum : (n : ℕ) → n ≤ length kept.sums → sum_of s.empty s.op kept.sums 0 n ≡ sum_over s (begun 0 (256 * n) zone_header (weights z.heap.table z.heap.map))
  leaves-sum n inside = sum-leaves is.laws (λ (w : Weight). w.bytes) s.one zone_header (weights z.heap.table z.heap.map) kept.sums fresh.right n inside

  -- and all of all
  pub leaves-total : zone_header + total_size z.heap.map ≤ z.shape.limit → total s.empty s.op kept.sums ≡ sum_over s (weights z.heap.table z.heap.map)
  leaves-total within =
      let places = fresh.places in
      let all = begun-between z.heap.table 0 (256 * length kept.sums) zone_header z.heap.map (omega arith) (below-end (256 * length kept.sums) zone_header z.heap.map (omega arith)) in
      sym (sum-all is.laws kept.sums (length kept.sums) (omega arith)) ∙ leaves-sum (length kept.sums) (omega arith) ∙ ap (sum_over s) all

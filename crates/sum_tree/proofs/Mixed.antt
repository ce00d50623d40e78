-- While stale sums are measured again, sums of before and of now are side by side. There is room for what they come
-- to.
use Rattle.std.proofs.Common.{◌≡◌, ℕ, suc, inl, inr, ◌⊎◌, ◌+◌, ◌*◌, ◌^◌, ◌<◌, ◌≤◌, List, [], ◌∷◌, ◌++◌, map, length, get_or, ap, ◌∙◌, sym, arith}
use Rattle.std.proofs.lemmas.List.{map-append}
use Rattle.sum_tree.specs.Monoids.{total}
use Rattle.sum_tree.specs.Stale.{MixturesFit, AllRight}
use Rattle.sum_tree.specs.declared.span.Span.{Span}
use Rattle.sum_tree.specs.declared.span.Span.TheVariants.{Whole, Parted}
use Rattle.sum_tree.specs.Leaves.{begun, leaf_sum}
use Rattle.sum_tree.specs.Span.{no_span, joined, SpanFits, weight, heavy}
use Rattle.sum_tree.proofs.Leaves.{begun-split}

joined-light : (x y : Span) → weight (joined x y) ≤ weight x + weight y
joined-light (Whole n) (Whole k) = omega arith
joined-light (Whole n) (Parted q) = omega arith
joined-light (Parted p) (Whole k) = omega arith
joined-light (Parted p) (Parted q) = omega arith

pub light-fits : (x : Span) → weight x < 2 ^ 32 → SpanFits x
light-fits (Whole n) light = light
light-fits (Parted p) light = (omega arith, omega arith, omega arith)

-- the sum of all weighs no more than all
pub total-light : (xs : List Span) → weight (total no_span joined xs) ≤ heavy xs
total-light [] = omega arith
total-light (x ∷ xs) = let rest = total-light xs in let here = joined-light x (total no_span joined xs) in omega arith

-- each is one of two
heavy-mixed : (xs zs ys : List Span) → length zs ≡ length xs → length ys ≡ length xs → ((j : ℕ) → j < length xs → (get_or ys j no_span ≡ get_or xs j no_span) ⊎ (get_or ys j no_span ≡ get_or zs j no_span))
    → heavy ys ≤ heavy xs + heavy zs
heavy-mixed [] zs [] z y each = omega arith
heavy-mixed [] zs (b ∷ ys) z y each = absurd (omega arith)
heavy-mixed (x ∷ xs) [] ys z y each = absurd (omega arith)
heavy-mixed (x ∷ xs) (a ∷ zs) [] z y each = absurd (omega arith)
heavy-mixed (x ∷ xs) (a ∷ zs) (b ∷ ys) z y each =
    let rest = heavy-mixed xs zs ys (omega arith) (omega arith) (λ j low. each (suc j) (omega arith)) in
    elim (each 0 (omega arith)) [
      | inl old ↦ let e = ap weight old in omega arith
      | inr new ↦ let e = ap weight new in omega arith
    ]

-- the sums that are stored, and those that are right, come to less than 2^32
pub mixtures-fit : (sums right : List Span) (value : ℕ → Span) → length right ≡ length sums → AllRight no_span right value → heavy sums + heavy right < 2 ^ 32 → MixturesFit no_span joined SpanFits sums value
mixtures-fit sums right value same all light = λ ys mixed.
    let most = heavy-mixed sums right ys same mixed.places (λ j low. elim (mixed.each j low) [
      | inl old ↦ inl old
      | inr new ↦ inr (new ∙ sym (all j (omega arith)))
    ]) in
    let sum = total-light ys in
    light-fits (total no_span joined ys) (omega arith)

heavy-append : (xs ys : List Span) → heavy (xs ++ ys) ≡ heavy xs + heavy ys
heavy-append [] ys = omega arith
heavy-append (x ∷ xs) ys = let rest = heavy-append xs ys in omega arith

-- the sums of leaves come to no more than the blocks do
module _ {B : Type 0} (size : B → ℕ) (one : B → Span) (at : ℕ) (bs : List B) where
  heavy_begun : ℕ → ℕ → ℕ
  heavy_begun low high = heavy (map one (begun size low high at bs))

  heavy_begun-split : (low mid high : ℕ) → low ≤ mid → mid ≤ high → heavy_begun low high ≡ heavy_begun low mid + heavy_begun mid high
  unfolding heavy_begun
  heavy_begun-split low mid high under over =
      ap (λ r. heavy (map one r)) (begun-split size low mid high at bs under over) ∙ ap heavy (map-append one (begun size low mid at bs) (begun size mid high at bs))
      ∙ heavy-append (map one (begun size low mid at bs)) (map one (begun size mid high at bs))

  leaf-light : (i : ℕ) → weight (leaf_sum no_span joined size one at bs i) ≤ heavy_begun (256 * i) (256 * i + 256)
  unfolding heavy_begun
  leaf-light i = total-light (map one (begun size (256 * i) (256 * i + 256) at bs))

  leaves-light_from : (i : ℕ) (xs : List Span) → ((j : ℕ) → j < length xs → get_or xs j no_span ≡ leaf_sum no_span joined size one at bs (i + j)) → heavy xs ≤ heavy_begun (256 * i) (256 * (i + length xs))
  leaves-light_from i [] right = omega arith
  leaves-light_from i (x ∷ xs) right =
      let here = right 0 (omega arith) in
      let first : i + 0 ≡ i = omega arith in
      let mine : weight x ≡ weight (leaf_sum no_span joined size one at bs i) = ap weight (rw first at here) in
      let light = leaf-light i in
      let rest = leaves-light_from (i + 1) xs (λ j low. let e : i + 1 + j ≡ i + suc j = omega arith in rw e (right (suc j) (omega arith))) in
      let from : 256 * (i + 1) ≡ 256 * i + 256 = omega arith in
      let to : 256 * (i + 1 + length xs) ≡ 256 * (i + suc (length xs)) = omega arith in
      let after = rw (from, to) at rest in
      let split = heavy_begun-split (256 * i) (256 * i + 256) (256 * (i + suc (length xs))) (omega arith) (omega arith) in
      omega arith

  pub leaves-light : (xs : List Span) → ((j : ℕ) → j < length xs → get_or xs j no_span ≡ leaf_sum no_span joined size one at bs j) → heavy xs ≤ heavy (map one (begun size 0 (256 * length xs) at bs))
  unfolding heavy_begun
  leaves-light xs right =
      let all = leaves-light_from 0 xs (λ j low. let e : 0 + j ≡ j = omega arith in rw e (right j low)) in
      let to : 0 + length xs ≡ length xs = omega arith in
      rw to at all

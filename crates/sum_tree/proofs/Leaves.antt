-- Sums of leaves are sums of blocks.
use Rattle.std.proofs.Common.{◌≡◌, ℕ, zero, suc, inl, inr, ◌+◌, ◌*◌, ◌<◌, ◌≤◌, true, false, List, [], ◌∷◌, ◌++◌, map, length, get_or, ap, ◌∙◌, sym, refl, arith}
use Rattle.std.specs.Prelude.{nat_le, nat_lt, ◌&&◌}
use Rattle.std.proofs.lemmas.Bool.{cases_lt}
use Rattle.std.proofs.lemmas.Bool.Decides.{nat_tests}
use Rattle.std.proofs.lemmas.List.{map-append}
use Rattle.sum_tree.specs.Monoids.{MonoidLaws, total, sum_of}
use Rattle.sum_tree.proofs.Totals.{total-append, sum-none, sum-more}
use Rattle.sum_tree.specs.Leaves.{begun, leaf_sum}

module _ {B : Type 0} (size : B → ℕ) where
  -- none begins below the first
  pub begun-none : (low high at : ℕ) (bs : List B) → high ≤ at → begun size low high at bs ≡ []
  begun-none low high at [] past = refl
  begun-none low high at (b ∷ bs) past =
      let no_test : (nat_le low at && nat_lt at high) ≡ false = grind (arith, nat_tests) in
      rw no_test (begun-none low high (at + size b) bs (omega arith))

  -- those below a place and those from there on
  pub begun-split : (low mid high at : ℕ) (bs : List B) → low ≤ mid → mid ≤ high → begun size low high at bs ≡ begun size low mid at bs ++ begun size mid high at bs
  begun-split low mid high at [] under over = refl
  begun-split low mid high at (b ∷ bs) under over = elim (cases_lt at low) [
    | inl outside ↦
        let t : (nat_le low at && nat_lt at high) ≡ false = grind (arith, nat_tests) in
        let u : (nat_le low at && nat_lt at mid) ≡ false = grind (arith, nat_tests) in
        let v : (nat_le mid at && nat_lt at high) ≡ false = grind (arith, nat_tests) in
        rw (t, u, v) (begun-split low mid high (at + size b) bs under over)
    | inr in_low ↦ elim (cases_lt at mid) [
      | inl first ↦
          let t : (nat_le low at && nat_lt at high) ≡ true = grind (arith, nat_tests) in
          let u : (nat_le low at && nat_lt at mid) ≡ true = grind (arith, nat_tests) in
          let v : (nat_le mid at && nat_lt at high) ≡ false = grind (arith, nat_tests) in
          rw (t, u, v) (ap (λ r. b ∷ r) (begun-split low mid high (at + size b) bs under over))
      | inr second ↦
          let none = begun-none low mid at (b ∷ bs) second in
          let none_more = begun-none low mid (at + size b) bs (omega arith) in
          rw none (elim (cases_lt at high) [
            | inl inside ↦
                let t : (nat_le low at && nat_lt at high) ≡ true = grind (arith, nat_tests) in
                let v : (nat_le mid at && nat_lt at high) ≡ true = grind (arith, nat_tests) in
                rw (t, v) (ap (λ r. b ∷ r) (begun-split low mid high (at + size b) bs under over ∙ ap (λ r. r ++ begun size mid high (at + size b) bs) none_more))
            | inr outside ↦
                begun-none low high at (b ∷ bs) outside ∙ sym (begun-none mid high at (b ∷ bs) outside)
          ])
    ]
  ]

module _ {B M : Type 0} {empty : M} {op : M → M → M} {fits : M → Type 0} (laws : MonoidLaws empty op fits) (size : B → ℕ) (one : B → M) (at : ℕ) (bs : List B) where
  sum_begun : ℕ → ℕ → M
  sum_begun low high = total empty op (map one (begun size low high at bs))

  sum_begun-split : (low mid high : ℕ) → low ≤ mid → mid ≤ high → sum_begun low high ≡ op (sum_begun low mid) (sum_begun mid high)
  unfolding sum_begun
  sum_begun-split low mid high under over =
      ap (λ r. total empty op (map one r)) (begun-split size low mid high at bs under over) ∙ ap (total empty op) (map-append one (begun size low mid at bs) (begun size mid high at bs))
      ∙ total-append laws (map one (begun size low mid at bs)) (map one (begun size mid high at bs))

  -- where each leaf's sum is right, the sum of the leaves below a place is that of the blocks which begin there
  module _ (xs : List M) (right : (i : ℕ) → i < length xs → get_or xs i empty ≡ leaf_sum empty op size one at bs i) where
    pub sum-leaves : (n : ℕ) → n ≤ length xs → sum_of empty op xs 0 n ≡ total empty op (map one (begun size 0 (256 * n) at bs))
    unfolding sum_begun
    sum-leaves zero within = sum-none laws xs 0 ∙ sym (ap (λ r. total empty op (map one r)) (begun-none size 0 0 at bs (omega arith)))
    sum-leaves (suc n) within =
        let next : suc n ≡ n + 1 = omega arith in
        let end : 256 * (n + 1) ≡ 256 * n + 256 = omega arith in
        rw (next, end)
        (sum-more laws xs 0 n (omega arith) ∙ ap (λ s. op s (get_or xs n empty)) (sum-leaves n (omega arith)) ∙ ap (op (sum_begun 0 (256 * n))) (right n (omega arith)) ∙ sym (sum_begun-split 0 (256 * n) (256 * n + 256) (omega arith) (omega arith)))

-- The rows over a row.
use Rattle.std.proofs.Common.{◌≡◌, ℕ, zero, suc, ◌+◌, ◌/◌, ◌<◌, ◌≤◌, List, ◌++◌, length, take, drop, replicate, ap, ◌∙◌, arith, subst}
use Rattle.std.proofs.lemmas.List.{replicate-append-replicate, take-append-le, drop-append-le, take_all, drop_all, length-take}
use Rattle.sum_tree.specs.Monoids.{MonoidLaws}
use Rattle.sum_tree.specs.Rows.{IsOver, AreOver, row_over}
use Rattle.sum_tree.proofs.None.{over-nothing}

module _ {M : Type 0} (empty : M) (op : M → M → M) where
  -- the next row, and those over it
  pub next-over : (lower upper row : List M) (n : ℕ) → row ≡ take n upper → n ≡ (length lower + 7) / 8 → 8 < length lower → AreOver empty op lower upper → IsOver empty op lower row
  next-over lower upper row n front is many over = rw (front, is) (over 0 many)

  pub rest-over : (lower upper row rest : List M) (n : ℕ) → row ≡ take n upper → rest ≡ drop n upper → n ≡ (length lower + 7) / 8 → AreOver empty op lower upper → AreOver empty op row rest
  rest-over lower upper row rest n front back is over = rw (front, back, is) (λ k. over (suc k))

  pub all-over : (lower row rest : List M) → IsOver empty op lower row → AreOver empty op row rest → AreOver empty op lower (row ++ rest)
  all-over lower row rest here above =
      let n = here.places in
      let t : take ((length lower + 7) / 8) (row ++ rest) ≡ row = take-append-le ((length lower + 7) / 8) row rest (omega arith) ∙ take_all ((length lower + 7) / 8) row (omega arith) in
      let d : drop ((length lower + 7) / 8) (row ++ rest) ≡ rest = drop-append-le ((length lower + 7) / 8) row rest (omega arith) ∙ ap (λ xs. xs ++ rest) (drop_all ((length lower + 7) / 8) row (omega arith)) in
      elim [ zero ↦ λ many. rw t here | suc k ↦ rw (t, d) (above k) ]

  few-over : (lower upper : List M) (k : ℕ) → length lower ≤ 8 → length (row_over lower upper k) ≤ 8
  few-over lower upper zero few = few
  few-over lower upper (suc k) few = few-over (take ((length lower + 7) / 8) upper) (drop ((length lower + 7) / 8) upper) k (let e = length-take ((length lower + 7) / 8) upper in omega arith)

  -- over few sums lies none
  pub none-over : (lower upper : List M) → length lower ≤ 8 → AreOver empty op lower upper
  none-over lower upper few k many = let e = few-over lower upper k few in absurd (omega arith)

module _ {M : Type 0} {empty : M} {op : M → M → M} {fits : M → Type 0} (laws : MonoidLaws empty op fits) where
  -- over sums of nothing lie such
  pub nothing-over : (count n rest : ℕ) → n ≡ (count + 7) / 8 → AreOver empty op (replicate n empty) (replicate rest empty) → AreOver empty op (replicate count empty) (replicate (n + rest) empty)
  nothing-over count n rest is above =
      subst (λ xs. AreOver empty op (replicate count empty) xs) (replicate-append-replicate n rest empty)
      (all-over empty op (replicate count empty) (replicate n empty) (replicate rest empty) (over-nothing laws count n is) above)

-- A group of a row, and what a search in the row above it says of it.
use Rattle.std.proofs.Common.{◌≡◌, ℕ, ◌+◌, ◌*◌, Bool, IsTrue, List, get_or, sym, ap, ◌∙◌, arith, subst}
use Rattle.sum_tree.specs.Monoids.{MonoidLaws, sum_of}
use Rattle.sum_tree.specs.Rows.{IsOver, IsFirst}
use Rattle.sum_tree.proofs.Totals.{sum-over, sum-more}

module _ {M : Type 0} {empty : M} {op : M → M → M} {fits : M → Type 0} (laws : MonoidLaws empty op fits) (lower : List M) where
  module _ (passes : M → Bool) (upper : List M) (over : IsOver empty op lower upper) (g : ℕ) (s : M) (first : IsFirst empty op passes upper g s) where
    -- the sum before it
    pub group-before : s ≡ sum_of empty op lower 0 (8 * g)
    group-before = first.sum_is ∙ sum-over laws lower upper over 0 g (omega arith)

    -- with all of it a sum passes
    pub group-passes : IsTrue (passes (sum_of empty op lower 0 (8 * g + 8)))
    group-passes =
        let next : 8 * (g + 1) ≡ 8 * g + 8 = omega arith in
        let above = sum-over laws lower upper over 0 (g + 1) (omega arith) in
        subst (λ t. IsTrue (passes t)) (ap (λ t. op t (get_or upper g empty)) first.sum_is ∙ sym (sum-more laws upper 0 g (omega arith)) ∙ rw next at above) first.here

-- Ranges in which all bytes of runs are.
use Rattle.std.proofs.Common.{◌≡◌, ℕ, zero, suc, set, ◌+◌, ◌-◌, ◌≤◌, ◌<◌, ◌⊎◌, inl, inr, List, [], ◌∷◌, ◌++◌, length, take, Some, None, sym, subst, arith}
use Rattle.std.proofs.lemmas.Bool.{cases_lt}
use Rattle.std.proofs.lemmas.List.{take_more_set}
use Rattle.raw_region.specs.declared.runs.Run.{Run}
use Rattle.raw_region.specs.Runs.{AreWithin, IsIn as IsNoted, IsNext}
use Rattle.zone_records.specs.declared.structure.Written.{Written}
use Rattle.zone_records.specs.Written.{IsIn}

-- a byte that is in one of some ranges is in one of more
in-first : (ws : List Written) (w : Written) (i : ℕ) → IsIn ws i → IsIn (ws ++ w ∷ []) i
in-first [] w i is = absurd is
in-first (v ∷ ws) w i (inl here) = inl here
in-first (v ∷ ws) w i (inr there) = inr (in-first ws w i there)

in-last : (ws : List Written) (w : Written) (i : ℕ) → w.from ≤ i → i < w.from + w.count → IsIn (ws ++ w ∷ []) i
in-last [] w i low high = inl (low, high)
in-last (v ∷ ws) w i low high = inr (in-last ws w i low high)

-- what is in runs is among the bytes that they are among
pub within-in : (rs : List Run) (n i : ℕ) → AreWithin rs n → IsNoted rs i → i < n
within-in [] n i all is = absurd is
within-in (r ∷ rs) n i all (inl here) = (let end = all.0 in let below = here.1 in omega arith)
within-in (r ∷ rs) n i all (inr there) = within-in rs n i all.1 there

-- and so is what is found of them
pub within-next : (rs : List Run) (n from : ℕ) (run : Run) → AreWithin rs n → IsNext rs from (Some run) → run.end ≤ n
within-next rs n from run all next = let some = next.1 in let last = within-in rs n (run.end - 1) all (next.2 (run.end - 1) (omega arith) (omega arith)) in omega arith

-- each byte of the runs before an offset is in one of the first ranges
pub record AreListed (rs : List Run) (from count : ℕ) (ranges : List Written) : Type 0 where
  pub listed : (i : ℕ) → IsNoted rs i → i < from → IsIn (take count ranges) i

-- one more range
pub listed-more : (rs : List Run) (from count : ℕ) (ranges : List Written) (run : Run) (w : Written) → AreListed rs from count ranges → count < length ranges
    → IsNext rs from (Some run) → (w.from ≡ run.start) × (w.from + w.count ≡ run.end) → AreListed rs run.end (count + 1) (set ranges count w)
listed-more rs from count ranges run w before some next is = record {
  listed = λ i noted below. subst (λ (ws : List Written). IsIn ws i) (sym (take_more_set ranges count w some)) (elim (cases_lt i from) [
    | inl early ↦ in-first (take count ranges) w i (before.listed i noted early)
    | inr late ↦ elim (cases_lt i run.start) [
      | inl between ↦ absurd (next.3 i late between noted)
      | inr here ↦ (let a = is.0 in let b = is.1 in in-last (take count ranges) w i (omega arith) (omega arith))
    ]
  ]);
}

-- one range that has all bytes
pub one-listed : (rs : List Run) (n : ℕ) (ranges : List Written) (w : Written) → AreWithin rs n → 0 < length ranges → w.from ≡ 0 → w.count ≡ n → (i : ℕ) → IsNoted rs i → IsIn (take 1 (set ranges 0 w)) i
one-listed rs n [] w all some from count i noted = absurd (omega arith)
one-listed rs n (v ∷ ws) w all some from count i noted = let below = within-in rs n i all noted in inl (omega arith, omega arith)

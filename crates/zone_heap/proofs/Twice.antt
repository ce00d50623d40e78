-- A number of the handle table that is changed twice.
use Rattle.std.proofs.Common.{◌≡◌, ℕ, true, not, cond, List, [], ◌∷◌, refl, ap, sym, ◌∙◌, arith}
use Rattle.std.specs.Prelude.{filter, ◌==◌}
use Rattle.std.specs.Ordering.{nat_cmp}
use Rattle.std.specs.declared.cmp.Ordering.{Ordering}
use Rattle.std.specs.declared.cmp.Ordering.TheVariants.{Less, Equal, Greater}
use Rattle.std.specs.FinMap.{put}
use Rattle.std.specs.FinMap.Entries.{by_order}
use Rattle.std.proofs.lemmas.Bool.Decides.{nat_tests}
use Rattle.mac_base.specs.HandleTable.{HandleTable, Live, with_live, without}
use Rattle.block_bytes.proofs.Spans.{same_number}

-- a number ties with itself
same : (k : ℕ) → nat_cmp k k ≡ Equal
same k = grind (arith, nat_tests)

-- numbers that tie test as equal
tie : (k x : ℕ) → nat_cmp k x ≡ Equal → (x == k) ≡ true
tie k x h = grind (arith, nat_tests)

-- a number put in front of what it is already in front of
put-front : (k : ℕ) (v w : Live) (es : List (ℕ × Live)) (x : ℕ) → nat_cmp k x ≡ Equal → put nat_cmp k v ((x, w) ∷ es) ≡ (x, v) ∷ es
put-front k v w es x h = ap (λ o. by_order o ((k, v) ∷ (x, w) ∷ es) ((x, v) ∷ es) ((x, w) ∷ put nat_cmp k v es)) h

-- the second value stays
put-put : (k : ℕ) (v w : Live) (es : List (ℕ × Live)) → put nat_cmp k v (put nat_cmp k w es) ≡ put nat_cmp k v es
put-put k v w [] = put-front k v w [] k (same k)
put-put k v w (e ∷ es) =
    let out : Live → Ordering → List (ℕ × Live) = λ u o. by_order o ((k, u) ∷ e ∷ es) ((e.0, u) ∷ es) (e ∷ put nat_cmp k u es) in
    elim (nat_cmp k e.0) as (λ o. nat_cmp k e.0 ≡ o → put nat_cmp k v (out w o) ≡ out v o) [
      | Less ↦ λ h. put-front k v w (e ∷ es) k (same k)
      | Equal ↦ λ h. put-front k v w es e.0 h
      | Greater ↦ λ h. ap (λ o. by_order o ((k, v) ∷ e ∷ put nat_cmp k w es) ((e.0, v) ∷ put nat_cmp k w es) (e ∷ put nat_cmp k v (put nat_cmp k w es))) h ∙ ap (λ es. e ∷ es) (put-put k v w es)
    ] refl

-- the entries but for those of a number
abbrev others : ℕ → List (ℕ × Live) → List (ℕ × Live)
others k es = filter (λ (e : ℕ × Live). not (e.0 == k)) es

-- an entry of the number is left out
skipped : (k x : ℕ) (v : Live) (es : List (ℕ × Live)) → (x == k) ≡ true → others k ((x, v) ∷ es) ≡ others k es
skipped k x v es h = ap (λ b. cond (not b) ((x, v) ∷ others k es) (others k es)) h

-- what is taken out need not be put before
others-put : (k : ℕ) (v : Live) (es : List (ℕ × Live)) → others k (put nat_cmp k v es) ≡ others k es
others-put k v [] = skipped k k v [] (same_number k)
others-put k v (e ∷ es) = elim (nat_cmp k e.0) as (λ o. nat_cmp k e.0 ≡ o → others k (by_order o ((k, v) ∷ e ∷ es) ((e.0, v) ∷ es) (e ∷ put nat_cmp k v es)) ≡ others k (e ∷ es)) [
  | Less ↦ λ h. skipped k k v (e ∷ es) (same_number k)
  | Equal ↦ λ h. skipped k e.0 v es (tie k e.0 h) ∙ sym (skipped k e.0 e.1 es (tie k e.0 h))
  | Greater ↦ λ h. ap (λ rest. cond (not (e.0 == k)) (e ∷ rest) rest) (others-put k v es)
] refl

-- what a number is at last is what it is
pub with_live-twice : (x : ℕ) (l m : Live) (t : HandleTable) → with_live x l (with_live x m t) ≡ with_live x l t
with_live-twice x l m t = ap (λ live. record { live = live; lent = t.lent }) (put-put x l m t.live)

-- and it is not live if it is taken out at last
pub without-with_live : (x : ℕ) (l : Live) (t : HandleTable) → without x (with_live x l t) ≡ without x t
without-with_live x l t = ap (λ live. record { live = live; lent = t.lent }) (others-put x l t.live)

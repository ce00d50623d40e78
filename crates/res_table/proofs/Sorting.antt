-- Pairs that are sorted, whatever order they come in.
use Rattle.std.proofs.Common.{Less, Equal, Greater, ◌≡◌, refl, sym, ap, ◌∙◌, subst, arith, ℕ, zero, suc, ◌+◌, ◌<◌, List, [], ◌∷◌, length, get_or, set, Bool, true, false, ◌==◌, if◌then◌else◌}
use Rattle.std.specs.Prelude.{nat_lt, ◌||◌, ◌&&◌, cond}
use Rattle.std.specs.Ordering.{is_lt, nat_cmp, ordering_then}
use Rattle.std.specs.List.{swap}
use Rattle.std.specs.List.Sorted.{IsPermutation}
use Rattle.std.proofs.lemmas.List.{length-set, get_or-set_same, get_or-set_other}
use Rattle.std.proofs.lemmas.List.Sorted.{IsPermutation-keeps}
use Rattle.std.proofs.lemmas.Bool.Decides.{Decides-eqb, not_from_Decides}
use Rattle.res_table.specs.declared.keyed.Pair.{Pair}
use Rattle.res_table.specs.Keyed.{is_before, with_pair, without_pair, in_order, NoneBefore, AreInOrder}
use Rattle.res_table.proofs.Pairs.{commute, without_with, none_before_through}

-- a pair in place of another
exchange : (l : List Pair) (i : ℕ) (d x : Pair) → i < length l → with_pair (get_or l i d) (in_order (set l i x)) ≡ with_pair x (in_order l)
exchange [] i d x within = absurd (omega arith)
exchange (p ∷ ps) zero d x within = commute p x (in_order ps)
exchange (p ∷ ps) (suc i) d x within = commute (get_or ps i d) p (in_order (set ps i x)) ∙ ap (with_pair p) (exchange ps i d x (omega arith)) ∙ commute p x (in_order ps)

cancel : (p : Pair) (xs ys : List Pair) → with_pair p xs ≡ with_pair p ys → xs ≡ ys
cancel p xs ys same = sym (without_with p xs) ∙ ap (without_pair p) same ∙ without_with p ys

read_after : (l : List Pair) (i j : ℕ) (d : Pair) → j < length l → get_or (set l i (get_or l j d)) j d ≡ get_or l j d
read_after l i j d within = by (j == i) refl
  where
    by : (b : Bool) → (j == i) ≡ b → get_or (set l i (get_or l j d)) j d ≡ get_or l j d
    by true e = let same : j ≡ i = (Decides-eqb j i).0 e in ap (λ (k : ℕ). get_or (set l k (get_or l j d)) j d) (sym same) ∙ get_or-set_same l j (get_or l j d) d within
    by false e = get_or-set_other l i j (get_or l j d) d (not_from_Decides (j == i) (Decides-eqb j i) e)

swapped : (l : List Pair) (i j : ℕ) (d : Pair) → i < length l → j < length l → in_order (set (set l i (get_or l j d)) j (get_or l i d)) ≡ in_order l
swapped l i j d first second =
    let a = get_or l i d in let b = get_or l j d in let long = length-set l i b in
    cancel b (in_order (set (set l i b) j a)) (in_order l)
    (ap (λ (p : Pair). with_pair p (in_order (set (set l i b) j a))) (sym (read_after l i j d second)) ∙ exchange (set l i b) j d a (omega arith) ∙ exchange l i d b first)

swap_kept : (l : List Pair) (i j : ℕ) → i < length l → j < length l → in_order (swap l i j) ≡ in_order l
swap_kept [] i j first second = refl
swap_kept (d ∷ ds) i j first second = swapped (d ∷ ds) i j d first second

-- the order that pairs come in doesn't matter
permuted : (xs ys : List Pair) → IsPermutation xs ys → in_order ys ≡ in_order xs
permuted xs ys = IsPermutation-keeps xs (λ l. in_order l ≡ in_order xs) refl (λ l i j first second is. swap_kept l i j first second ∙ is) ys

-- and those that are in order stay
stays : (p : Pair) (ps : List Pair) → NoneBefore p ps → with_pair p ps ≡ p ∷ ps
stays p [] none = refl
stays p (q ∷ qs) none = ap (λ (b : Bool). if b then q ∷ with_pair p qs else p ∷ q ∷ qs) none.0

all_stay : (ps : List Pair) → AreInOrder ps → in_order ps ≡ ps
all_stay [] order = refl
all_stay (p ∷ ps) order = ap (with_pair p) (all_stay ps order.1) ∙ stays p ps order.0

rises : (ps : List Pair) → ((k : ℕ) (d : Pair) → k + 1 < length ps → is_before (get_or ps (k + 1) d) (get_or ps k d) ≡ false) → AreInOrder ps
rises [] up = tt
rises (p ∷ []) up = (tt, tt)
rises (p ∷ q ∷ ps) up = by (up 0 p (omega arith)) (rises (q ∷ ps) (λ k d within. later k d (up (suc k) d (omega arith))))
  where
    later : (k : ℕ) (d : Pair) → is_before (get_or (p ∷ q ∷ ps) (suc k + 1) d) (get_or (q ∷ ps) k d) ≡ false → is_before (get_or (q ∷ ps) (k + 1) d) (get_or (q ∷ ps) k d) ≡ false
    later k d is = let e : suc k + 1 ≡ suc (k + 1) = omega arith in subst (λ (n : ℕ). is_before (get_or (p ∷ q ∷ ps) n d) (get_or (q ∷ ps) k d) ≡ false) e is

    by : is_before q p ≡ false → AreInOrder (q ∷ ps) → AreInOrder (p ∷ q ∷ ps)
    by first rest = ((first, none_before_through p q ps first rest.0), rest)

-- as the pairs' own order says
by_cmp : (g h a b : ℕ) → is_lt (ordering_then (nat_cmp g h) (nat_cmp a b)) ≡ false → (nat_lt g h || (g == h && nat_lt a b)) ≡ false
by_cmp g h a b = by (nat_lt g h) (g == h) (nat_lt a b) (a == b)
  where
    by : (l e m f : Bool) → is_lt (ordering_then (cond l Less (cond e Equal Greater)) (cond m Less (cond f Equal Greater))) ≡ false → (l || (e && m)) ≡ false
    by true e m f is = is
    by false true true f is = is
    by false true false f is = refl
    by false false m f is = refl

pub told_by_cmp : (p q : Pair) → is_lt (ordering_then (nat_cmp p.key q.key) (nat_cmp p.place q.place)) ≡ false → is_before p q ≡ false
told_by_cmp p q is = by_cmp p.key q.key p.place q.place is

-- pairs that are sorted
pub sorted_are : (xs ys : List Pair) → IsPermutation xs ys → ((k : ℕ) (d : Pair) → k + 1 < length ys → is_before (get_or ys (k + 1) d) (get_or ys k d) ≡ false) → ys ≡ in_order xs
sorted_are xs ys same up = sym (all_stay ys (rises ys up)) ∙ permuted xs ys same

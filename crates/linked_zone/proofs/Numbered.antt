-- Things that are at numbers that rise, and a table that is read off them.
use Rattle.std.proofs.Common.{◌≡◌, ◌≢◌, ℕ, zero, suc, ◌<◌, Bool, true, false, eqb, get_or, List, [], ◌∷◌, length, map, flat_map, Option, Some, None, refl, ap, sym, ◌∙◌, subst, arith, Contains, ◌⊎◌, inl, inr}
use Rattle.std.specs.Ordering.{nat_cmp, is_lt}
use Rattle.std.specs.FinMap.{find, is_sorted}
use Rattle.std.specs.FinMap.Entries.{below_all}
use Rattle.std.proofs.lemmas.Bool.Decides.{nat_tests}
use Rattle.std.proofs.lemmas.Bool.{and_from, eqb-true}
use Rattle.mac_base.specs.HandleTable.{Live}
use Rattle.linked_zone.proofs.ReadNumbers.{IsRising, rising-above, entry_of, find-below, find-first, find-later}

-- ---- elements

module _ {A : Type 0} where
  -- an element is the first one or among the others
  pub cons_cases : (x : A) (xs : List A) (y : A) → Contains (x ∷ xs) y → (x ≡ y) ⊎ Contains xs y
  cons_cases x xs y c = by_place c.0 c.1 c.2
    where
      by_place : (k : ℕ) → k < length (x ∷ xs) → get_or (x ∷ xs) k y ≡ y → (x ≡ y) ⊎ Contains xs y
      by_place zero below is = inl is
      by_place (suc k) below is = inr (k, omega arith, is)

  pub first_is : (x : A) (xs : List A) → Contains (x ∷ xs) x
  first_is x xs = (0, omega arith, refl)

  pub later_is : (x : A) (xs : List A) (y : A) → Contains xs y → Contains (x ∷ xs) y
  later_is x xs y c = (suc c.0, (let below = c.1 in omega arith), c.2)

  pub none_is : (y : A) → Contains [] y → ⊥
  none_is y c = let below = c.1 in omega arith

-- what an element becomes is among what all become
pub Contains-mapped : {A B : Type 0} (f : A → B) (xs : List A) (x : A) → Contains xs x → Contains (map f xs) (f x)
Contains-mapped f [] x c = absurd (none_is x c)
Contains-mapped f (y ∷ ys) x c = elim (cons_cases y ys x c) [
  | inl is ↦ subst (λ n. Contains (f y ∷ map f ys) (f n)) is (first_is (f y) (map f ys))
  | inr later ↦ later_is (f y) (map f ys) (f x) (Contains-mapped f ys x later)
]

-- and is what one of them becomes
pub Contains-map : {A B : Type 0} (f : A → B) (xs : List A) (y : B) → Contains (map f xs) y → (x : A) × Contains xs x × (f x ≡ y)
Contains-map f [] y c = absurd (none_is y c)
Contains-map f (x ∷ xs) y c = elim (cons_cases (f x) (map f xs) y c) [
  | inl is ↦ (x, first_is x xs, is)
  | inr later ↦ (let rest = Contains-map f xs y later in (rest.0, later_is x xs rest.0 rest.1, rest.2))
]

-- ---- numbers

-- one thing is at a number
pub one-at : {A : Type 0} (low : ℕ) (xs : List (ℕ × A)) (x : ℕ) (a b : A) → IsRising low (map (λ e. e.0) xs) → Contains xs (x, a) → Contains xs (x, b) → a ≡ b
one-at low [] x a b rise c d = absurd (none_is (x, a) c)
one-at low (e ∷ es) x a b rise c d = elim (cons_cases e es (x, a) c) [
  | inl first ↦ elim (cons_cases e es (x, b) d) [
    | inl second ↦ ap (λ e. e.1) (sym first ∙ second)
    | inr later ↦ (let key = ap (λ e. e.0) first in let above = rising-above (suc e.0) (map (λ e. e.0) es) x rise.1 (Contains-mapped (λ e. e.0) es (x, b) later) in absurd (omega arith))
  ]
  | inr after ↦ elim (cons_cases e es (x, b) d) [
    | inl second ↦ (let key = ap (λ e. e.0) second in let above = rising-above (suc e.0) (map (λ e. e.0) es) x rise.1 (Contains-mapped (λ e. e.0) es (x, a) after) in absurd (omega arith))
    | inr later ↦ one-at (suc e.0) es x a b rise.1 after later
  ]
]

-- ---- tables

-- the entries of a table in which each number has what is said of it
abbrev pub entries : List (ℕ × Option Live) → List (ℕ × Live)
entries xs = flat_map (λ e. entry_of e.0 e.1) xs

-- a number below all is below all entries
entries-below : (x low : ℕ) (xs : List (ℕ × Option Live)) → x < low → IsRising low (map (λ e. e.0) xs) → below_all nat_cmp x (entries xs) ≡ true
entries-below x low [] less rise = refl
entries-below x low ((y, None) ∷ es) less rise = let first = rise.0 in entries-below x (suc y) es (omega arith) rise.1
entries-below x low ((y, Some l) ∷ es) less rise =
    let first = rise.0 in
    let here : is_lt (nat_cmp x y) ≡ true = (let below : x < y = omega arith in grind (arith, nat_tests)) in
    and_from _ _ here (entries-below x (suc y) es (omega arith) rise.1)

-- the entries are in order
pub entries-sorted : (low : ℕ) (xs : List (ℕ × Option Live)) → IsRising low (map (λ e. e.0) xs) → is_sorted nat_cmp (entries xs) ≡ true
entries-sorted low [] rise = refl
entries-sorted low ((y, None) ∷ es) rise = entries-sorted (suc y) es rise.1
entries-sorted low ((y, Some l) ∷ es) rise = and_from _ _ (entries-below y (suc y) es (omega arith) rise.1) (entries-sorted (suc y) es rise.1)

-- what is said of a number is found there
pub find-entries : (low : ℕ) (xs : List (ℕ × Option Live)) (x : ℕ) (o : Option Live) → IsRising low (map (λ e. e.0) xs) → Contains xs (x, o) → find nat_cmp x (entries xs) ≡ o
find-entries low [] x o rise c = absurd (none_is (x, o) c)
find-entries low ((y, None) ∷ es) x o rise c = elim (cons_cases (y, None) es (x, o) c) [
  | inl is ↦ (let key : y ≡ x = ap (λ e. e.0) is in find-below x (entries es) (entries-below x (suc y) es (omega arith) rise.1) ∙ ap (λ e. e.1) is)
  | inr later ↦ find-entries (suc y) es x o rise.1 later
]
find-entries low ((y, Some l) ∷ es) x o rise c = elim (cons_cases (y, Some l) es (x, o) c) [
  | inl is ↦ find-first x (y, l) (entries es) (sym (ap (λ e. e.0) is)) ∙ ap (λ e. e.1) is
  | inr later ↦ (
      let above = rising-above (suc y) (map (λ e. e.0) es) x rise.1 (Contains-mapped (λ e. e.0) es (x, o) later) in
      find-later x (y, l) (entries es) (omega arith) ∙ find-entries (suc y) es x o rise.1 later
      )
]

-- what is found was said
pub found-entries : (low : ℕ) (xs : List (ℕ × Option Live)) (x : ℕ) (l : Live) → IsRising low (map (λ e. e.0) xs) → find nat_cmp x (entries xs) ≡ Some l → Contains xs (x, Some l)
found-entries low [] x l rise found = absurd (cc found)
found-entries low ((y, None) ∷ es) x l rise found = later_is (y, None) es (x, Some l) (found-entries (suc y) es x l rise.1 found)
found-entries low ((y, Some m) ∷ es) x l rise found = by_test (eqb x y) refl (found-entries (suc y) es x l rise.1)
  where
    by_test : (b : Bool) → eqb x y ≡ b → (find nat_cmp x (entries es) ≡ Some l → Contains es (x, Some l)) → Contains ((y, Some m) ∷ es) (x, Some l)
    by_test true is rest =
        let same : x ≡ y = eqb-true x y is in
        let what : Some m ≡ Some l = sym (find-first x (y, m) (entries es) same) ∙ found in
        subst (λ e. Contains ((y, Some m) ∷ es) e) (λ i. (sym same i, what i)) (first_is (y, Some m) es)
    by_test false is rest =
        let other : x ≢ y = grind (arith, nat_tests) in
        later_is (y, Some m) es (x, Some l) (rest (sym (find-later x (y, m) (entries es) other) ∙ found))

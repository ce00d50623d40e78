-- Which bytes are here, as ranges are lent and come back.
use Rattle.std.proofs.Common.{◌≡◌, ℕ, ◌+◌, ◌<◌, ◌≤◌, ◌⊎◌, Bool, true, false, not, ◌&&◌, ◌||◌, ◌==◌, nat_le, nat_lt, List, [], ◌∷◌, refl, sym, ap, subst, ◌∙◌, inl, inr, ⊎_elim, true≢false, if◌then◌else◌, arith, lt-ltb, le-ltb, le-leb, leb-true, eqb-true, eq-eqb}
use Rattle.std.proofs.Math.Bool.{and-false}
use borrow.Author.Tests.{lt-leb}
use Rattle.raw_region.specs.Span.{Span, covers, is_lent, is_here, IsApart, AllApart, IsFree, is_apart, is_free, are_loans, IsListed, without}

-- ---- truth values
-- a proof by whether b holds
pub by_case : {X : Type 0} (b : Bool) → (b ≡ true → X) → (b ≡ false → X) → X
by_case true t f = t refl
by_case false t f = f refl

-- the first of two that both hold
pub left : (x y : Bool) → (x && y) ≡ true → x ≡ true
left true y e = refl
left false y e = absurd (true≢false (sym e))

-- the second of two that both hold
pub right : (x y : Bool) → (x && y) ≡ true → y ≡ true
right true y e = e
right false y e = absurd (true≢false (sym e))

both : {x y : Bool} → x ≡ true → y ≡ true → (x && y) ≡ true
both e e' = λ i. e i && e' i

either : {x y : Bool} → (x ≡ true) ⊎ (y ≡ true) → (x || y) ≡ true
either {x = true} {y = y} c = refl
either {x = false} {y = y} c = ⊎_elim (λ e. absurd (true≢false (sym e))) (λ e. e) c

one_of : (x y : Bool) → (x || y) ≡ true → (x ≡ true) ⊎ (y ≡ true)
one_of true y e = inl refl
one_of false y e = inr e

-- ---- a range
outside : (s : Span) (k : ℕ) → (k < s.0) ⊎ (s.0 + s.1 ≤ k) → covers s k ≡ false
outside s k off = ⊎_elim (λ low. below (lt-leb s.0 k low)) (λ high. above (le-ltb k (s.0 + s.1) high)) off
  where
    above : nat_lt k (s.0 + s.1) ≡ false → covers s k ≡ false
    above e = ap (λ (b : Bool). nat_le s.0 k && b) e ∙ and-false (nat_le s.0 k)

    below : nat_le s.0 k ≡ false → covers s k ≡ false
    below e = ap (λ (b : Bool). b && nat_lt k (s.0 + s.1)) e

inside : (s : Span) (k : ℕ) → s.0 ≤ k → k < s.0 + s.1 → covers s k ≡ true
inside s k p q = both (le-leb s.0 k p) (lt-ltb k (s.0 + s.1) q)

-- a byte of a range that lies apart is not covered
apart_not_covered : (s : Span) (at n k : ℕ) → IsApart s at n → at ≤ k → k < at + n → covers s k ≡ false
apart_not_covered s at n k off p q = outside s k (⊎_elim (λ low. inr (omega arith)) (λ high. inl (omega arith)) off)

turned : (s t : Span) → IsApart s t.0 t.1 → IsApart t s.0 s.1
turned s t off = ⊎_elim inr inl off

of_apart : (s : Span) (at n : ℕ) → is_apart s at n ≡ true → IsApart s at n
of_apart s at n e = ⊎_elim (λ p. inl (leb-true (s.0 + s.1) at p)) (λ p. inr (leb-true (at + n) s.0 p)) (one_of (nat_le (s.0 + s.1) at) (nat_le (at + n) s.0) e)

to_apart : (s : Span) (at n : ℕ) → IsApart s at n → is_apart s at n ≡ true
to_apart s at n off = either (⊎_elim (λ p. inl (le-leb (s.0 + s.1) at p)) (λ p. inr (le-leb (at + n) s.0 p)) off)

of_free : (ss : List Span) (at n : ℕ) → is_free ss at n ≡ true → AllApart ss at n
of_free [] at n e = tt
of_free (s ∷ ss) at n e = (of_apart s at n (left (is_apart s at n) (is_free ss at n) e), of_free ss at n (right (is_apart s at n) (is_free ss at n) e))

to_free : (ss : List Span) (at n : ℕ) → AllApart ss at n → is_free ss at n ≡ true
to_free [] at n free = refl
to_free (s ∷ ss) at n free = both (to_apart s at n free.0) (to_free ss at n free.1)

not_lent : (ss : List Span) (at n k : ℕ) → AllApart ss at n → at ≤ k → k < at + n → is_lent ss k ≡ false
not_lent [] at n k free p q = refl
not_lent (s ∷ ss) at n k free p q = (λ i. apart_not_covered s at n k free.0 p q i || not_lent ss at n k free.1 p q i)

-- the bytes of a free range are here
pub free_here : (ss : List Span) (at n : ℕ) → IsFree ss at n → (k : ℕ) → at ≤ k → k < at + n → is_here ss k ≡ true
free_here ss at n free k p q = ap not (not_lent ss at n k free.apart p q)

-- ---- one more range is lent
module _ (ss : List Span) (at n : ℕ) where
  -- its bytes are no longer here
  pub gone_inside : (k : ℕ) → at ≤ k → k < at + n → is_here ((at, n) ∷ ss) k ≡ false
  gone_inside k p q = ap (λ (b : Bool). not (b || is_lent ss k)) (inside (at, n) k p q)

  -- the others are as before
  pub gone_outside : (k : ℕ) → (k < at) ⊎ (at + n ≤ k) → is_here ss k ≡ is_here ((at, n) ∷ ss) k
  gone_outside k off = ap (λ (b : Bool). not (b || is_lent ss k)) (sym (outside (at, n) k off))

  -- the ranges still lie apart
  pub more_loans : (len : ℕ) → at + n ≤ len → IsFree ss at n → are_loans ss len ≡ true → are_loans ((at, n) ∷ ss) len ≡ true
  more_loans len fits free loans = both (le-leb (at + n) len fits) (both (to_free ss at n free.apart) loans)

-- ---- one range comes back
abbrev same_span : Span → Span → Bool
same_span s t = (t.0 == s.0) && (t.1 == s.1)

is_same : (s t : Span) → same_span s t ≡ true → t ≡ s
is_same s t e = λ i. (eqb-true t.0 s.0 (left (t.0 == s.0) (t.1 == s.1) e) i, eqb-true t.1 s.1 (right (t.0 == s.0) (t.1 == s.1) e) i)

-- without s: by whether the head is it
pub head_case : {X : Type 0} (s t : Span) (ss : List Span) → (t ≡ s → without s (t ∷ ss) ≡ ss → X) → (same_span s t ≡ false → without s (t ∷ ss) ≡ t ∷ without s ss → X) → X
head_case s t ss one other = by_case (same_span s t) (λ e. one (is_same s t e) (ap (λ (b : Bool). if b then ss else t ∷ without s ss) e)) (λ e. other e (ap (λ (b : Bool). if b then ss else t ∷ without s ss) e))

-- a range that isn't the same is another
pub is_other : (s t : Span) → same_span s t ≡ false → t ≡ s → ⊥
is_other s t e q = true≢false (sym (both (eq-eqb t.0 s.0 (ap (λ (x : Span). x.0) q)) (eq-eqb t.1 s.1 (ap (λ (x : Span). x.1) q))) ∙ e)

listed_in : (s t : Span) (ss : List Span) → same_span s t ≡ false → IsListed (t ∷ ss) s → IsListed ss s
listed_in s t ss e listed = ⊎_elim (λ q. absurd (is_other s t e q)) (λ l. l) listed

-- a listed range lies apart from a range that is free
pub listed_apart : (ss : List Span) (s : Span) (at n : ℕ) → AllApart ss at n → IsListed ss s → IsApart s at n
listed_apart [] s at n free listed = absurd listed
listed_apart (t ∷ ss) s at n free listed = ⊎_elim (λ q. subst (λ (x : Span). IsApart x at n) q free.0) (λ l. listed_apart ss s at n free.1 l) listed

-- a range that is free stays so when one comes back
pub free_without : (ss : List Span) (s : Span) (at n : ℕ) → AllApart ss at n → AllApart (without s ss) at n
free_without [] s at n free = tt
free_without (t ∷ ss) s at n free = head_case s t ss (λ q e. subst (λ (l : List Span). AllApart l at n) (sym e) free.1) (λ d e. subst (λ (l : List Span). AllApart l at n) (sym e) (free.0, free_without ss s at n free.1))

module _ (s : Span) (len : ℕ) where
  -- a range that is listed lies inside
  pub within_len : (ss : List Span) → are_loans ss len ≡ true → IsListed ss s → s.0 + s.1 ≤ len
  within_len [] loans listed = absurd listed
  within_len (t ∷ ss) loans listed =
      let first = leb-true (t.0 + t.1) len (left (nat_le (t.0 + t.1) len) (is_free ss t.0 t.1 && are_loans ss len) loans) in
      let others = right (nat_le (t.0 + t.1) len) (is_free ss t.0 t.1 && are_loans ss len) loans in
      ⊎_elim (λ q. subst (λ (x : Span). x.0 + x.1 ≤ len) q first) (λ l. within_len ss (right (is_free ss t.0 t.1) (are_loans ss len) others) l) listed

  -- without it the others still lie apart
  pub fewer_loans : (ss : List Span) → are_loans ss len ≡ true → are_loans (without s ss) len ≡ true
  fewer_loans [] loans = refl
  fewer_loans (t ∷ ss) loans =
      let fits = left (nat_le (t.0 + t.1) len) (is_free ss t.0 t.1 && are_loans ss len) loans in
      let others = right (nat_le (t.0 + t.1) len) (is_free ss t.0 t.1 && are_loans ss len) loans in
      let free = left (is_free ss t.0 t.1) (are_loans ss len) others in let rest = right (is_free ss t.0 t.1) (are_loans ss len) others in
      head_case s t ss (λ q e. ap (λ (l : List Span). are_loans l len) e ∙ rest)
      (λ d e. ap (λ (l : List Span). are_loans l len) e ∙ both fits (both (to_free (without s ss) t.0 t.1 (free_without ss s t.0 t.1 (of_free ss t.0 t.1 free))) (fewer_loans ss rest)))

  -- a byte outside the range is lent as before
  pub lent_without : (ss : List Span) (k : ℕ) → covers s k ≡ false → is_lent ss k ≡ is_lent (without s ss) k
  lent_without [] k off = refl
  lent_without (t ∷ ss) k off = head_case s t ss (λ q e. ap (λ (x : Span). covers x k || is_lent ss k) q ∙ ap (λ (b : Bool). b || is_lent ss k) off ∙ ap (λ (l : List Span). is_lent l k) (sym e))
      (λ d e. ap (λ (b : Bool). covers t k || b) (lent_without ss k off) ∙ ap (λ (l : List Span). is_lent l k) (sym e))

  -- a byte outside the range is here as before
  pub back_outside : (ss : List Span) (k : ℕ) → (k < s.0) ⊎ (s.0 + s.1 ≤ k) → is_here ss k ≡ is_here (without s ss) k
  back_outside ss k off = ap not (lent_without ss k (outside s k off))

  -- its own bytes are lent no longer
  pub back_inside : (ss : List Span) → are_loans ss len ≡ true → IsListed ss s → (k : ℕ) → s.0 ≤ k → k < s.0 + s.1 → is_lent (without s ss) k ≡ false
  back_inside [] loans listed k p q = refl
  back_inside (t ∷ ss) loans listed k p q =
      let others = right (nat_le (t.0 + t.1) len) (is_free ss t.0 t.1 && are_loans ss len) loans in
      let free = of_free ss t.0 t.1 (left (is_free ss t.0 t.1) (are_loans ss len) others) in let rest = right (is_free ss t.0 t.1) (are_loans ss len) others in
      head_case s t ss
      (λ same e. ap (λ (l : List Span). is_lent l k) e ∙ not_lent ss s.0 s.1 k (subst (λ (x : Span). AllApart ss x.0 x.1) same free) p q)
      (λ d e. let inner = listed_in s t ss d listed in
      ap (λ (l : List Span). is_lent l k) e ∙ (λ i. apart_not_covered t s.0 s.1 k (turned s t (listed_apart ss s t.0 t.1 free inner)) p q i || back_inside ss rest inner k p q i))

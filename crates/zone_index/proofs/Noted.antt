-- What is remembered once something is noted.
use Rattle.std.proofs.Common.{◌≡◌, ℕ, zero, suc, ◌+◌, ◌*◌, List, [], ◌∷◌, ◌++◌, set, slice_get, Option, Some, None, inl, inr, eqb, true, false, refl, ap, sym, ◌∙◌, subst, arith}
use Rattle.std.specs.Prelude.{◌⊎◌, SomeIff}
use Rattle.std.specs.Option.{ForSome}
use Rattle.std.proofs.lemmas.Bool.{false≢true, eqb-true}
use Rattle.zone_laws.proofs.Tables.{eqb_same}
use Rattle.zone_index.specs.declared.lengths.Lengths.{Lengths}
use Rattle.zone_index.specs.Lengths.{IsNoted, Tells}

-- two numbers are one, or not
pub one-or-two : (x y : ℕ) → (y ≡ x) ⊎ (y ≡ x → ⊥)
one-or-two x y = elim (eqb y x) as (λ b. eqb y x ≡ b → (y ≡ x) ⊎ (y ≡ x → ⊥)) [
  | true ↦ λ same. inl (eqb-true y x same)
  | false ↦ λ apart. inr (λ same. false≢true (sym apart ∙ (ap (λ k. eqb k x) same ∙ eqb_same x)))
] refl

-- a place of which nothing is remembered says nothing
pub get-added : (xs : List (Option ℕ)) (p n : ℕ) → slice_get (xs ++ None ∷ []) p ≡ Some (Some n) → slice_get xs p ≡ Some (Some n)
get-added [] zero n there = absurd (cc there)
get-added [] (suc p) n there = there
get-added (x ∷ xs) zero n there = there
get-added (x ∷ xs) (suc p) n there = get-added xs p n there

-- what is read once a place is written
pub get-written : (xs : List (Option ℕ)) (i : ℕ) (v : Option ℕ) (p n : ℕ) → slice_get (set xs i v) p ≡ Some (Some n) → ((p ≡ i) × (v ≡ Some n)) ⊎ ((p ≡ i → ⊥) × (slice_get xs p ≡ Some (Some n)))
get-written [] i v p n there = absurd (cc there)
get-written (x ∷ xs) zero v zero n there = inl (refl, cc there)
get-written (x ∷ xs) zero v (suc p) n there = inr (omega arith, there)
get-written (x ∷ xs) (suc i) v zero n there = inr (omega arith, there)
get-written (x ∷ xs) (suc i) v (suc p) n there = elim (get-written xs i v p n there) [
  | inl here ↦ let same = here.0 in inl (omega arith, here.1)
  | inr other ↦ inr ((λ same. other.0 (omega (arith, same))), other.1)
]

-- where nothing is said of x, nothing has to be noted
pub noted-out : (l : Lengths) (x v : ℕ) → ((n : ℕ) → Tells l x n → ⊥) → IsNoted x v l l
noted-out l x v none y n t = elim (one-or-two x y) [
  | inl same ↦ absurd (none n (subst (λ y. Tells l y n) same t))
  | inr other ↦ inr (other, t)
]

-- its place is written, with so many bytes or with nothing
pub noted-in : (old new : Lengths) (x v place : ℕ) (here : Option ℕ) → x ≡ old.base + 4 * place → new.base ≡ old.base → new.places.items ≡ set old.places.items place here → ForSome here (λ n. n ≡ v) → IsNoted x v old new
noted-in old new x v place here there base written value y n t =
    let at = t.here in
    elim (get-written old.places.items place here t.place n (ap (λ xs. slice_get xs t.place) (sym written) ∙ t.told)) [
      | inl same ↦ let same-place = same.0 in inl (omega arith, value n same.1)
      | inr other ↦ inr ((λ same. other.0 (omega arith)), record { place = t.place; here = (omega arith); told = other.1 })
    ]

-- what is written where a length may be too large is the length, or nothing
pub some_only : (P : Type 0) (o : Option ℕ) (v : ℕ) → SomeIff o P v → ForSome o (λ n. n ≡ v)
some_only P o v iff n some = (subst (λ o. SomeIff o P v) some iff).1

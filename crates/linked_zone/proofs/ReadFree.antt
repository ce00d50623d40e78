-- The free slots are read off as a chain: each names the next.
use Rattle.std.proofs.Common.{◌≡◌, ◌≢◌, ℕ, zero, suc, ◌≤◌, true, false, cond, eqb, List, [], ◌∷◌, length, map, refl, ap, sym, ◌∙◌, arith, Contains, ◌⊎◌, inl, inr}
use Rattle.std.specs.Prelude.{slice_index, nat_eq}
use Rattle.std.specs.List.{IsDistinct, AllByRecursion}
use Rattle.std.specs.Cmp.{IsEquivalence}
use Rattle.std.proofs.lemmas.Bool.Decides.{nat_tests}
use Rattle.std.proofs.lemmas.Map.Made.{length-le_from_is_member}
use Rattle.std.proofs.lemmas.Map.Views.{list_any-from_Contains, Contains-from_any}
use Rattle.std.proofs.lemmas.Bool.{eqb-true}
use Rattle.zone_laws.proofs.Tables.{eqb_same, eqb_swap}
use Rattle.zone_laws.proofs.SlotPlaces.{Contains-cons_cases, Contains-here, Contains-later, Contains-none}
use Rattle.zone_records.specs.declared.slot.Slot.{Slot}
use Rattle.linked_zone.specs.Owned.{next_free}
use Rattle.zone_records.specs.Slots.{next_said, next_named, chain}

-- equality of numbers is one
equal_numbers : IsEquivalence eqb
equal_numbers = record { refl = eqb_same; symm = eqb_swap; congr = λ x y z same. ap (λ n. eqb n z) (eqb-true x y same) }

-- numbers that differ, each of them among others, are at most as many
pub length-among : (xs ys : List ℕ) → IsDistinct nat_eq xs → ((x : ℕ) → Contains xs x → Contains ys x) → length xs ≤ length ys
length-among xs ys once among = length-le_from_is_member equal_numbers xs ys once (λ q c. list_any-from_Contains equal_numbers q ys (among q (Contains-from_any eqb-true q xs c)))

-- what is at each of some numbers names the next
pub next-named : (f : ℕ → Slot) (xs : List ℕ) (x : ℕ) → Contains xs x → next_named x (map (λ a. (a, f a)) xs) ≡ next_said (f x)
next-named f [] x c = absurd (Contains-none x c)
next-named f (y ∷ ys) x c = elim (eqb y x) as (λ b. eqb y x ≡ b → cond b (next_said (f y)) (next_named x (map (λ a. (a, f a)) ys)) ≡ next_said (f x)) [
  | true ↦ λ test. ap (λ n. next_said (f n)) (eqb-true y x test)
  | false ↦ λ test. next-named f ys x (later test (Contains-cons_cases y ys x c))
] refl
  where
    later : eqb y x ≡ false → (y ≡ x) ⊎ Contains ys x → Contains ys x
    later test (inl is) = absurd (cc (sym test ∙ ap (λ n. eqb n x) is ∙ eqb_same x))
    later test (inr c) = c

-- no later number is the first of numbers that differ
pub others_apart : (x : ℕ) (xs : List ℕ) (y : ℕ) → AllByRecursion (λ z. nat_eq x z ≡ false) xs → Contains xs y → eqb x y ≡ false
others_apart x [] y all c = absurd (Contains-none y c)
others_apart x (z ∷ zs) y all c = elim (Contains-cons_cases z zs y c) [
  | inl is ↦ ap (λ n. eqb x n) (sym is) ∙ all.0
  | inr later ↦ others_apart x zs y all.1 later
]

-- where each number's slot names the next, the chain from the first is all of them
pub chain-all : (n : ℕ) (all : List (ℕ × Slot)) (xs : List ℕ) → IsDistinct nat_eq xs → length xs ≤ n
    → ((x : ℕ) → Contains xs x → (x ≢ 0) × (next_named x all ≡ next_free xs x)) → chain n all (slice_index xs 0) ≡ xs
unfolding IsDistinct
chain-all zero all [] once short says = refl
chain-all (suc n) all [] once short says = refl
chain-all zero all (x ∷ xs) once short says = absurd (omega arith)
chain-all (suc n) all (x ∷ xs) once short says =
    let here = says x (Contains-here x xs) in
    let some : eqb x 0 ≡ false = (let not_zero = here.0 in grind (arith, nat_tests)) in
    let next : next_named x all ≡ slice_index xs 0 = here.1 ∙ ap (λ b. cond b (slice_index xs 0) (next_free xs x)) (eqb_same x) in
    let rest = chain-all n all xs once.1 (omega arith) (λ y c. let there = says y (Contains-later x xs y c) in
    (there.0, there.1 ∙ ap (λ b. cond b (slice_index xs 0) (next_free xs y)) (others_apart x xs y once.0 c))) in
    ap (λ b. cond b [] (x ∷ chain n all (next_named x all))) some
    ∙ ap (λ m. x ∷ chain n all m) next ∙ ap (λ ys. x ∷ ys) rest

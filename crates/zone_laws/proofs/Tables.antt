-- What the table has at each number once one of them is given, changed or taken out.
use Rattle.std.proofs.Common.{◌≡◌, ℕ, Bool, true, false, not, cond, T, eqb, Some, None, Option, refl, ap, sym, ◌∙◌, subst, arith, IsTrue}
use Rattle.std.specs.Ordering.{nat_cmp, eq_by_cmp}
use Rattle.std.specs.declared.cmp.Ordering.TheVariants.{Equal}
use Rattle.std.specs.Cmp.{nat_cmp_total}
use Rattle.std.specs.FinMap.Entries.{find-put, find-where_key, is_sorted, is_sorted-put, is_sorted-where_key}
use Rattle.std.proofs.lemmas.Bool.Decides.{nat_tests}
use Rattle.std.proofs.lemmas.Bool.{eqb-true}
use Rattle.mac_base.specs.HandleTable.{HandleTable, Live, live_at, with_live, without, is_full, is_handle, is_pointer}

-- the two tests of numbers are one
same_test : (a b : ℕ) → eq_by_cmp nat_cmp b a ≡ eqb b a
same_test a b = grind (arith, nat_tests)

-- a number equals itself
pub eqb_same : (a : ℕ) → eqb a a ≡ true
eqb_same a = grind (arith, nat_tests)

-- the test of two numbers goes both ways
pub eqb_swap : (a b : ℕ) → eqb a b ≡ eqb b a
eqb_swap a b = grind (arith, nat_tests)

-- x has what it is given, and any other number what it had
pub live_at-with_live : (x : ℕ) (l : Live) (t : HandleTable) (y : ℕ) → live_at (with_live x l t) y ≡ cond (eqb y x) (Some l) (live_at t y)
live_at-with_live x l t y = find-put nat_cmp nat_cmp_total y x l t.live ∙ ap (λ b. cond b (Some l) (live_at t y)) (same_test x y)

tie : (q x : ℕ) → nat_cmp q x ≡ Equal → x ≡ q
tie q x h = grind (arith, nat_tests)

other_way : (b : Bool) (o : Option Live) → cond (not b) o None ≡ cond b None o
other_way true o = refl
other_way false o = refl

-- x has nothing once it is taken out, and any other number what it had
pub live_at-without : (x : ℕ) (t : HandleTable) (y : ℕ) → live_at (without x t) y ≡ cond (eqb y x) None (live_at t y)
live_at-without x t y = find-where_key nat_cmp (λ k. not (eqb k x)) y (λ k h. ap (λ n. not (eqb n x)) (tie y k h)) t.live ∙ other_way (eqb y x) (live_at t y)

pub tested : (b : Bool) → b ≡ true → T b
tested b h = subst T (sym h) tt

true_of : (b : Bool) → T b → b ≡ true
true_of true h = refl
true_of false h = absurd h

-- the numbers still rise
pub in_order-with_live : (x : ℕ) (l : Live) (t : HandleTable) → IsTrue (is_sorted nat_cmp t.live) → IsTrue (is_sorted nat_cmp (with_live x l t).live)
in_order-with_live x l t h = true_of _ (is_sorted-put nat_cmp nat_cmp_total x l t.live (tested _ h))

-- and they rise without one of them
pub in_order-without : (x : ℕ) (t : HandleTable) → IsTrue (is_sorted nat_cmp t.live) → IsTrue (is_sorted nat_cmp (without x t).live)
in_order-without x t h = true_of _ (is_sorted-where_key nat_cmp (λ k. not (eqb k x)) t.live (tested _ h))

-- two tables have the same at each number but x
pub record AgreeBut (x : ℕ) (old new : HandleTable) : Type 0 where
  pub others : (y : ℕ) → eqb y x ≡ false → live_at new y ≡ live_at old y

-- a table that was given x agrees with the old one but at x
pub with_live_agrees : (x : ℕ) (l : Live) (t : HandleTable) → AgreeBut x t (with_live x l t)
with_live_agrees x l t = record { others = λ y h. live_at-with_live x l t y ∙ ap (λ b. cond b (Some l) (live_at t y)) h }

-- so does a table without x
pub without_agrees : (x : ℕ) (t : HandleTable) → AgreeBut x t (without x t)
without_agrees x t = record { others = λ y h. live_at-without x t y ∙ ap (λ b. cond b None (live_at t y)) h }

-- what x has
pub live_at-with_live_same : (x : ℕ) (l : Live) (t : HandleTable) → live_at (with_live x l t) x ≡ Some l
live_at-with_live_same x l t = live_at-with_live x l t x ∙ ap (λ b. cond b (Some l) (live_at t x)) (eqb_same x)

-- x has nothing once it is taken out
pub live_at-without_same : (x : ℕ) (t : HandleTable) → live_at (without x t) x ≡ None
live_at-without_same x t = live_at-without x t x ∙ ap (λ b. cond b None (live_at t x)) (eqb_same x)

-- what holds at x and at each other number holds at each
pub by_number : (P : ℕ → Type 0) (x : ℕ) → P x → ((y : ℕ) → eqb y x ≡ false → P y) → (y : ℕ) → P y
by_number P x here others y = elim (eqb y x) as (λ b. eqb y x ≡ b → P y) [ true ↦ λ h. subst P (sym (eqb-true y x h)) here | false ↦ λ h. others y h ] refl

-- a number that is not live is neither handle nor pointer, and one that is neither is not live
pub not_live : (t : HandleTable) (x : ℕ) → is_handle t x ≡ false → is_pointer t x ≡ false → live_at t x ≡ None
not_live t x = grind arith

-- a handle is no pointer
pub handle_no_pointer : (t : HandleTable) (x : ℕ) → is_handle t x ≡ true → is_pointer t x ≡ false
handle_no_pointer t x = grind arith

-- a pointer is no handle
pub pointer_no_handle : (t : HandleTable) (x : ℕ) → is_pointer t x ≡ true → (is_handle t x ≡ false) × (is_full t x ≡ false)
pointer_no_handle t x = grind arith

-- a handle with a block is a handle
pub full_handle : (t : HandleTable) (x : ℕ) → is_full t x ≡ true → is_handle t x ≡ true
full_handle t x = grind arith

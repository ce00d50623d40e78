-- What is in a success.
use Rattle.std.proofs.Common.{◌≡◌, ℕ, Option, Some, Result, Ok, ap}

pub same_ok : {A : Type 0} (x y : A) → ◌≡◌ {A = Result A ℕ} (Ok x) (Ok y) → x ≡ y
same_ok x y is = cc

pub ok_pair : {A B : Type 0} (p q : A × B) → ◌≡◌ {A = Result (A × B) ℕ} (Ok p) (Ok q) → (p.0 ≡ q.0) × (p.1 ≡ q.1)
ok_pair p q is = let e = same_ok p q is in (ap (λ z. z.0) e, ap (λ z. z.1) e)

pub ok_three : {A B C : Type 0} (p q : A × B × C) → ◌≡◌ {A = Result (A × B × C) ℕ} (Ok p) (Ok q) → (p.0 ≡ q.0) × (p.1 ≡ q.1) × (p.2 ≡ q.2)
ok_three p q is = let e = same_ok p q is in (ap (λ z. z.0) e, ap (λ z. z.1) e, ap (λ z. z.2) e)

pub same_some : {A : Type 0} (x y : A) → ◌≡◌ {A = Option A} (Some x) (Some y) → x ≡ y
same_some x y is = cc

pub some_pair : {A B : Type 0} (p q : A × B) → ◌≡◌ {A = Option (A × B)} (Some p) (Some q) → (p.0 ≡ q.0) × (p.1 ≡ q.1)
some_pair p q is = let e = same_some p q is in (ap (λ z. z.0) e, ap (λ z. z.1) e)

-- Ranges of which no byte is lent: what a layer above shows at each call.
use Rattle.std.proofs.Common.{ℕ, ◌+◌, ◌-◌, ◌<◌, ◌≤◌, List, [], ◌∷◌, inl, inr, ⊎_elim, arith}
use Rattle.raw_region.specs.Span.{Span, IsApart, AllApart, IsFree}

apart_within : (ss : List Span) (at n a m : ℕ) → AllApart ss at n → at ≤ a → a + m ≤ at + n → AllApart ss a m
apart_within [] at n a m free p q = tt
apart_within (s ∷ ss) at n a m free p q = (⊎_elim (λ l. inl (omega arith)) (λ h. inr (omega arith)) free.0, apart_within ss at n a m free.1 p q)

-- a part of a free range is free
pub free_within : {ss : List Span} {at n : ℕ} → IsFree ss at n → (a m : ℕ) → at ≤ a → a + m ≤ at + n → IsFree ss a m
free_within {ss = ss} {at = at} {n = n} free a m p q = record { apart = apart_within ss at n a m free.apart p q }

hull_apart : (s : Span) (a b n : ℕ) → IsApart s a n → IsApart s b n → a ≤ b → b < a + n → IsApart s a (b - a + n)
hull_apart s a b n off off' p q = ⊎_elim inl (λ h. ⊎_elim (λ l'. inl (omega arith)) (λ h'. inr (omega arith)) off') off

apart_hull : (ss : List Span) (a b n : ℕ) → AllApart ss a n → AllApart ss b n → a ≤ b → b < a + n → AllApart ss a (b - a + n)
apart_hull [] a b n free free' p q = tt
apart_hull (s ∷ ss) a b n free free' p q = (hull_apart s a b n free.0 free'.0 p q, apart_hull ss a b n free.1 free'.1 p q)

-- two free ranges that overlap, from the start of the low one to the end of the high one
pub free_hull : (ss : List Span) (a b n : ℕ) → IsFree ss a n → IsFree ss b n → a ≤ b → b < a + n → IsFree ss a (b - a + n)
free_hull ss a b n free free' p q = record { apart = apart_hull ss a b n free.apart free'.apart p q }

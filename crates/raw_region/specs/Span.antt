-- Ranges of a region's bytes.
use Rattle.std.specs.Prelude.{◌≡◌, ℕ, ◌+◌, ◌≤◌, ◌⊎◌, Bool, true, false, not, ◌&&◌, ◌||◌, ◌==◌, nat_le, nat_lt, List, [], ◌∷◌, if◌then◌else◌, ⊤}

-- a range: the offset at which it begins, and how many bytes it has
abbrev pub Span : Type 0
Span = ℕ × ℕ

-- whether byte k is in the range
abbrev pub covers : Span → ℕ → Bool
covers s k = nat_le s.0 k && nat_lt k (s.0 + s.1)

-- whether byte k is in one of the ranges
abbrev pub is_lent : List Span → ℕ → Bool
is_lent [] k = false
is_lent (s ∷ ss) k = covers s k || is_lent ss k

-- whether byte k is in none of them
abbrev pub is_here : List Span → ℕ → Bool
is_here ss k = not (is_lent ss k)

-- the range has no byte in common with the n bytes from `at` on
abbrev pub IsApart : Span → ℕ → ℕ → Type 0
IsApart s at n = (s.0 + s.1 ≤ at) ⊎ (at + n ≤ s.0)

-- none of the ranges has a byte in common with the n bytes from `at` on
abbrev pub AllApart : List Span → ℕ → ℕ → Type 0
AllApart [] at n = ⊤
AllApart (s ∷ ss) at n = IsApart s at n × AllApart ss at n

-- the same as a record, so that a proof finds the arguments from it: none of the n bytes from `at` on is lent
pub record IsFree (lent : List Span) (at n : ℕ) : Type 0 where
  pub apart : AllApart lent at n

-- whether the range has no byte in common with the n bytes from `at` on
abbrev pub is_apart : Span → ℕ → ℕ → Bool
is_apart s at n = nat_le (s.0 + s.1) at || nat_le (at + n) s.0

-- whether none of the ranges has
abbrev pub is_free : List Span → ℕ → ℕ → Bool
is_free [] at n = true
is_free (s ∷ ss) at n = is_apart s at n && is_free ss at n

-- whether the ranges lie in the first n bytes, each apart from the others
abbrev pub are_loans : List Span → ℕ → Bool
are_loans [] n = true
are_loans (s ∷ ss) n = nat_le (s.0 + s.1) n && (is_free ss s.0 s.1 && are_loans ss n)

-- the range is one of them
abbrev pub IsListed : List Span → Span → Type 0
IsListed [] s = ⊥
IsListed (t ∷ ss) s = (t ≡ s) ⊎ IsListed ss s

-- the ranges without the first that is s
abbrev pub without : Span → List Span → List Span
without s [] = []
without s (t ∷ ss) = if (t.0 == s.0) && (t.1 == s.1) then ss else t ∷ without s ss

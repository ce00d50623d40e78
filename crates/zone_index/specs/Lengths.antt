-- What is remembered of how many bytes handles have.
use Rattle.std.specs.Prelude.{◌≡◌, ℕ, zero, suc, ◌+◌, ◌*◌, ◌⊎◌, length, Option, Some, None, refl}
use Rattle.std.specs.List.{slice_get}
use Rattle.mac_base.specs.HandleTable.{HandleTable, bytes_of}
use Rattle.zone_index.specs.declared.lengths.Lengths.{Lengths}

-- what two bytes say: nothing, or one less than their number
abbrev pub remembered : ℕ → Option ℕ
remembered zero = None
remembered (suc n) = Some n

-- the number of the two bytes that say it
abbrev pub one_more : Option ℕ → ℕ
one_more None = 0
one_more (Some n) = suc n

pub one_more-remembered : (n : ℕ) → one_more (remembered n) ≡ n
one_more-remembered zero = refl
one_more-remembered (suc n) = refl

-- x is said to have n bytes, at its place
pub record Tells (l : Lengths) (x n : ℕ) : Type 0 where
  pub place : ℕ
  pub here : x ≡ l.base + 4 * place
  pub told : slice_get l.places.items place ≡ Some (Some n)

-- nothing is said of any number
abbrev pub TellsNothing : Lengths → Type 0
TellsNothing l = (x n : ℕ) → Tells l x n → ⊥

-- nothing else is said than before
abbrev pub TellsSame : Lengths → Lengths → Type 0
TellsSame old new = (x n : ℕ) → Tells new x n → Tells old x n

-- nothing else is said than that x has so many bytes, and what was said of others before
abbrev pub IsNoted : ℕ → ℕ → Lengths → Lengths → Type 0
IsNoted x length old new = (y n : ℕ) → Tells new y n → ((y ≡ x) × (n ≡ length)) ⊎ ((y ≡ x → ⊥) × Tells old y n)

-- what is said is so
abbrev pub AreLengths : HandleTable → Lengths → Type 0
AreLengths t l = (x n : ℕ) → Tells l x n → length (bytes_of t x) ≡ n

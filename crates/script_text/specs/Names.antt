-- The names of variables, in the order in which a script assigns them first.
use Rattle.std.specs.Prelude.{◌≡◌, ℕ, Bool, if◌then◌else◌, List, [], ◌∷◌, ◌++◌, Option, Some, IfSome, position}
use Rattle.std.specs.Borrow.{Bor}
use Rattle.std.specs.List.{list_any, position_or_len}
use Rattle.std.specs.Str.{bytes_eq}

-- whether a word is one of the names
abbrev pub is_named : List (List ℕ) → List ℕ → Bool
is_named names word = list_any (bytes_eq word) names

-- the place of a word among the names, if it is one of them
abbrev pub place_of : List (List ℕ) → List ℕ → Option ℕ
place_of names word = position (bytes_eq word) names

-- the place of a word that is assigned now: a new one is after all names
abbrev pub place_for : List (List ℕ) → List ℕ → ℕ
place_for names word = position_or_len (bytes_eq word) names

-- the names, and this one, which is the last if it is new
abbrev pub with_name : List (List ℕ) → List ℕ → List (List ℕ)
with_name names name = if is_named names name then names else names ++ name ∷ []

-- the name that was assigned last, if there is one, has this place
abbrev pub IsLast : List (List ℕ) → Option (Bor (List ℕ) × ℕ) → Type 0
IsLast names last = IfSome last (λ it. place_of names it.0.now ≡ Some it.1)

-- No two names have one place.
abbrev pub OnePlace : Type 0
OnePlace = (names : List (List ℕ)) (a b : List ℕ) (place : ℕ) → place_of names a ≡ Some place → place_of names b ≡ Some place → a ≡ b

-- A name keeps its place when another is assigned.
abbrev pub KeepsPlace : Type 0
KeepsPlace = (names : List (List ℕ)) (a b : List ℕ) (place : ℕ) → place_of names a ≡ Some place → place_of (with_name names b) a ≡ Some place

-- A name that is assigned has its place from then on.
abbrev pub TakesPlace : Type 0
TakesPlace = (names : List (List ℕ)) (a : List ℕ) → place_of (with_name names a) a ≡ Some (place_for names a)

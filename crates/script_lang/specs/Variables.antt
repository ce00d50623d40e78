-- The values of a script's variables as the lines run.
use Rattle.std.specs.Prelude.{◌≡◌, ◌≢◌, ℕ, zero, suc, List, [], ◌∷◌, unwrap_or, slice_get}

-- the values of the variables, in order of the names
abbrev pub Variables : Type 0
Variables = List ℕ

-- the value of the variable at a place; one that was not assigned counts as 0
abbrev pub value_of : Variables → ℕ → ℕ
value_of variables place = unwrap_or (slice_get variables place) 0

-- the variables, where the one at a place has this value
abbrev pub with_value : Variables → ℕ → ℕ → Variables
with_value [] zero value = value ∷ []
with_value [] (suc place) value = 0 ∷ with_value [] place value
with_value (old ∷ others) zero value = value ∷ others
with_value (old ∷ others) (suc place) value = old ∷ with_value others place value

-- A variable has the value that it was given, and any other keeps its own.
abbrev pub ValuesAreKept : Type 0
ValuesAreKept = (variables : Variables) (place other value : ℕ) → (value_of (with_value variables place value) place ≡ value) × (place ≢ other → value_of (with_value variables place value) other ≡ value_of variables other)

-- Numbers in the bytes of a resource, the highest byte first; past the end all bytes are 0.
use Rattle.std.specs.Prelude.{ℕ, ◌+◌, ◌*◌, List, [], ◌∷◌, slice_index, Result, Ok, Err}
use Rattle.fork_sounds.specs.declared.fault.Fault.{Fault}

-- the number of two bytes at a place
abbrev pub word_at : List ℕ → ℕ → ℕ
word_at bytes at = 256 * slice_index bytes at + slice_index bytes (at + 1)

-- the number of four bytes at a place
abbrev pub long_at : List ℕ → ℕ → ℕ
long_at bytes at = 65536 * word_at bytes at + word_at bytes (at + 2)

-- the four bytes at a place
abbrev pub four_at : List ℕ → ℕ → List ℕ
four_at bytes at = slice_index bytes at ∷ slice_index bytes (at + 1) ∷ slice_index bytes (at + 2) ∷ slice_index bytes (at + 3) ∷ []

-- what comes after a result, if that is right
abbrev pub and_then : {A B : Type 0} → Result A Fault → (A → Result B Fault) → Result B Fault
and_then (Ok value) next = next value
and_then (Err fault) next = Err fault

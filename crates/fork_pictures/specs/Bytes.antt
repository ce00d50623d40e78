-- Numbers in the bytes of a resource, the highest byte first; past the end all bytes are 0.
use Rattle.std.specs.Prelude.{ℕ, ◌+◌, ◌-◌, ◌*◌, ◌%◌, List, slice_index}

-- the number of two bytes at a place
abbrev pub word_at : List ℕ → ℕ → ℕ
word_at bytes at = 256 * slice_index bytes at + slice_index bytes (at + 1)

-- the number of four bytes at a place
abbrev pub long_at : List ℕ → ℕ → ℕ
long_at bytes at = 65536 * word_at bytes at + word_at bytes (at + 2)

-- how far a signed number of two bytes is above the least, -32768
abbrev pub coordinate : List ℕ → ℕ → ℕ
coordinate bytes at = (word_at bytes at + 32768) % 65536

-- how far the coordinate at one place is below that at another
abbrev pub extent : List ℕ → ℕ → ℕ → ℕ
extent bytes low high = coordinate bytes high - coordinate bytes low

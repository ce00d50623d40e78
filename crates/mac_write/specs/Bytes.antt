-- Bytes at places of a file.
use Rattle.std.specs.Prelude.{ℕ, ◌+◌, ◌-◌, ◌<◌, List, ◌++◌, length, take, drop, replicate, slice_index}

-- the file with these bytes at a place
abbrev pub put : ℕ → List ℕ → List ℕ → List ℕ
put at bytes file = take at file ++ (bytes ++ drop (at + length bytes) file)

-- the bytes, and zeros up to so many
abbrev pub filled : ℕ → List ℕ → List ℕ
filled count bytes = bytes ++ replicate (count - length bytes) 0

-- each number is that of a byte
abbrev pub AreBytes : List ℕ → Type 0
AreBytes bytes = (k : ℕ) → slice_index bytes k < 256

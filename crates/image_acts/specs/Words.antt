-- Which files of the host a word names: itself, or the image before one of its colons.
use Rattle.std.specs.Prelude.{◌≡◌, ◌⊎◌, ℕ, List, ◌∷◌, ◌++◌}
use Rattle.std.specs.Borrow.{Bor}
use Rattle.std.specs.List.{All}
use Rattle.file_acts.specs.Acts.{Log, MayRead, OnlyReads, Paths}

-- a word names the file of this path, or the image of this path and after a colon a place in it
abbrev pub IsNamedBy : List ℕ → List ℕ → Type 0
IsNamedBy word path = (path ≡ word) ⊎ ((rest : List ℕ) × (word ≡ path ++ 58 ∷ rest))

-- what a word names may be read
pub record MayReadWord (paths : Paths) (word : List ℕ) : Type 0 where
  pub each : (path : List ℕ) → IsNamedBy word path → MayRead paths path

-- it goes on being so that just those files were read which may be, and nothing was written: nothing but what this word names was
-- read
abbrev pub ReadsWord : List ℕ → Log → Log → Type 0
ReadsWord word old new = (paths : Paths) → MayReadWord paths word → OnlyReads paths old → OnlyReads paths new

-- nothing but what these two words name
abbrev pub ReadsBothWords : List ℕ → List ℕ → Log → Log → Type 0
ReadsBothWords word other old new = (paths : Paths) → MayReadWord paths word → MayReadWord paths other → OnlyReads paths old → OnlyReads paths new

-- nothing but what these words name
abbrev pub ReadsWords : List (Bor (List ℕ)) → Log → Log → Type 0
ReadsWords words old new = (paths : Paths) → All (λ word. MayReadWord paths word.now) words → OnlyReads paths old → OnlyReads paths new

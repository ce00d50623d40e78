-- What becomes of a disk whose fork is replaced.
use Rattle.std.specs.Prelude.{◌≡◌, ℕ, ◌⊎◌, List, [], ◌∷◌, length}
use Rattle.fork_disk.specs.declared.update.Kept.{Kept}
use Rattle.fork_disk.specs.Disk.{bytes_at, put_at, Torn, CutShort}

-- a new fork, with the bytes that it keeps of the disk put to their places, one range after the other
abbrev pub gathered : List ℕ → List Kept → List ℕ → List ℕ
gathered disk [] fork = fork
gathered disk (first ∷ others) fork = gathered disk others (put_at first.to (bytes_at first.length first.from disk) fork)

-- What a replacement may leave that failed: its write was done in part, or was done and its cut was done in part, or
-- only the sync is wanting.
abbrev pub IsPartly : List ℕ → List ℕ → List ℕ → Type 0
IsPartly fork old left = Torn 0 (length fork) old left
    ⊎ (CutShort (length fork) (put_at 0 fork old) left ⊎ (left ≡ fork))

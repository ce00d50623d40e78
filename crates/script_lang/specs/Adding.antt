-- What adding to a text does.
use Rattle.std.specs.Prelude.{◌≡◌, ◌<◌, ◌≤◌, ◌+◌, ◌++◌, ℕ, List, length, Result, OnOk, OnErr, Vec, vec_capacity, vec_len}
use Rattle.std.specs.Global.{Global}

-- A text got these bytes after its own, or, for want of host memory, it didn't: only where it had no room for them.
-- Its room doesn't shrink.
abbrev pub Adds : {E : Type 0} → Vec ℕ Global → Vec ℕ Global → Result (Unit {0}) E → List ℕ → Type 0
Adds old new result added = OnOk result (new.items ≡ old.items ++ added) × OnErr result (vec_capacity old < vec_len old + length added) × (vec_capacity old ≤ vec_capacity new)

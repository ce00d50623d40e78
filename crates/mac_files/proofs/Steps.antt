-- One step of a loop, and what is left.
use Rattle.std.proofs.Common.{◌≡◌, ℕ, suc, ◌+◌, ◌-◌, ◌*◌, ◌<◌, List, ◌∷◌, refl, arith}
use Rattle.std.specs.Fn.{iterate}
use Rattle.mac_files.specs.Apple.{entry_at, entries_from}

-- the next of n times
pub iterate_step : {A : Type 0} (h : A → A) (n i : ℕ) (x : A) → i < n → iterate h (n - i) x ≡ iterate h (n - (i + 1)) (h x)
iterate_step h n i x below = let one_more : n - i ≡ suc (n - (i + 1)) = omega arith in rw one_more refl

-- the next entry, and those after it
pub entries_step : (file : List ℕ) (count i : ℕ) → i < count
    → entries_from file (26 + 12 * i) (count - i) ≡ entry_at file (26 + 12 * i) ∷ entries_from file (26 + 12 * (i + 1)) (count - (i + 1))
entries_step file count i below =
    let one_more : count - i ≡ suc (count - (i + 1)) = omega arith in
    let place : 26 + 12 * (i + 1) ≡ 26 + 12 * i + 12 = omega arith in
    rw (one_more, place) refl

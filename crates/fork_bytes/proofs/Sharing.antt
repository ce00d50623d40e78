-- The names of a map are among its first bytes.
use Rattle.std.proofs.Common.{◌≡◌, ap, ◌∙◌, arith, ℕ, ◌+◌, ◌-◌, ◌≤◌, List, length, take, drop}
use Rattle.std.proofs.lemmas.List.{drop-take, take-take, length-take}

-- a part of a list is among the first elements where it ends before the others
pub part_of_first : {X : Type 0} (n at m : ℕ) (xs : List X) → at + n ≤ m → take n (drop at (take m xs)) ≡ take n (drop at xs)
part_of_first {X} n at m xs within =
    let e : m ≡ at + (m - at) = omega arith in
    ap (λ (i : ℕ). take n (drop at (take i xs))) e ∙ ap (take n) (drop-take at (m - at) xs) ∙ take-take n (m - at) (drop at xs) (omega arith)

-- and within them
pub within_first : {X : Type 0} (end m : ℕ) (xs : List X) → end ≤ m → end ≤ length xs → end ≤ length (take m xs)
within_first end m xs low inside = let count = length-take m xs in omega arith

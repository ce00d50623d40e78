-- Numbers moved to other places.
use Rattle.std.specs.Prelude.{ℕ, ◌+◌, ◌-◌, List, ◌++◌, take, drop, replicate}

-- n numbers from a place on copied over those from another on
abbrev pub copied : ℕ → ℕ → ℕ → List ℕ → List ℕ
copied from to n xs = take to xs ++ take n (drop from xs) ++ drop (to + n) xs

-- n numbers from a place on moved down to another: those between are gone, and as many zeros come after them
abbrev pub shifted_down : ℕ → ℕ → ℕ → List ℕ → List ℕ
shifted_down from to n xs = take to xs ++ take n (drop from xs) ++ replicate (from - to) 0 ++ drop (from + n) xs

-- n numbers from a place on moved up to another: those that were there are gone, and as many zeros come before them
abbrev pub shifted_up : ℕ → ℕ → ℕ → List ℕ → List ℕ
shifted_up from to n xs = take from xs ++ replicate (to - from) 0 ++ take n (drop from xs) ++ drop (to + n) xs

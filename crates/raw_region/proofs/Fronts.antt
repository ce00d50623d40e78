-- Writing the front of a list that is all of it.
use Rattle.std.proofs.Common.{◌≡◌, ℕ, zero, suc, List, [], ◌∷◌, length, take, refl, ap, arith}
use Rattle.raw_region.specs.Bytes.{part, written}

take_all : (n : ℕ) (ws : List ℕ) → length ws ≡ n → take n ws ≡ ws
take_all zero [] is = refl
take_all zero (w ∷ ws) is = absurd (omega arith)
take_all (suc n) [] is = absurd (omega arith)
take_all (suc n) (w ∷ ws) is = ap (λ vs. w ∷ vs) (take_all n ws (omega arith))

-- the first n of n bytes are all of them
pub written-all : (xs : List ℕ) (at n : ℕ) (ws : List ℕ) → length ws ≡ n → written xs at (take n ws) ≡ written xs at ws
written-all xs at n ws is = ap (written xs at) (take_all n ws is)

-- what is written after the end is not written
pub written-within : (xs ws : List ℕ) → written xs 0 (take (length xs) ws) ≡ written xs 0 ws
written-within [] ws = refl
written-within (x ∷ xs) [] = refl
written-within (x ∷ xs) (w ∷ ws) = ap (λ vs. w ∷ vs) (written-within xs ws)

-- all bytes, as a part
pub part-all : (xs : List ℕ) → part xs 0 (length xs) ≡ xs
part-all [] = refl
part-all (x ∷ xs) = ap (λ ys. x ∷ ys) (part-all xs)

-- A list that begins with some elements, as a pattern finds them.
use Rattle.std.proofs.Common.{◌≡◌, ◌≤◌, ◌-◌, List, [], ◌∷◌, length, get_or, take, drop, sym, ap, arith}
use Rattle.std.proofs.lemmas.List.{take_all}

-- the first element, and the rest
pub first_and_rest : {X : Type 0} (xs : List X) (d : X) → 1 ≤ length xs → xs ≡ get_or xs 0 d ∷ take (length xs - 1) (drop 1 xs)
first_and_rest [] d h = absurd (omega arith)
first_and_rest (x ∷ xs) d h = ap (λ (t : List _). x ∷ t) (sym (take_all (length (x ∷ xs) - 1) xs (omega arith)))

-- the first two elements, and the rest
pub two_and_rest : {X : Type 0} (xs : List X) (d e : X) → 2 ≤ length xs → xs ≡ get_or xs 0 d ∷ get_or xs 1 e ∷ take (length xs - 2) (drop 2 xs)
two_and_rest [] d e h = absurd (omega arith)
two_and_rest (x ∷ []) d e h = absurd (omega arith)
two_and_rest (x ∷ y ∷ xs) d e h = ap (λ (t : List _). x ∷ y ∷ t) (sym (take_all (length (x ∷ y ∷ xs) - 2) xs (omega arith)))

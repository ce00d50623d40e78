-- What is left of a list.
use Rattle.std.proofs.Common.{◌≡◌, ℕ, zero, suc, ◌<◌, ◌≤◌, List, [], ◌∷◌, length, drop, get_or, refl, sym, ap, ◌∙◌, arith}

from_next : {X : Type 0} (xs : List X) (count : ℕ) (d : X) → count < length xs → drop count xs ≡ get_or xs count d ∷ drop (suc count) xs
from_next [] count d within = absurd (omega arith)
from_next (x ∷ xs) zero d within = refl
from_next (x ∷ xs) (suc count) d within = from_next xs count d (omega arith)

-- the next, and those after it
pub left_from : {X : Type 0} (xs : List X) (count : ℕ) (x : X) → count < length xs → x ≡ get_or xs count x → drop count xs ≡ x ∷ drop (suc count) xs
left_from xs count x within is = from_next xs count x within ∙ ap (λ (y : _). y ∷ drop (suc count) xs) (sym is)

-- nothing is left
pub none_left : {X : Type 0} (xs : List X) (count : ℕ) → length xs ≤ count → drop count xs ≡ []
none_left [] zero past = refl
none_left [] (suc count) past = refl
none_left (x ∷ xs) zero past = absurd (omega arith)
none_left (x ∷ xs) (suc count) past = none_left xs count (omega arith)

-- The points of a region, word by word.
use Rattle.std.proofs.Common.{◌≡◌, ℕ, ◌+◌, ◌-◌, ◌<◌, ◌≤◌, true, false, List, [], ◌++◌, Option, map, refl, ap, ◌∙◌, sym, arith}
use Rattle.std.proofs.lemmas.List.{append_assoc}
use Rattle.std.specs.List.{range_with_len}
use Rattle.fork_drawings.specs.declared.region.Point.{Point}
use Rattle.fork_drawings.specs.Regions.{added, is_end, points_in, row_after}
use Rattle.fork_drawings.proofs.Steps.{rest_more}

-- the next word
pub points_step : (row : Option ℕ) (word : ℕ → ℕ) (count place : ℕ) → place < count → is_end row (word place) ≡ false
    → points_in row (map word (range_with_len place (count - place)))
    ≡ added row (word place) ++ points_in (row_after row (word place)) (map word (range_with_len (place + 1) (count - (place + 1))))
points_step row word count place below more = rw (rest_more word count place below, more) refl

-- a word that ends all rows
pub points_end : (row : Option ℕ) (word : ℕ → ℕ) (count place : ℕ) → place < count → is_end row (word place) ≡ true
    → points_in row (map word (range_with_len place (count - place))) ≡ []
points_end row word count place below end = rw (rest_more word count place below, end) refl

-- no word is left
pub no_words : (row : Option ℕ) (word : ℕ → ℕ) (count place : ℕ) → count ≤ place → points_in row (map word (range_with_len place (count - place))) ≡ []
no_words row word count place past = let none : count - place ≡ 0 = omega arith in rw none refl

-- the points after the next word
pub points_next : (row next : Option ℕ) (word : ℕ → ℕ) (count place own : ℕ) (old new : List Point) → place < count → own ≡ word place
    → is_end row own ≡ false → new ≡ old ++ added row own → next ≡ row_after row own
    → new ++ points_in next (map word (range_with_len (place + 1) (count - (place + 1)))) ≡ old ++ points_in row (map word (range_with_len place (count - place)))
points_next row next word count place own old new below is more pushed moved =
    let left : Option ℕ → List Point = λ rows. points_in rows (map word (range_with_len (place + 1) (count - (place + 1)))) in
    let goes_on : is_end row (word place) ≡ false = ap (λ (n : ℕ). is_end row n) (sym is) ∙ more in
    ap (λ (xs : List Point). xs ++ left next) pushed
    ∙ append_assoc old (added row own) (left next)
    ∙ ap (λ (rows : Option ℕ). old ++ (added row own ++ left rows)) moved
    ∙ ap (λ (n : ℕ). old ++ (added row n ++ left (row_after row n))) is
    ∙ ap (λ (xs : List Point). old ++ xs) (sym (points_step row word count place below goes_on))

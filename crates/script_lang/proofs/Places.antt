-- Calls that are put in the places of an answer, first to last.
use Rattle.std.proofs.Common.{◌≡◌, ℕ, zero, suc, ◌-◌, ◌≤◌, List, [], ◌∷◌, ◌++◌, map, length, take, replicate, Option, Some, None, refl, ap, ◌∙◌}
use Rattle.std.specs.List.{flat_map}
use Rattle.std.specs.Prelude.{option_to_list}
use Rattle.std.proofs.lemmas.List.{take_all}

-- these values in the first places, and none in so many others
abbrev pub placed : {X : Type 0} → List X → ℕ → List (Option X)
placed xs none = map Some xs ++ replicate none None

-- the places that have a value
pub in_places : {X : Type 0} (xs : List X) (none : ℕ) → flat_map option_to_list (placed xs none) ≡ xs
in_places [] zero = refl
in_places [] (suc none) = in_places [] none
in_places (x ∷ xs) none = ap (λ (t : List _). x ∷ t) (in_places xs none)

-- all values are in their places
pub placed-all : {W X : Type 0} (f : W → X) (written : List W) (index : ℕ) (calls : List (Option X)) → length written ≤ index → calls ≡ placed (map f (take index written)) (8 - index) → flat_map option_to_list calls ≡ map f written
placed-all f written index calls all before =
    ap (flat_map option_to_list) before ∙ in_places (map f (take index written)) (8 - index) ∙ ap (map f) (take_all index written all)

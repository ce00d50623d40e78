-- Strings one after the other.
use Rattle.std.proofs.Common.{◌≡◌, ℕ, suc, ◌+◌, ◌-◌, ◌<◌, List, [], ◌∷◌, ◌++◌, Option, None, Some, refl, sym, ap, ◌∙◌, append_assoc, arith}
use Rattle.std.specs.Prelude.{option_map, option_and_then}
use Rattle.fork_list.specs.Strings.{FirstString, first_string, strings_from}

-- one more text before others
before : (done : List (List ℕ)) (text : List ℕ) (others : Option (List (List ℕ)))
    → option_map (λ (texts : List (List ℕ)). (done ++ text ∷ []) ++ texts) others
    ≡ option_map (λ (texts : List (List ℕ)). done ++ texts) (option_map (λ (texts : List (List ℕ)). text ∷ texts) others)
before done text None = refl
before done text (Some texts) = ap (λ (all : List (List ℕ)). Some all) (append_assoc done (text ∷ []) texts)

-- the next string, and those after it
pub string_step : (done : List (List ℕ)) (count i : ℕ) (left : List ℕ) (first : FirstString) → i < count → first_string left ≡ Some first
    → option_map (λ (texts : List (List ℕ)). (done ++ first.text ∷ []) ++ texts) (strings_from (count - (i + 1)) first.rest)
    ≡ option_map (λ (texts : List (List ℕ)). done ++ texts) (strings_from (count - i) left)
string_step done count i left first below is =
    let one_more : count - i ≡ suc (count - (i + 1)) = omega arith in
    rw (one_more, is) (before done first.text (strings_from (count - (i + 1)) first.rest))

-- no string more
pub no_string : (done : List (List ℕ)) (count i : ℕ) (left : List ℕ) (whole : Option (List (List ℕ))) → i < count → first_string left ≡ None
    → option_map (λ (texts : List (List ℕ)). done ++ texts) (strings_from (count - i) left) ≡ whole → None ≡ whole
no_string done count i left whole below is all =
    let one_more : count - i ≡ suc (count - (i + 1)) = omega arith in
    rw (one_more, is) at all

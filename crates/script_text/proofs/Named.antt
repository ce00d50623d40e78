-- Look-ups by the bytes of names, in sets whose keys spell them.
use Rattle.std.proofs.Common.{◌≡◌, ℕ, ◌+◌, Bool, true, false, cond, List, [], ◌∷◌, ◌++◌, map, refl, sym, ap, ◌∙◌}
use Rattle.std.specs.Prelude.{◌||◌, not, position}
use Rattle.std.specs.List.{list_any, position_or_len}
use Rattle.std.specs.Str.{bytes_eq}
use Rattle.std.proofs.lemmas.List.{map_push, length-map}
use Rattle.indexmap.specs.IndexSet.{insert_key}
use Rattle.script_text.specs.Names.{is_named, place_of, place_for, with_name}

-- whether a key spells the word
pub is_named-map : {V : Type 0} (spelled : V → List ℕ) (word : List ℕ) (keys : List V) → is_named (map spelled keys) word ≡ list_any (λ k. bytes_eq word (spelled k)) keys
is_named-map spelled word [] = refl
is_named-map spelled word (key ∷ keys) = ap (λ (b : Bool). bytes_eq word (spelled key) || b) (is_named-map spelled word keys)

-- the first key that spells the word, or their number
pub place_for-map : {V : Type 0} (spelled : V → List ℕ) (word : List ℕ) (keys : List V) → place_for (map spelled keys) word ≡ position_or_len (λ k. bytes_eq word (spelled k)) keys
place_for-map spelled word [] = refl
place_for-map spelled word (key ∷ keys) = ap (λ (n : ℕ). cond (not (bytes_eq word (spelled key))) (1 + n) 0) (place_for-map spelled word keys)

-- the first key that spells the word, if there is one
pub place_of-map : {V : Type 0} (spelled : V → List ℕ) (word : List ℕ) (keys : List V) → place_of (map spelled keys) word ≡ position (λ k. bytes_eq word (spelled k)) keys
place_of-map spelled word keys = rw (place_for-map spelled word keys, length-map keys spelled) refl

with_name-cases : {V : Type 0} (spelled : V → List ℕ) (key : V) (keys : List V) (b : Bool) → map spelled (cond b keys (keys ++ key ∷ [])) ≡ cond b (map spelled keys) (map spelled keys ++ spelled key ∷ [])
with_name-cases spelled key keys true = refl
with_name-cases spelled key keys false = map_push spelled keys key

-- the names after a key is inserted
pub with_name-map : {V : Type 0} (spelled : V → List ℕ) (keys : List V) (key : V) → map spelled (insert_key (λ x y. bytes_eq (spelled x) (spelled y)) keys key) ≡ with_name (map spelled keys) (spelled key)
with_name-map spelled keys key =
    with_name-cases spelled key keys (list_any (λ k. bytes_eq (spelled key) (spelled k)) keys)
    ∙ ap (λ (b : Bool). cond b (map spelled keys) (map spelled keys ++ spelled key ∷ [])) (sym (is_named-map spelled (spelled key) keys))

-- No two names have one place, and a name keeps its place.
use Rattle.std.proofs.Common.{◌≡◌, ℕ, suc, ◌+◌, ◌<◌, ◌≤◌, Bool, true, false, cond, eqb, List, [], ◌∷◌, ◌++◌, length, get_or, Some, refl, sym, ap, ◌∙◌, arith}
use Rattle.std.specs.Borrow.{Bor}
use Rattle.std.specs.Prelude.{not, ◌||◌, if◌then◌else◌}
use Rattle.std.specs.List.{list_any, position_or_len}
use Rattle.std.specs.Str.{bytes_eq}
use Rattle.std.proofs.lemmas.Bool.{ne_eqb, eq-eqb}
use Rattle.std.proofs.lemmas.List.{length_push}
use Rattle.std.proofs.lemmas.List.Folds.{position_or_len_push}
use Rattle.std.proofs.lemmas.List.Sums.{passes_at_first}
use Rattle.std.proofs.lemmas.Slice.Eq.{bytes_eq-Decides}
use Rattle.script_text.specs.Names.{is_named, place_of, place_for, with_name, IsLast, OnePlace, KeepsPlace, TakesPlace}
use Rattle.script_text.proofs.Fronts.{position_found, found_at}

-- the name at the place of a word is the word
stands_at : (names : List (List ℕ)) (word : List ℕ) (place : ℕ) → place_of names word ≡ Some place → word ≡ get_or names place []
stands_at names word place e =
    let found = position_found (bytes_eq word) names place e in
    let passes = passes_at_first (bytes_eq word) names [] found.1 in
    (bytes_eq-Decides word (get_or names (position_or_len (bytes_eq word) names) [])).0 passes ∙ ap (λ (n : ℕ). get_or names n []) found.0

-- no two names have one place
pub one_place : OnePlace
one_place names a b place p q = stands_at names a place p ∙ sym (stands_at names b place q)

any_by : (b rest : Bool) (at len : ℕ) → (b || rest) ≡ true → (rest ≡ true → at < len) → cond (not b) (1 + at) 0 < suc len
any_by true rest at len e more = omega arith
any_by false rest at len e more = let m = more e in omega arith

any_within : (test : List ℕ → Bool) (names : List (List ℕ)) → list_any test names ≡ true → position_or_len test names < length names
any_within test [] e = absurd cc
any_within test (name ∷ names) e = any_by (test name) (list_any test names) (position_or_len test names) (length names) e (any_within test names)

none_by : (b rest : Bool) (at len : ℕ) → (b || rest) ≡ false → (rest ≡ false → at ≡ len) → cond (not b) (1 + at) 0 ≡ suc len
none_by true rest at len e more = absurd cc
none_by false rest at len e more = let m = more e in omega arith

none_within : (test : List ℕ → Bool) (names : List (List ℕ)) → list_any test names ≡ false → position_or_len test names ≡ length names
none_within test [] e = refl
none_within test (name ∷ names) e = none_by (test name) (list_any test names) (position_or_len test names) (length names) e (none_within test names)

-- a name keeps its place when another is after it
pushed_kept : (names : List (List ℕ)) (a b : List ℕ) (place : ℕ) → place_of names a ≡ Some place → place_of (names ++ b ∷ []) a ≡ Some place
pushed_kept names a b place e =
    let found = position_found (bytes_eq a) names place e in
    let other : eqb (position_or_len (bytes_eq a) names) (length names) ≡ false = ne_eqb _ _ (λ same. absurd (omega arith)) in
    let at : position_or_len (bytes_eq a) (names ++ b ∷ []) ≡ place = position_or_len_push (bytes_eq a) names b ∙ rw other found.0 in
    let within : place < length (names ++ b ∷ []) = omega (arith, length_push names b) in
    sym (found_at (position_or_len (bytes_eq a) (names ++ b ∷ [])) (length (names ++ b ∷ [])) place at within)

kept_by : (names : List (List ℕ)) (a b : List ℕ) (place : ℕ) (t : Bool) → place_of names a ≡ Some place → place_of (cond t names (names ++ b ∷ [])) a ≡ Some place
kept_by names a b place true e = e
kept_by names a b place false e = pushed_kept names a b place e

-- a name keeps its place when another is assigned
pub keeps_place : KeepsPlace
keeps_place names a b place e = kept_by names a b place (is_named names b) e

-- a new name is last
pushed_taken : (names : List (List ℕ)) (a : List ℕ) → is_named names a ≡ false → place_of (names ++ a ∷ []) a ≡ Some (place_for names a)
pushed_taken names a e =
    let last = none_within (bytes_eq a) names e in
    let same : eqb (position_or_len (bytes_eq a) names) (length names) ≡ true = eq-eqb _ _ last in
    let itself : bytes_eq a a ≡ true = (bytes_eq-Decides a a).1 refl in
    let at : position_or_len (bytes_eq a) (names ++ a ∷ []) ≡ place_for names a = position_or_len_push (bytes_eq a) names a ∙ rw (same, itself) (omega (arith, last)) in
    let within : place_for names a < length (names ++ a ∷ []) = omega (arith, length_push names a) in
    sym (found_at (position_or_len (bytes_eq a) (names ++ a ∷ [])) (length (names ++ a ∷ [])) (place_for names a) at within)

taken_by : (names : List (List ℕ)) (a : List ℕ) (t : Bool) → is_named names a ≡ t → place_of (cond t names (names ++ a ∷ [])) a ≡ Some (place_for names a)
taken_by names a true e = sym (found_at (position_or_len (bytes_eq a) names) (length names) (place_for names a) refl (any_within (bytes_eq a) names e))
taken_by names a false e = pushed_taken names a e

-- a name that is assigned has its place from then on
pub takes_place : TakesPlace
takes_place names a = taken_by names a (is_named names a) refl

stays_by : (names : List (List ℕ)) (a : List ℕ) (place : ℕ) (t : Bool) → is_named names a ≡ t → place_of names a ≡ Some place → names ≡ cond t names (names ++ a ∷ [])
stays_by names a place true named e = refl
stays_by names a place false named e =
    let found = position_found (bytes_eq a) names place e in
    let past = none_within (bytes_eq a) names named in
    absurd (omega (arith, past, found.1))

-- a name that has a place is added no more
pub stays_named : (names : List (List ℕ)) (a : List ℕ) (place : ℕ) → place_of names a ≡ Some place → names ≡ with_name names a
stays_named names a place e = stays_by names a place (is_named names a) refl e

-- a name that is assigned now is the last
pub last_taken : (names : List (List ℕ)) (a : Bor (List ℕ)) (place : ℕ) → place ≡ place_for names a.now → IsLast (with_name names a.now) (Some (a, place))
last_taken names a place e = takes_place names a.now ∙ ap (λ (n : ℕ). Some n) (sym e)

few_by : (names : List (List ℕ)) (name : List ℕ) (b : Bool) → length (if b then names else names ++ name ∷ []) ≤ length names + 1
few_by names name true = omega arith
few_by names name false = let long = length_push names name in omega (arith, long)

-- a name that is assigned is one more at most
pub with_name-few : (names : List (List ℕ)) (name : List ℕ) → length (with_name names name) ≤ length names + 1
with_name-few names name = few_by names name (is_named names name)

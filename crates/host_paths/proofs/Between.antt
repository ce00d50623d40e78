-- A text between two others.
use Rattle.std.proofs.Common.{◌≡◌, ℕ, ◌+◌, ◌-◌, Bool, true, false, Bor, Option, None, Some, List, ◌++◌, length, take, drop, sym, ◌∙◌, ap, append_assoc}
use Rattle.std.specs.Prelude.{bytes_eq, codes, IfSome, MatchOption}
use Rattle.std.specs.Bool.{OnTrue}
use Rattle.std.specs.Cmp.Lexicographic.{same_text}
use Rattle.std.proofs.lemmas.List.{take-append-drop}
use Rattle.host_paths.specs.Left.{IsNewName, is_number}

-- what begins with the one and then ends with the other
pub between : (name front back rest digits : List ℕ) → bytes_eq (take (length front) name) front ≡ true → rest ≡ drop (length front) name
    → bytes_eq (drop (length rest - length back) rest) back ≡ true → digits ≡ take (length rest - length back) rest → name ≡ front ++ digits ++ back
between name front back rest digits begins after ends before =
    let first = sym (take-append-drop (length front) name) in
    let second = sym (take-append-drop (length rest - length back) rest) in
    let head : take (length front) name ≡ front = same_text _ _ (sym begins) in
    let tail : drop (length rest - length back) rest ≡ back = same_text _ _ (sym ends) in
    let whole : rest ≡ digits ++ back = second ∙ ap (λ (xs : List ℕ). xs ++ drop (length rest - length back) rest) (sym before) ∙ ap (λ (xs : List ℕ). digits ++ xs) tail in
    first ∙ ap (λ (xs : List ℕ). xs ++ drop (length front) name) head ∙ ap (λ (xs : List ℕ). front ++ xs) (sym after ∙ whole) ∙ sym (append_assoc front digits back)

-- the same of what is left where the end was taken off, if it was there
pub some_between : (name front back rest : List ℕ) (found : Option (Bor (List ℕ))) → bytes_eq (take (length front) name) front ≡ true → rest ≡ drop (length front) name
    → MatchOption found (bytes_eq (drop (length rest - length back) rest) back ≡ false) (λ x. (bytes_eq (drop (length rest - length back) rest) back ≡ true) × (x.now ≡ take (length rest - length back) rest) × (length x.now + length back ≡ length rest))
    → IfSome found (λ x. name ≡ front ++ x.now ++ back)
some_between name front back rest None begins after cases = tt
some_between name front back rest (Some x) begins after cases = between name front back rest x.now begins after cases.0 cases.1

-- a name with a number in it
pub new_if : (name number : List ℕ) (is : Bool) → is ≡ is_number number → name ≡ codes ".resfork-" ++ number ++ codes ".new" → OnTrue is (IsNewName name)
new_if name number true told whole = (number, sym told, whole)
new_if name number false told whole = tt

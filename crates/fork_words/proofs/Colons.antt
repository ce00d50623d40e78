-- Words that a colon parts.
use Rattle.std.proofs.Common.{◌≡◌, ◌∙◌, ℕ, ◌<◌, ◌≤◌, List, [], ◌∷◌, ◌++◌, length, take, drop, Bool, true, false, cond, sym, ap, subst, arith, append_assoc, length-append}
use Rattle.std.proofs.Math.Seq.{drop-append_seam}
use Rattle.std.proofs.lemmas.List.{take-append-drop}
use Rattle.std.specs.Str.Parse.{AllDigits}
use Rattle.std.specs.Str.Pattern.{LacksTextAt, RFindsText, SplitsAroundMatch}
use Rattle.fork_words.specs.Named.{IsId, NamesOne}

-- a colon is in it
abbrev pub HasColon : List ℕ → Type 0
HasColon word = (before : List ℕ) × (after : List ℕ) × (word ≡ before ++ 58 ∷ after)

no_digit : (before after : List ℕ) → AllDigits 10 (before ++ 58 ∷ after) → ⊥
no_digit [] after digits = omega (arith, digits.0)
no_digit (first ∷ before) after digits = no_digit before after digits.1

unsigned : (is_minus is_plus : Bool) (first : ℕ) (rest : List ℕ) → AllDigits 10 (cond is_minus rest (drop (cond is_plus 1 0) (first ∷ rest))) → AllDigits 10 rest
unsigned true is_plus first rest digits = digits
unsigned false true first rest digits = digits
unsigned false false first rest digits = digits.1

-- an id has no colon
pub id_has_none : (word : List ℕ) → IsId word → ¬ HasColon word
id_has_none word is ([], after, same) = let at : IsId (58 ∷ after) = subst (λ (t : List ℕ). IsId t) same is in omega (arith, at.0.1.0)
id_has_none word is (first ∷ before, after, same) =
    let at : IsId (first ∷ (before ++ 58 ∷ after)) = subst (λ (t : List ℕ). IsId t) same is in
    no_digit before after (unsigned _ _ first (before ++ 58 ∷ after) at.0.1)

tail_same : (a b : ℕ) (xs ys : List ℕ) → a ∷ xs ≡ b ∷ ys → xs ≡ ys
tail_same a b xs ys same = cc

-- what is after the last colon
pub after_last : (front back kind id : List ℕ) → front ++ 58 ∷ back ≡ kind ++ 58 ∷ id → ¬ HasColon back → ¬ HasColon id → back ≡ id
after_last [] back [] id same none others = tail_same _ _ _ _ same
after_last [] back (first ∷ kind) id same none others = absurd (none (kind, id, tail_same _ _ _ _ same))
after_last (first ∷ front) back [] id same none others = absurd (others (front, back, sym (tail_same _ _ _ _ same)))
after_last (first ∷ front) back (second ∷ kind) id same none others = after_last front back kind id (tail_same _ _ _ _ same) none others

-- where no colon is found from a place on, none is there
no_colon_from : (word front back : List ℕ) → word ≡ front ++ 58 ∷ back → ¬ LacksTextAt (58 ∷ []) word (length front)
no_colon_from word front back same lacks = lacks back (ap (λ (t : List ℕ). drop (length front) t) same ∙ drop-append_seam front (58 ∷ back))

within : (word front back : List ℕ) → word ≡ front ++ 58 ∷ back → length front < length word
within word front back same = let count = ap (λ (t : List ℕ). length t) same ∙ length-append front (58 ∷ back) in omega arith

-- without a colon it is no TYPE:ID
pub none_is : (word : List ℕ) → ((i : ℕ) → i ≤ length word → LacksTextAt (58 ∷ []) word i) → (kind id : List ℕ) → ¬ NamesOne word kind id
none_is word lacks kind id (four, same, is) =
    let inside = within word kind id same in
    no_colon_from word kind id same (lacks (length kind) (omega arith))

-- where what is after the last colon is no id, it is no TYPE:ID
pub last_is : (word front back : List ℕ) → SplitsAroundMatch (RFindsText (58 ∷ [])) word front back → ¬ IsId back → (kind id : List ℕ) → ¬ NamesOne word kind id
last_is word front back (i, j, found, is_front, is_back, order, front_length, back_length) refused kind id (four, same, is) =
    let parts : word ≡ front ++ 58 ∷ back = rw (is_front, is_back) (sym (take-append-drop i word) ∙ ap (λ (t : List ℕ). take i word ++ t) found.1.split) in
    let none : ¬ HasColon back = λ ((before, after, more) : HasColon back).
    let longer : word ≡ (front ++ 58 ∷ before) ++ 58 ∷ after = parts ∙ ap (λ (t : List ℕ). front ++ 58 ∷ t) more ∙ sym (append_assoc front (58 ∷ before) (58 ∷ after)) in
    let count = length-append front (58 ∷ before) in
    let inside = within word (front ++ 58 ∷ before) after longer in
    no_colon_from word (front ++ 58 ∷ before) after longer (found.0 (length (front ++ 58 ∷ before)) (omega arith) (omega arith)) in
    refused (subst (λ (t : List ℕ). IsId t) (sym (after_last front back kind id (sym parts ∙ same) none (id_has_none id is))) is)

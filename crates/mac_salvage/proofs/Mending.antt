-- A text is mended one character after the other.
use Rattle.std.proofs.Common.{◌≡◌, ◌⊎◌, inl, inr, ℕ, ◌+◌, ◌-◌, ◌<◌, ◌≤◌, ◌∙◌, Bool, true, false, not, ◌&&◌, ◌||◌, List, [], ◌∷◌, ◌++◌, length, take, drop, get_or, refl, sym, ap, subst, arith, length-drop, append_assoc}
use Rattle.std.specs.Prelude.{◌==◌}
use Rattle.std.specs.List.{list_all}
use Rattle.std.proofs.lemmas.Bool.{and_parts, cond-true, or_cases, or_left, or_right}
use Rattle.std.proofs.lemmas.List.{drop_all, take_all}
use Rattle.mac_files.proofs.BinHexLines.{opened}
use Rattle.mac_files.specs.BinHex.{is_skipped}
use Rattle.mac_salvage.specs.Texts.{begins_with_digit, belongs, is_digit, mended, mended_character}

-- all that is left of a text from a place on
pub rest_of : (text : List ℕ) (at : ℕ) → take (length text - at) (drop at text) ≡ drop at text
rest_of text at = take_all (length text - at) (drop at text) (omega (arith, length-drop at text))

pub mended_at_end : (text : List ℕ) (at : ℕ) → length text ≤ at → mended (drop at text) ≡ []
unfolding mended
mended_at_end text at h = rw (drop_all at text h) refl

-- the next character, and those after it
pub mended_at : (text : List ℕ) (at : ℕ) → at < length text
    → mended (drop at text) ≡ mended_character (get_or text at 0) (drop (at + 1) text) ∷ mended (drop (at + 1) text)
unfolding mended
mended_at text at h = ap mended (opened text at h)

-- one more character is mended
pub mended_more : (text done : List ℕ) (at : ℕ) → at < length text → done ++ mended (drop at text) ≡ mended text
    → (done ++ mended_character (get_or text at 0) (take (length text - (at + 1)) (drop (at + 1) text)) ∷ []) ++ mended (drop (at + 1) text) ≡ mended text
mended_more text done at h so_far =
    rw (rest_of text (at + 1)) (append_assoc done (mended_character (get_or text at 0) (drop (at + 1) text) ∷ []) (mended (drop (at + 1) text))
    ∙ ap (λ (t : List ℕ). done ++ t) (sym (mended_at text at h)) ∙ so_far)

pub mended_length : (text : List ℕ) → length (mended text) ≡ length text
unfolding mended
mended_length [] = refl
mended_length (c ∷ cs) = omega (arith, mended_length cs)

-- a digit and a character that is skipped belong where they are
good_belongs : (c : ℕ) (rest : List ℕ) → (is_digit c || is_skipped c) ≡ true → belongs c rest ≡ true
good_belongs c rest good =
    elim (or_cases (is_digit c) (is_skipped c) good) [
      | inl digit ↦ or_left (is_digit c) (is_skipped c || ((c == 58) && not (begins_with_digit rest))) digit
      | inr skipped ↦ or_right (is_digit c) (is_skipped c || ((c == 58) && not (begins_with_digit rest))) (or_left (is_skipped c) ((c == 58) && not (begins_with_digit rest)) skipped)
    ]

colon_belongs : belongs 58 [] ≡ true
colon_belongs = or_right (is_digit 58) (is_skipped 58 || ((58 == 58) && not (begins_with_digit []))) refl

pub good_kept : (text : List ℕ) → list_all (λ (c : ℕ). is_digit c || is_skipped c) text ≡ true → mended (text ++ 58 ∷ []) ≡ text ++ 58 ∷ []
unfolding mended
good_kept [] good = ap (λ (c : ℕ). c ∷ []) (cond-true (belongs 58 []) 58 33 colon_belongs)
good_kept (c ∷ cs) good =
    let parts = and_parts (is_digit c || is_skipped c) (list_all (λ (d : ℕ). is_digit d || is_skipped d) cs) good in
    ap (λ (d : ℕ). d ∷ mended (cs ++ 58 ∷ [])) (cond-true (belongs c (cs ++ 58 ∷ [])) c 33 (good_belongs c (cs ++ 58 ∷ []) parts.0))
    ∙ ap (λ (t : List ℕ). c ∷ t) (good_kept cs parts.1)

-- What begins with a token is read as that token.
use Rattle.std.proofs.Common.{◌≡◌, ℕ, Bool, true, false, cond, eqb, List, [], ◌∷◌, ◌++◌, refl, sym, ap, subst, ◌∙◌, append_assoc}
use Rattle.std.specs.Prelude.{IsTrue, not, ◌||◌, ◌&&◌}
use Rattle.std.specs.List.{list_all}
use Rattle.std.proofs.lemmas.Bool.{eqb-true, not-true, and_parts, or_parts, not_from_false, and_right}
use Rattle.script_text.specs.Tokens.{Token, Equals, Semicolon, Word, Single, Double, Hexadecimal, is_blank, is_boundary, is_word_byte, is_at_boundary, is_comment, spelled, ends, IsToken}
use Rattle.script_text.specs.Front.{Front, End, Taken, front, after, bounded, closed_at, is_quote, is_no_blank, is_no_word_byte, starts_quote, token_front}
use Rattle.script_text.proofs.ByteTests.{at_number, passes_twice}
use Rattle.script_text.proofs.FrontParts.{halts, front-append, after-append}

-- at a boundary a word stops, and no double quote opens
boundary_stops : (a b c : Bool) → a ≡ true → not (not (a || b || c)) ≡ true
boundary_stops true b c e = refl
boundary_stops false b c e = absurd cc

boundary_halts : (rest : List ℕ) → is_at_boundary rest ≡ true → halts is_no_word_byte rest ≡ true
boundary_halts [] e = refl
boundary_halts (byte ∷ rest) e = boundary_stops (is_boundary byte) (eqb byte 39) (eqb byte 34) e

no_quote_after : (bytes rest : List ℕ) → list_all is_word_byte bytes ≡ true → is_at_boundary rest ≡ true → starts_quote (bytes ++ rest) ≡ false
no_quote_after [] [] all bound = refl
no_quote_after [] (byte ∷ rest) all bound = at_number is_boundary byte 34 refl bound
no_quote_after (byte ∷ bytes) rest all bound = at_number is_word_byte byte 34 refl (and_parts _ _ all).0

-- a text in quotes, read from after the first quote
closed_again : (token : Token) (quote : ℕ) (inner rest : List ℕ) → eqb quote quote ≡ true → list_all (λ byte. not (eqb byte quote)) inner ≡ true → is_at_boundary rest ≡ true
    → (front (is_quote quote) ((inner ++ quote ∷ []) ++ rest) ≡ inner) × (closed_at token (after (is_quote quote) ((inner ++ quote ∷ []) ++ rest)) ≡ Taken token rest)
closed_again token quote inner rest halt all bound =
    let regrouped : (inner ++ quote ∷ []) ++ rest ≡ inner ++ (quote ∷ rest) = append_assoc inner (quote ∷ []) rest in (
      ap (front (is_quote quote)) regrouped ∙ front-append (is_quote quote) inner (quote ∷ rest) all halt,
      ap (λ (t : List ℕ). closed_at token (after (is_quote quote) t)) regrouped ∙ ap (closed_at token) (after-append (is_quote quote) inner (quote ∷ rest) all halt) ∙ rw bound refl,
    )

six_false : (a b c d e f : Bool) (u v w x y z last : Front) → a ≡ false → b ≡ false → c ≡ false → d ≡ false → e ≡ false → f ≡ false → cond a u (cond b v (cond c w (cond d x (cond e y (cond f z last))))) ≡ last
six_false a b c d e f u v w x y z last p q r s t o = rw (p, q, r, s, t, o) refl

-- what begins with a token is read as that token
pub token_again : (token : Token) (rest : List ℕ) → IsToken token → IsTrue (ends token rest) → token_front (spelled token ++ rest) ≡ Taken token rest
token_again Equals rest is ended = refl
token_again Semicolon rest is ended = refl
token_again (Single inner) rest is ended =
    let both = closed_again (Single inner) 39 inner rest refl is ended in
    ap (λ (t : List ℕ). closed_at (Single t) (after (is_quote 39) ((inner ++ 39 ∷ []) ++ rest))) both.0 ∙ both.1
token_again (Double inner) rest is ended =
    let both = closed_again (Double inner) 34 inner rest refl is ended in
    ap (λ (t : List ℕ). closed_at (Double t) (after (is_quote 34) ((inner ++ 34 ∷ []) ++ rest))) both.0 ∙ both.1
token_again (Hexadecimal inner) rest is ended =
    let both = closed_again (Hexadecimal inner) 34 inner rest refl is ended in
    ap (λ (t : List ℕ). closed_at (Hexadecimal t) (after (is_quote 34) ((inner ++ 34 ∷ []) ++ rest))) both.0 ∙ both.1
token_again (Word []) rest is ended = absurd (is.0 refl)
token_again (Word (byte ∷ bytes)) rest is ended =
    let first : is_word_byte byte ≡ true = (and_parts (is_word_byte byte) _ is.1).0 in
    let all = passes_twice is_word_byte (byte ∷ bytes) is.1 in
    let halt = boundary_halts rest ended in
    let comment : eqb byte 35 ≡ false = at_number is_word_byte byte 35 refl first in
    let equals : eqb byte 61 ≡ false = at_number is_word_byte byte 61 refl first in
    let semicolon : eqb byte 59 ≡ false = at_number is_word_byte byte 59 refl first in
    let single : eqb byte 39 ≡ false = at_number is_word_byte byte 39 refl first in
    let double : eqb byte 34 ≡ false = at_number is_word_byte byte 34 refl first in
    let no_digits : (eqb byte 36 && starts_quote (bytes ++ rest)) ≡ false = and_right (eqb byte 36) (starts_quote (bytes ++ rest)) (no_quote_after bytes rest (and_parts (is_word_byte byte) _ is.1).1 ended) in
    six_false _ _ _ _ _ _ _ _ _ _ _ _ _ comment equals semicolon single double no_digits ∙
    (ap (λ (t : List ℕ). bounded (Word t) (after is_no_word_byte ((byte ∷ bytes) ++ rest))) (front-append is_no_word_byte (byte ∷ bytes) rest all halt)
    ∙ ap (bounded (Word (byte ∷ bytes))) (after-append is_no_word_byte (byte ∷ bytes) rest all halt) ∙ rw ended refl)

-- a comment is read as the end
pub end_again : (comment : List ℕ) → is_comment comment ≡ true → token_front comment ≡ End
end_again [] e = refl
end_again (byte ∷ rest) e = rw e refl

-- a byte of a word is no blank
word_no_blank : (byte : ℕ) → is_word_byte byte ≡ true → is_no_blank byte ≡ true
word_no_blank byte e =
    let all = not-true (is_boundary byte || eqb byte 39 || eqb byte 34) e in
    let one = (or_parts (is_boundary byte || eqb byte 39) (eqb byte 34) all).0 in
    let two = (or_parts (is_boundary byte) (eqb byte 39) one).0 in
    let three = (or_parts (is_blank byte || eqb byte 61 || eqb byte 59) (eqb byte 35) two).0 in
    let four = (or_parts (is_blank byte || eqb byte 61) (eqb byte 59) three).0 in
    not_from_false (is_blank byte) (or_parts (is_blank byte) (eqb byte 61) four).0

-- neither a token nor a comment begins with a blank
pub token_halts : (token : Token) (rest : List ℕ) → IsToken token → halts is_no_blank (spelled token ++ rest) ≡ true
token_halts Equals rest is = refl
token_halts Semicolon rest is = refl
token_halts (Single inner) rest is = refl
token_halts (Double inner) rest is = refl
token_halts (Hexadecimal inner) rest is = refl
token_halts (Word []) rest is = absurd (is.0 refl)
token_halts (Word (byte ∷ bytes)) rest is = word_no_blank byte (and_parts (is_word_byte byte) _ is.1).0

-- a comment does not begin with a blank
pub comment_halts : (comment : List ℕ) → is_comment comment ≡ true → halts is_no_blank comment ≡ true
comment_halts [] e = refl
comment_halts (byte ∷ rest) e = subst (λ (n : ℕ). is_no_blank n ≡ true) (sym (eqb-true byte 35 e)) refl

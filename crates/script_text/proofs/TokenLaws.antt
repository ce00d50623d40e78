-- The first token that is read from the left is the first token of the line, and no other.
use Rattle.std.proofs.Common.{◌≡◌, ℕ, ◌+◌, List, [], ◌∷◌, ◌++◌, refl, sym, ap, subst, ◌∙◌, append_assoc, ◌<◌, length, arith, length-append}
use Rattle.std.specs.Prelude.{Option, None, Some, Result, Ok, Err, IfOk, IfSome, IfNone, OnErr}
use Rattle.std.specs.Borrow.{Bor}
use Rattle.script_text.specs.declared.token.Token.{Token as Read}
use Rattle.script_text.specs.Tokens.{Token, Equals, Semicolon, Word, Single, Double, Hexadecimal, is_blank, spelled, IsToken, AreTokens, TakesToken}
use Rattle.script_text.specs.Front.{End, Taken, Fault, front, after, is_no_blank, token_front, first_front, view, Shows}
use Rattle.script_text.proofs.ByteTests.{passes_twice, passes_back}
use Rattle.script_text.proofs.FrontParts.{after-append, front-passes, after-halts, front-after}
use Rattle.script_text.proofs.TokenAgain.{token_again, end_again, token_halts, comment_halts}
use Rattle.script_text.proofs.TokenFound.{token_found, end_found}

-- a line that begins with a token is read so
pub front_of_tokens : (line : List ℕ) (token : Token) (tokens : List Token) → AreTokens line (token ∷ tokens) → (rest : List ℕ) × (first_front line ≡ Taken token rest) × AreTokens rest tokens
front_of_tokens line token tokens a =
    let gap = a.0 in
    let rest = a.1 in
    let skipped : after is_no_blank line ≡ spelled token ++ rest = ap (after is_no_blank) a.5 ∙ ap (after is_no_blank) (append_assoc gap (spelled token) rest) ∙ after-append is_no_blank gap (spelled token ++ rest) (passes_twice is_blank gap a.2) (token_halts token rest a.3) in
    (rest, ap token_front skipped ∙ token_again token rest a.3 a.4, a.6)

-- a line without tokens is read as the end
pub front_of_end : (line : List ℕ) → AreTokens line [] → first_front line ≡ End
front_of_end line a =
    ap (λ (t : List ℕ). token_front (after is_no_blank t)) a.4 ∙ ap token_front (after-append is_no_blank a.0 a.1 (passes_twice is_blank a.0 a.2) (comment_halts a.1 a.3)) ∙ end_again a.1 a.3

-- a token that is read is the first of the line
pub tokens_of_front : (line : List ℕ) (token : Token) (rest : List ℕ) (tokens : List Token) → first_front line ≡ Taken token rest → AreTokens rest tokens → AreTokens line (token ∷ tokens)
tokens_of_front line token rest tokens e more =
    let found = token_found (after is_no_blank line) token rest (after-halts is_no_blank line) e in (
      front is_no_blank line,
      rest,
      passes_back is_blank (front is_no_blank line) (front-passes is_no_blank line),
      found.is,
      found.ended,
      sym (front-after is_no_blank line) ∙ ap (λ (t : List ℕ). front is_no_blank line ++ t) found.text ∙ sym (append_assoc (front is_no_blank line) (spelled token) rest),
      more,
    )

-- a line that is read as the end has no tokens
pub tokens_of_end : (line : List ℕ) → first_front line ≡ End → AreTokens line []
tokens_of_end line e = (front is_no_blank line, after is_no_blank line, passes_back is_blank (front is_no_blank line) (front-passes is_no_blank line), end_found (after is_no_blank line) e, sym (front-after is_no_blank line))

-- no line has two lists of tokens
pub one_tokens : (line : List ℕ) (a b : List Token) → AreTokens line a → AreTokens line b → a ≡ b
one_tokens line [] [] p q = refl
one_tokens line [] (token ∷ tokens) p q = let f = front_of_tokens line token tokens q in let bad : End ≡ Taken token f.0 = sym (front_of_end line p) ∙ f.1 in absurd cc
one_tokens line (token ∷ tokens) [] p q = let f = front_of_tokens line token tokens p in let bad : End ≡ Taken token f.0 = sym (front_of_end line q) ∙ f.1 in absurd cc
one_tokens line (token ∷ tokens) (other ∷ others) p q =
    let f = front_of_tokens line token tokens p in
    let g = front_of_tokens line other others q in
    let same : Taken token f.0 ≡ Taken other g.0 = sym f.1 ∙ g.1 in
    let head : token ≡ other = cc in
    let rest : f.0 ≡ g.0 = cc in
    let tail : tokens ≡ others = one_tokens f.0 tokens others f.2 (subst (λ (t : List ℕ). AreTokens t others) (sym rest) g.2) in
    cc

-- reading a token goes both ways
takes_there : (line : List ℕ) (token : Token) (rest : List ℕ) → first_front line ≡ Taken token rest → (read : List Token) → AreTokens line read → (others : List Token) × (read ≡ token ∷ others) × AreTokens rest others
takes_there line token rest e [] a = let bad : End ≡ Taken token rest = sym (front_of_end line a) ∙ e in absurd cc
takes_there line token rest e (other ∷ others) a =
    let f = front_of_tokens line other others a in
    let same : Taken other f.0 ≡ Taken token rest = sym f.1 ∙ e in
    let here : f.0 ≡ rest = cc in
    let this : other ≡ token = cc in
    (others, ap (λ (t : Token). t ∷ others) this, subst (λ (t : List ℕ). AreTokens t others) here f.2)

-- the tokens are the one that is read and those of the rest, and no others
pub takes_front : (line : List ℕ) (token : Token) (rest : List ℕ) → first_front line ≡ Taken token rest → TakesToken line token rest
takes_front line token rest e read = (takes_there line token rest e read, back)
  where
    back : (others : List Token) × (read ≡ token ∷ others) × AreTokens rest others → AreTokens line read
    back found = subst (λ (t : List Token). AreTokens line t) (sym found.1) (tokens_of_front line token rest found.0 e found.2)

-- a token has one byte at least
spelled_some : (token : Token) → IsToken token → 0 < length (spelled token)
spelled_some Equals is = omega arith
spelled_some Semicolon is = omega arith
spelled_some (Single inner) is = omega arith
spelled_some (Double inner) is = omega arith
spelled_some (Hexadecimal inner) is = omega arith
spelled_some (Word []) is = absurd (is.0 refl)
spelled_some (Word (byte ∷ bytes)) is = omega arith

-- what follows a token is shorter than the line
shorter_front : (line : List ℕ) (token : Token) (rest : List ℕ) → first_front line ≡ Taken token rest → length rest < length line
shorter_front line token rest e =
    let found = token_found (after is_no_blank line) token rest (after-halts is_no_blank line) e in
    let some = spelled_some token found.is in
    let all : length (after is_no_blank line) ≡ length (spelled token) + length rest = ap length found.text ∙ length-append (spelled token) rest in
    let whole : length (front is_no_blank line) + length (after is_no_blank line) ≡ length line = sym (length-append (front is_no_blank line) (after is_no_blank line)) ∙ ap length (front-after is_no_blank line) in
    omega (arith, some, all, whole)

-- what a function returned as the rest is shorter than the line
pub shown_shorter : {E : Type 0} (line : List ℕ) (r : Result (Option (Read × Bor (List ℕ))) E) → Shows r (first_front line) → IfOk r (λ found. IfSome found (λ pair. length pair.1.now < length line))
shown_shorter line (Ok None) e = tt
shown_shorter line (Ok (Some pair)) e = shorter_front line (view pair.0) pair.1.now e
shown_shorter line (Err x) e = tt

no_front : (line : List ℕ) (tokens : List Token) → first_front line ≡ Fault → AreTokens line tokens → ⊥
no_front line [] e a = let bad : Fault ≡ End = sym e ∙ front_of_end line a in absurd cc
no_front line (token ∷ tokens) e a = let f = front_of_tokens line token tokens a in let bad : Fault ≡ Taken token f.0 = sym e ∙ f.1 in absurd cc

-- what it returned as the token is the first of the line
pub shown_token : {E : Type 0} (line : List ℕ) (r : Result (Option (Read × Bor (List ℕ))) E) → Shows r (first_front line) → IfOk r (λ found. IfSome found (λ pair. TakesToken line (view pair.0) pair.1.now))
shown_token line (Ok None) e = tt
shown_token line (Ok (Some pair)) e = takes_front line (view pair.0) pair.1.now e
shown_token line (Err x) e = tt

-- where it returned none, the line has no tokens
pub shown_end : {E : Type 0} (line : List ℕ) (r : Result (Option (Read × Bor (List ℕ))) E) → Shows r (first_front line) → IfOk r (λ found. IfNone found (AreTokens line []))
shown_end line (Ok None) e = tokens_of_end line e
shown_end line (Ok (Some pair)) e = tt
shown_end line (Err x) e = tt

-- where it returned the fault, the line has bytes that are none
pub shown_none : {E : Type 0} (line : List ℕ) (r : Result (Option (Read × Bor (List ℕ))) E) → Shows r (first_front line) → OnErr r ((read : List Token) → AreTokens line read → ⊥)
shown_none line (Ok None) e = tt
shown_none line (Ok (Some pair)) e = tt
shown_none line (Err x) e = λ tokens a. no_front line tokens e a

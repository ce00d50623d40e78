-- Calls of an answer that are read one by one.
use Rattle.std.proofs.Common.{◌≡◌, ◌≢◌, ℕ, ◌<◌, ◌≤◌, ◌-◌, min, map, take, Bool, true, false, List, [], ◌∷◌, ◌++◌, length, eqb, drop, refl, sym, ap, subst, ◌∙◌, append_assoc, append-nil, arith, codes}
use Rattle.std.specs.Prelude.{not, MatchBool}
use Rattle.std.proofs.lemmas.Bool.{eqb-true, eqb-false}
use Rattle.std.specs.Str.{bytes_eq}
use Rattle.std.proofs.lemmas.List.{take_rest, nil_from_length}
use Rattle.std.proofs.lemmas.Slice.Eq.{bytes_eq-Decides}
use Rattle.script_lang.specs.declared.line.NumberOperand.{NumberOperand}
use Rattle.script_lang.specs.declared.line.WrittenAnswer.{WrittenAnswer}
use Rattle.script_lang.specs.declared.line.WrittenCall.{WrittenCall}
use Rattle.script_text.specs.Tokens.{Token, Word}
use Rattle.script_text.specs.Answers.{IsWrittenCall, AreCalls, AreFewCalls, IsAnswer, MayFollow}
use Rattle.script_lang.specs.Calls.{most_calls}
use Rattle.script_text.specs.Operands.{IsNumberOperand}
use Rattle.script_text.proofs.OneAnswer.{one_written, one_calls}

-- the tokens in front of `rest` are these calls: what is left decides on the whole
pub record Calling (names : List (List ℕ)) (tokens rest : List Token) (calls : List WrittenCall) : Type 0 where
  pub there : (more : List WrittenCall) → AreCalls names rest more → AreCalls names tokens (calls ++ more)
  pub back : (all : List WrittenCall) → AreCalls names tokens all → (more : List WrittenCall) × (all ≡ calls ++ more) × AreCalls names rest more

-- at the start
pub calling_none : (names : List (List ℕ)) (tokens : List Token) → Calling names tokens tokens []
calling_none names tokens = record { there = λ more h. h; back = λ all h. (all, refl, h) }

one_more : (names : List (List ℕ)) (name operand : Token) (after : List Token) (written : WrittenCall) (more : List WrittenCall) → IsWrittenCall names name operand written → MayFollow after → AreCalls names (drop 1 after) more → AreCalls names (name ∷ operand ∷ after) (written ∷ more)
one_more names name operand [] written [] is may h = is
one_more names name operand [] written (other ∷ more) is may h = absurd h
one_more names name operand (mark ∷ []) written more is may h = absurd (may.1 refl)
one_more names name operand (mark ∷ token ∷ tokens) written more is may h = (is, may.0, h)

one_less : (names : List (List ℕ)) (name operand : Token) (after : List Token) (written : WrittenCall) (all : List WrittenCall) → IsWrittenCall names name operand written → AreCalls names (name ∷ operand ∷ after) all → (others : List WrittenCall) × (all ≡ written ∷ others) × AreCalls names (drop 1 after) others
one_less names name operand [] written [] is h = absurd h
one_less names name operand [] written (first ∷ second ∷ others) is h = absurd h
one_less names name operand [] written (first ∷ []) is h = ([], ap (λ (w : WrittenCall). w ∷ []) (one_written names name operand first written h is), tt)
one_less names name operand (mark ∷ []) written all is h = absurd h
one_less names name operand (mark ∷ token ∷ tokens) written [] is h = absurd h
one_less names name operand (mark ∷ token ∷ tokens) written (first ∷ others) is h = (others, ap (λ (w : WrittenCall). w ∷ others) (one_written names name operand first written h.0 is), h.2)

-- one call more
pub calling_more : (names : List (List ℕ)) (tokens : List Token) (calls : List WrittenCall) (name operand : Token) (after : List Token) (written : WrittenCall) → Calling names tokens (name ∷ operand ∷ after) calls → IsWrittenCall names name operand written → MayFollow after → Calling names tokens (drop 1 after) (calls ++ written ∷ [])
calling_more names tokens calls name operand after written c is may = record { there = there; back = back }
  where
    there : (more : List WrittenCall) → AreCalls names (drop 1 after) more → AreCalls names tokens ((calls ++ written ∷ []) ++ more)
    there more h =
        subst (λ (t : List WrittenCall). AreCalls names tokens t) (sym (append_assoc calls (written ∷ []) more)) (c.there (written ∷ more) (one_more names name operand after written more is may h))

    back : (all : List WrittenCall) → AreCalls names tokens all → (more : List WrittenCall) × (all ≡ (calls ++ written ∷ []) ++ more) × AreCalls names (drop 1 after) more
    back all h =
        let found = c.back all h in
        let split = one_less names name operand after written found.0 is found.2 in
        (split.0, found.1 ∙ ap (λ (t : List WrittenCall). calls ++ t) split.1 ∙ sym (append_assoc calls (written ∷ []) split.0), split.2)

-- two tokens that are no call
pub calling_fails : (names : List (List ℕ)) (tokens : List Token) (calls : List WrittenCall) (name operand : Token) (after : List Token) → Calling names tokens (name ∷ operand ∷ after) calls → ((written : WrittenCall) → ¬ IsWrittenCall names name operand written) → (all : List WrittenCall) → ¬ AreCalls names tokens all
calling_fails names tokens calls name operand after c none all h = no_more after (c.back all h).0 (c.back all h).2
  where
    no_more : (after : List Token) (more : List WrittenCall) → ¬ AreCalls names (name ∷ operand ∷ after) more
    no_more [] [] h = absurd h
    no_more [] (written ∷ other ∷ more) h = absurd h
    no_more [] (written ∷ []) h = none written h
    no_more (mark ∷ []) more h = absurd h
    no_more (mark ∷ token ∷ tokens) [] h = absurd h
    no_more (mark ∷ token ∷ tokens) (written ∷ more) h = none written h.0

-- what may not be after a call
pub calling_halts : (names : List (List ℕ)) (tokens : List Token) (calls : List WrittenCall) (name operand : Token) (after : List Token) → Calling names tokens (name ∷ operand ∷ after) calls → ¬ MayFollow after → (all : List WrittenCall) → ¬ AreCalls names tokens all
calling_halts names tokens calls name operand after c none all h = no_more after (c.back all h).0 none (c.back all h).2
  where
    no_more : (after : List Token) (more : List WrittenCall) → ¬ MayFollow after → ¬ AreCalls names (name ∷ operand ∷ after) more
    no_more [] more none h = none tt
    no_more (mark ∷ []) more none h = absurd h
    no_more (mark ∷ token ∷ tokens) [] none h = absurd h
    no_more (mark ∷ token ∷ tokens) (written ∷ more) none h = none (h.1, λ e. absurd cc)

-- no token is left
calling_all : (names : List (List ℕ)) (tokens rest : List Token) (calls : List WrittenCall) → Calling names tokens rest calls → rest ≡ [] → AreCalls names tokens calls
calling_all names tokens rest calls c e =
    subst (λ (t : List WrittenCall). AreCalls names tokens t) (append-nil calls) (c.there [] (subst (λ (t : List Token). AreCalls names t []) (sym e) tt))

-- one token is left
calling_odd : (names : List (List ℕ)) (tokens rest : List Token) (calls : List WrittenCall) → Calling names tokens rest calls → length rest < 2 → rest ≢ [] → (all : List WrittenCall) → ¬ AreCalls names tokens all
calling_odd names tokens rest calls c short some all h = odd rest short some (c.back all h).0 (c.back all h).2
  where
    odd : (rest : List Token) → length rest < 2 → rest ≢ [] → (more : List WrittenCall) → ¬ AreCalls names rest more
    odd [] short some more h = some refl
    odd (token ∷ []) short some more h = absurd h
    odd (token ∷ other ∷ rest) short some more h = absurd (omega arith)

-- fewer than two tokens are left
pub calling_ends : (names : List (List ℕ)) (tokens rest : List Token) (calls : List WrittenCall) (ends : Bool) → Calling names tokens rest calls → length rest < 2 → ends ≡ eqb (length rest) 0 → MatchBool ends (AreCalls names tokens calls) ((all : List WrittenCall) → ¬ AreCalls names tokens all)
calling_ends names tokens rest calls true c short e = calling_all names tokens rest calls c (nil_from_length rest (eqb-true (length rest) 0 (sym e)))
calling_ends names tokens rest calls false c short e = calling_odd names tokens rest calls c short (λ none. eqb-false (length rest) 0 (sym e) (ap length none))

-- what is after the keyword is a value and the calls
after : (names : List (List ℕ)) (tokens rest : List Token) (answer : WrittenAnswer) → tokens ≡ Word (codes "gz") ∷ rest → (is : IsAnswer names tokens answer) → rest ≡ is.0 ∷ is.1
after names tokens rest answer begins is = let same : Word (codes "gz") ∷ rest ≡ Word (codes "gz") ∷ is.0 ∷ is.1 = sym begins ∙ is.2 in cc

-- a token that is no value
pub not_a_value : (names : List (List ℕ)) (tokens : List Token) (value : Token) (calls : List Token) → tokens ≡ Word (codes "gz") ∷ value ∷ calls → ((x : NumberOperand) → ¬ IsNumberOperand names value x) → (answer : WrittenAnswer) → ¬ IsAnswer names tokens answer
not_a_value names tokens value calls begins none answer is =
    let same : value ∷ calls ≡ is.0 ∷ is.1 = after names tokens (value ∷ calls) answer begins is in
    let this : is.0 ≡ value = cc in
    none answer.value (subst (λ (t : Token). IsNumberOperand names t answer.value) this is.3)

calls_are : (names : List (List ℕ)) (tokens : List Token) (value : Token) (calls : List Token) (answer : WrittenAnswer) → tokens ≡ Word (codes "gz") ∷ value ∷ calls → IsAnswer names tokens answer → AreCalls names calls answer.calls
calls_are names tokens value calls answer begins is =
    let same : value ∷ calls ≡ is.0 ∷ is.1 = after names tokens (value ∷ calls) answer begins is in
    let these : is.1 ≡ calls = cc in
    subst (λ (t : List Token). AreCalls names t answer.calls) these is.4

-- tokens after the value that are no calls, or too many
pub not_calls : (names : List (List ℕ)) (tokens : List Token) (value : Token) (calls : List Token) → tokens ≡ Word (codes "gz") ∷ value ∷ calls → ((xs : List WrittenCall) → ¬ AreFewCalls names calls xs) → (answer : WrittenAnswer) → ¬ IsAnswer names tokens answer
not_calls names tokens value calls begins none answer is = none answer.calls (calls_are names tokens value calls answer begins is, is.5)

-- more calls than an answer may have
pub too_many : (names : List (List ℕ)) (calls : List Token) (xs : List WrittenCall) → AreCalls names calls xs → most_calls < length xs → (others : List WrittenCall) → ¬ AreFewCalls names calls others
too_many names calls xs are many others few =
    let same = ap length (one_calls names calls xs others are few.0) in
    let small = few.1 in
    absurd (omega (arith, same, small, many))

next_drop : {X : Type 0} (after : List X) (n : ℕ) → n ≡ min (length after) 1 → drop n after ≡ drop 1 after
next_drop [] n e = ap (λ (k : ℕ). drop k []) e
next_drop (x ∷ xs) n e = let one : n ≡ 1 = omega arith in ap (λ (k : ℕ). drop k (x ∷ xs)) one

map-drop : {X Y : Type 0} (f : X → Y) (xs : List X) → map f (drop 1 xs) ≡ drop 1 (map f xs)
map-drop f [] = refl
map-drop f (x ∷ xs) = refl

-- what is left after a call and its semicolon, if there is one
pub next_tokens : {X Y : Type 0} (f : X → Y) (after : List X) (n : ℕ) → n ≡ min (length after) 1 → drop 1 (map f after) ≡ map f (take (length after - n) (drop n after))
next_tokens f after n e = sym (ap (λ (t : List _). map f t) (take_rest after n ∙ next_drop after n e) ∙ map-drop f after)

-- two words of which a test says that they don't differ
pub same_word : (a b : List ℕ) (differs : Bool) → differs ≡ not (bytes_eq a b) → differs ≡ false → a ≡ b
same_word a b differs is none = (bytes_eq-Decides a b).0 (same (bytes_eq a b) (sym is ∙ none))
  where
    same : (test : Bool) → not test ≡ false → test ≡ true
    same true e = refl
    same false e = absurd cc

-- the value and the calls of an answer
pub is_answer : (names : List (List ℕ)) (tokens : List Token) (value : Token) (calls : List Token) (answer : WrittenAnswer) → tokens ≡ Word (codes "gz") ∷ value ∷ calls → IsNumberOperand names value answer.value → AreCalls names calls answer.calls → length answer.calls ≤ most_calls → IsAnswer names tokens answer
is_answer names tokens value calls answer begins number are few = (value, calls, begins, number, are, few)

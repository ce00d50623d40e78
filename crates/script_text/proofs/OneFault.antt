-- Bytes have one first fault at most, and a script has none.
use Rattle.std.proofs.Common.{◌≡◌, ℕ, zero, suc, ◌+◌, ◌<◌, ◌≤◌, ◌⊎◌, inl, inr, List, [], ◌∷◌, take, Some, refl, sym, ap, subst, ◌∙◌, arith}
use Rattle.std.specs.Prelude.{slice_get}
use Rattle.std.specs.Str.Lines.{lines}
use Rattle.std.proofs.lemmas.List.{take-take}
use Rattle.std.proofs.lemmas.Bool.{cases_lt}
use Rattle.script_lang.specs.declared.line.Line.{Line}
use Rattle.script_text.specs.Tokens.{Token, AreTokens}
use Rattle.script_text.specs.Script.{AreLines, AreParted, MayStand, IsNoLine, IsFaultAt, OneFault, NoFault, names_after, names_of}
use Rattle.script_text.proofs.OneScript.{one_parted}

-- the tokens of the texts before a text, and its own, which may be there
record HasLine (number : ℕ) (names texts : List (List ℕ)) (i : ℕ) (here : List ℕ) : Type 0 where
  front : List (List Token)
  parts : AreParted (take i texts) front
  tokens : List Token
  are : AreTokens here tokens
  may : MayStand (number + i) (names_of names front) tokens

first_may : (number : ℕ) (names : List (List ℕ)) (tokens : List Token) (parted : List (List Token)) (script : List Line) → AreLines number names (tokens ∷ parted) script → MayStand number names tokens × ((rest : List Line) × AreLines (number + 1) (names_after names tokens) parted rest)
first_may number names [] parted script are = (are.0, (script, are.1))
first_may number names (token ∷ tokens) parted [] are = absurd are
first_may number names (token ∷ tokens) parted (line ∷ script) are = ((line, are.0), (script, are.1))

line_at : (number : ℕ) (names texts : List (List ℕ)) (parted : List (List Token)) (script : List Line) (i : ℕ) (here : List ℕ) → AreParted texts parted → AreLines number names parted script → slice_get texts i ≡ Some here → HasLine number names texts i here
line_at number names [] parted script i here parts are e = absurd cc
line_at number names (text ∷ texts) [] script i here parts are e = absurd parts
line_at number names (text ∷ texts) (tokens ∷ parted) script zero here parts are e =
    let same : text ≡ here = cc in
    let first = first_may number names tokens parted script are in
    record { front = []; parts = tt; tokens = tokens; are = subst (λ (t : List ℕ). AreTokens t tokens) same parts.0; may = subst (λ (n : ℕ). MayStand n names tokens) (omega arith) first.0 }
line_at number names (text ∷ texts) (tokens ∷ parted) script (suc i) here parts are e =
    let first = first_may number names tokens parted script are in
    let more = line_at (number + 1) (names_after names tokens) texts parted first.1.0 i here parts.1 first.1.1 e in
    record {
      front = tokens ∷ more.front;
      parts = (parts.0, more.parts);
      tokens = more.tokens;
      are = more.are;
      may = subst (λ (n : ℕ). MayStand n (names_of names (tokens ∷ more.front)) more.tokens) (omega arith) more.may;
    }

-- texts that are lines have no first text that is none
no_first_fault : (texts : List (List ℕ)) (parted front : List (List Token)) (script : List Line) (i : ℕ) (here : List ℕ) → AreParted texts parted → AreLines 1 [] parted script → AreParted (take i texts) front → slice_get texts i ≡ Some here → IsNoLine (i + 1) (names_of [] front) here → ⊥
no_first_fault texts parted front script i here parts are before e none =
    let found = line_at 1 [] texts parted script i here parts are e in
    let same : found.front ≡ front = one_parted (take i texts) found.front front found.parts before in
    let number : 1 + i ≡ i + 1 = omega arith in
    none found.tokens found.are (subst (λ (n : ℕ). MayStand n (names_of [] front) found.tokens) number (subst (λ (f : List (List Token)). MayStand (1 + i) (names_of [] f) found.tokens) same found.may))

slice_get-take : (n i : ℕ) (texts : List (List ℕ)) → i < n → slice_get (take n texts) i ≡ slice_get texts i
slice_get-take zero i texts lt = absurd (omega arith)
slice_get-take (suc n) i [] lt = refl
slice_get-take (suc n) zero (text ∷ texts) lt = refl
slice_get-take (suc n) (suc i) (text ∷ texts) lt = slice_get-take n i texts (omega arith)

-- a script has no fault
pub no_fault : NoFault
no_fault text zero script is fault = let small = is.0 in absurd (omega arith)
no_fault text (suc before) script is fault = no_first_fault (lines text) is.1 fault.parted script before fault.here is.2 is.3 fault.parts fault.next fault.none

-- no fault comes before another
not_before : (text : List ℕ) (m n : ℕ) → m < n → IsFaultAt text (suc m) → ¬ IsFaultAt text (suc n)
not_before text m n lt first second =
    let within : take m (take n (lines text)) ≡ take m (lines text) = take-take m n (lines text) (omega arith) in
    no_first_fault (take n (lines text)) second.parted first.parted second.front m first.here second.parts second.before
    (subst (λ (t : List (List ℕ)). AreParted t first.parted) (sym within) first.parts)
    (slice_get-take n m (lines text) lt ∙ first.next) first.none

same_place : (text : List ℕ) (m n : ℕ) → IsFaultAt text (suc m) → IsFaultAt text (suc n) → (m < n) ⊎ (n ≤ m) → (n < m) ⊎ (m ≤ n) → m ≡ n
same_place text m n p q (inl lt) other = absurd (not_before text m n lt p q)
same_place text m n p q (inr le) (inl lt) = absurd (not_before text n m lt q p)
same_place text m n p q (inr le) (inr ge) = omega arith

-- there is one first fault at most
pub one_fault : OneFault
one_fault text zero zero p q = refl
one_fault text zero (suc n) p q = let small = q.small in absurd (omega arith)
one_fault text (suc m) zero p q = let small = p.small in absurd (omega arith)
one_fault text (suc m) (suc n) p q = ap suc (same_place text m n p q (cases_lt m n) (cases_lt n m))

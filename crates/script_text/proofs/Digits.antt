-- Hexadecimal digits that are read pair by pair.
use Rattle.std.proofs.Common.{◌≡◌, ◌≢◌, ℕ, ◌<◌, List, [], ◌∷◌, ◌++◌, length, refl, sym, ap, subst, ◌∙◌, append_assoc, append-nil, eqb, Bool, true, false, arith}
use Rattle.std.specs.Prelude.{MatchBool}
use Rattle.std.proofs.lemmas.Bool.{eqb-true, eqb-false}
use Rattle.std.proofs.lemmas.List.{nil_from_length}
use Rattle.script_text.specs.Operands.{IsByte, AreDigitsOf}

-- the digits in front of `rest` are these bytes: what is left decides on the whole
pub record Decoding (digits rest bytes : List ℕ) : Type 0 where
  pub there : (more : List ℕ) → AreDigitsOf rest more → AreDigitsOf digits (bytes ++ more)
  pub back : (all : List ℕ) → AreDigitsOf digits all → (more : List ℕ) × (all ≡ bytes ++ more) × AreDigitsOf rest more

-- at the start
pub decoding_none : (digits : List ℕ) → Decoding digits digits []
decoding_none digits = record { there = λ more h. h; back = λ all h. (all, refl, h) }

one_byte : (high low a b : ℕ) → IsByte high low a → IsByte high low b → a ≡ b
one_byte high low a b p q = p.2 ∙ sym q.2

back_more : (high low byte : ℕ) (rest more : List ℕ) → IsByte high low byte → AreDigitsOf (high ∷ low ∷ rest) more → (others : List ℕ) × (more ≡ byte ∷ others) × AreDigitsOf rest others
back_more high low byte rest [] is h = absurd h
back_more high low byte rest (other ∷ others) is h = (others, ap (λ (b : ℕ). b ∷ others) (one_byte high low other byte h.0 is), h.1)

-- one pair of digits more
pub decoding_more : (digits bytes rest : List ℕ) (high low byte : ℕ) → Decoding digits (high ∷ low ∷ rest) bytes → IsByte high low byte → Decoding digits rest (bytes ++ byte ∷ [])
decoding_more digits bytes rest high low byte d is = record { there = there; back = back }
  where
    there : (more : List ℕ) → AreDigitsOf rest more → AreDigitsOf digits ((bytes ++ byte ∷ []) ++ more)
    there more h = subst (λ (t : List ℕ). AreDigitsOf digits t) (sym (append_assoc bytes (byte ∷ []) more)) (d.there (byte ∷ more) (is, h))

    back : (all : List ℕ) → AreDigitsOf digits all → (more : List ℕ) × (all ≡ (bytes ++ byte ∷ []) ++ more) × AreDigitsOf rest more
    back all h =
        let found = d.back all h in
        let split = back_more high low byte rest found.0 is found.2 in
        (split.0, found.1 ∙ ap (λ (t : List ℕ). bytes ++ t) split.1 ∙ sym (append_assoc bytes (byte ∷ []) split.0), split.2)

-- a pair that is no byte
pub decoding_fails : (digits bytes rest : List ℕ) (high low : ℕ) → Decoding digits (high ∷ low ∷ rest) bytes → ((byte : ℕ) → ¬ IsByte high low byte) → (all : List ℕ) → ¬ AreDigitsOf digits all
decoding_fails digits bytes rest high low d none all h = no_more (d.back all h).0 (d.back all h).2
  where
    no_more : (more : List ℕ) → ¬ AreDigitsOf (high ∷ low ∷ rest) more
    no_more [] h = absurd h
    no_more (byte ∷ others) h = none byte h.0

-- no digit is left
decoding_all : (digits rest bytes : List ℕ) → Decoding digits rest bytes → rest ≡ [] → AreDigitsOf digits bytes
decoding_all digits rest bytes d e = subst (λ (t : List ℕ). AreDigitsOf digits t) (append-nil bytes) (d.there [] (subst (λ (t : List ℕ). AreDigitsOf t []) (sym e) tt))

-- one digit is left
decoding_odd : (digits rest bytes : List ℕ) → Decoding digits rest bytes → length rest < 2 → rest ≢ [] → (all : List ℕ) → ¬ AreDigitsOf digits all
decoding_odd digits rest bytes d short some all h = odd rest short some (d.back all h).0 (d.back all h).2
  where
    odd : (rest : List ℕ) → length rest < 2 → rest ≢ [] → (more : List ℕ) → ¬ AreDigitsOf rest more
    odd [] short some more h = some refl
    odd (digit ∷ []) short some [] h = absurd h
    odd (digit ∷ []) short some (byte ∷ more) h = absurd h
    odd (digit ∷ other ∷ rest) short some more h = absurd (omega arith)

-- fewer than two digits are left
pub decoding_ends : (digits rest bytes : List ℕ) (ends : Bool) → Decoding digits rest bytes → length rest < 2 → ends ≡ eqb (length rest) 0 → MatchBool ends (AreDigitsOf digits bytes) ((all : List ℕ) → ¬ AreDigitsOf digits all)
decoding_ends digits rest bytes true d short e = decoding_all digits rest bytes d (nil_from_length rest (eqb-true (length rest) 0 (sym e)))
decoding_ends digits rest bytes false d short e = decoding_odd digits rest bytes d short (λ none. eqb-false (length rest) 0 (sym e) (ap length none))

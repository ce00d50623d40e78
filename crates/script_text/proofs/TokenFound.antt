-- What is read as a token begins with that token.
use Rattle.std.proofs.Common.{◌≡◌, ◌≢◌, ℕ, Bool, true, false, cond, eqb, List, [], ◌∷◌, ◌++◌, drop, refl, sym, ap, subst, ◌∙◌, append_assoc, ◌⊎◌, inl, inr}
use Rattle.std.specs.Prelude.{◌||◌, ◌&&◌}
use Rattle.std.proofs.lemmas.Bool.{eqb-true, not-true, and_parts, or_from, not_from_false}
use Rattle.script_text.specs.Tokens.{Token, Equals, Semicolon, Word, Single, Double, Hexadecimal, is_blank, is_boundary, is_word_byte, is_at_boundary, is_comment, spelled, ends, IsToken}
use Rattle.script_text.specs.Front.{End, Taken, Fault, front, after, bounded, closed_at, is_quote, is_no_blank, is_no_word_byte, starts_quote, token_front}
use Rattle.script_text.proofs.ByteTests.{passes_back}
use Rattle.script_text.proofs.FrontParts.{halts, front-pass, front-passes, after-halts, front-after}

-- which way a test went
chosen : {A : Type 0} (b : Bool) (x y z : A) → cond b x y ≡ z → ((b ≡ true) × (x ≡ z)) ⊎ ((b ≡ false) × (y ≡ z))
chosen true x y z e = inl (refl, e)
chosen false x y z e = inr (refl, e)

-- what a token was read from
pub record Reads (line : List ℕ) (token : Token) (rest : List ℕ) : Type 0 where
  pub is : IsToken token
  pub ended : ends token rest ≡ true
  pub text : line ≡ spelled token ++ rest

bounded_found : (made token : Token) (after_it rest : List ℕ) → bounded made after_it ≡ Taken token rest → (made ≡ token) × (after_it ≡ rest) × (is_at_boundary after_it ≡ true)
bounded_found made token after_it rest e = by_test (is_at_boundary after_it) refl
  where
    by_test : (b : Bool) → is_at_boundary after_it ≡ b → (made ≡ token) × (after_it ≡ rest) × (is_at_boundary after_it ≡ true)
    by_test true bound = let same : Taken made after_it ≡ Taken token rest = sym (rw bound refl) ∙ e in (cc, cc, bound)
    by_test false bound = let same : Fault ≡ Taken token rest = sym (rw bound refl) ∙ e in absurd cc

closed_found : (made token : Token) (quote : ℕ) (line parts rest : List ℕ) → parts ≡ after (is_quote quote) line → closed_at made parts ≡ Taken token rest
    → (made ≡ token) × (is_at_boundary rest ≡ true) × (line ≡ (front (is_quote quote) line ++ quote ∷ []) ++ rest)
closed_found made token quote line [] rest is e = absurd cc
closed_found made token quote line (first ∷ parts) rest is e =
    let b = bounded_found made token parts rest e in
    let halt : halts (is_quote quote) (first ∷ parts) ≡ true = subst (λ (t : List ℕ). halts (is_quote quote) t ≡ true) (sym is) (after-halts (is_quote quote) line) in
    let first_is : first ≡ quote = eqb-true first quote halt in (
      b.0,
      rw (← b.1) b.2,
      sym (front-after (is_quote quote) line) ∙ ap (λ (t : List ℕ). front (is_quote quote) line ++ t) (sym is ∙ ap (λ (n : ℕ). n ∷ parts) first_is ∙ ap (λ (t : List ℕ). quote ∷ t) b.1) ∙ sym (append_assoc (front (is_quote quote) line) (quote ∷ []) rest),
    )

single_found : (byte : ℕ) (tail : List ℕ) (token : Token) (rest : List ℕ) → eqb byte 39 ≡ true → closed_at (Single (front (is_quote 39) tail)) (after (is_quote 39) tail) ≡ Taken token rest → Reads (byte ∷ tail) token rest
single_found byte tail token rest is e =
    let c = closed_found (Single (front (is_quote 39) tail)) token 39 tail (after (is_quote 39) tail) rest refl e in
    subst (λ (t : Token). Reads (byte ∷ tail) t rest) c.0 (record { is = front-passes (is_quote 39) tail; ended = c.1; text = ap (λ (n : ℕ). n ∷ tail) (eqb-true byte 39 is) ∙ ap (λ (t : List ℕ). 39 ∷ t) c.2 })

double_found : (byte : ℕ) (tail : List ℕ) (token : Token) (rest : List ℕ) → eqb byte 34 ≡ true → closed_at (Double (front (is_quote 34) tail)) (after (is_quote 34) tail) ≡ Taken token rest → Reads (byte ∷ tail) token rest
double_found byte tail token rest is e =
    let c = closed_found (Double (front (is_quote 34) tail)) token 34 tail (after (is_quote 34) tail) rest refl e in
    subst (λ (t : Token). Reads (byte ∷ tail) t rest) c.0 (record { is = front-passes (is_quote 34) tail; ended = c.1; text = ap (λ (n : ℕ). n ∷ tail) (eqb-true byte 34 is) ∙ ap (λ (t : List ℕ). 34 ∷ t) c.2 })

hexadecimal_found : (byte : ℕ) (tail : List ℕ) (token : Token) (rest : List ℕ) → eqb byte 36 ≡ true → starts_quote tail ≡ true → closed_at (Hexadecimal (front (is_quote 34) (drop 1 tail))) (after (is_quote 34) (drop 1 tail)) ≡ Taken token rest → Reads (byte ∷ tail) token rest
hexadecimal_found byte [] token rest is quote e = absurd cc
hexadecimal_found byte (second ∷ tail) token rest is quote e =
    let c = closed_found (Hexadecimal (front (is_quote 34) tail)) token 34 tail (after (is_quote 34) tail) rest refl e in
    subst (λ (t : Token). Reads (byte ∷ second ∷ tail) t rest) c.0 (record { is = front-passes (is_quote 34) tail; ended = c.1; text = ap (λ (n : ℕ). n ∷ second ∷ tail) (eqb-true byte 36 is) ∙ ap (λ (n : ℕ). 36 ∷ n ∷ tail) (eqb-true second 34 quote) ∙ ap (λ (t : List ℕ). 36 ∷ 34 ∷ t) c.2 })

not_nil : (byte : ℕ) (bytes : List ℕ) → (byte ∷ bytes) ≢ []
not_nil byte bytes e = absurd cc

word_found : (byte : ℕ) (tail : List ℕ) (token : Token) (rest : List ℕ) → is_word_byte byte ≡ true → bounded (Word (front is_no_word_byte (byte ∷ tail))) (after is_no_word_byte (byte ∷ tail)) ≡ Taken token rest → Reads (byte ∷ tail) token rest
word_found byte tail token rest first e =
    let b = bounded_found (Word (front is_no_word_byte (byte ∷ tail))) token (after is_no_word_byte (byte ∷ tail)) rest e in
    let passes : is_no_word_byte byte ≡ false = rw first refl in
    let some : front is_no_word_byte (byte ∷ tail) ≢ [] = λ nil. not_nil byte (front is_no_word_byte tail) (sym (front-pass is_no_word_byte byte tail passes) ∙ nil) in
    subst (λ (t : Token). Reads (byte ∷ tail) t rest) b.0
    (record {
      is = (some, passes_back is_word_byte (front is_no_word_byte (byte ∷ tail)) (front-passes is_no_word_byte (byte ∷ tail)));
      ended = subst (λ (t : List ℕ). is_at_boundary t ≡ true) b.1 b.2;
      text = sym (front-after is_no_word_byte (byte ∷ tail)) ∙ ap (λ (t : List ℕ). front is_no_word_byte (byte ∷ tail) ++ t) b.1;
    })

-- a byte that is none of the others is one of a word
is_word : (byte : ℕ) → is_blank byte ≡ false → eqb byte 61 ≡ false → eqb byte 59 ≡ false → eqb byte 35 ≡ false → eqb byte 39 ≡ false → eqb byte 34 ≡ false → is_word_byte byte ≡ true
is_word byte blank equals semicolon comment single double =
    not_from_false (is_boundary byte || eqb byte 39 || eqb byte 34)
    (or_from (is_boundary byte || eqb byte 39) (eqb byte 34)
    (or_from (is_boundary byte) (eqb byte 39)
    (or_from (is_blank byte || eqb byte 61 || eqb byte 59) (eqb byte 35)
    (or_from (is_blank byte || eqb byte 61) (eqb byte 59)
    (or_from (is_blank byte) (eqb byte 61) blank equals) semicolon) comment) single) double)

-- the token that was read is at the front
pub token_found : (line : List ℕ) (token : Token) (rest : List ℕ) → halts is_no_blank line ≡ true → token_front line ≡ Taken token rest → Reads line token rest
token_found [] token rest no_blank e = absurd cc
token_found (byte ∷ tail) token rest no_blank e =
    elim (chosen (eqb byte 35) _ _ _ e) [
      | inl h ↦ let bad : End ≡ Taken token rest = h.1 in absurd cc
      | inr h35 ↦ elim (chosen (eqb byte 61) _ _ _ h35.1) [
        | inl h ↦ let same : Taken Equals tail ≡ Taken token rest = h.1 in let t : Equals ≡ token = cc in let r : tail ≡ rest = cc in subst (λ (x : Token). Reads (byte ∷ tail) x rest) t (record { is = tt; ended = refl; text = ap (λ (n : ℕ). n ∷ tail) (eqb-true byte 61 h.0) ∙ ap (λ (x : List ℕ). 61 ∷ x) r })
        | inr h61 ↦ elim (chosen (eqb byte 59) _ _ _ h61.1) [
          | inl h ↦ let same : Taken Semicolon tail ≡ Taken token rest = h.1 in let t : Semicolon ≡ token = cc in let r : tail ≡ rest = cc in subst (λ (x : Token). Reads (byte ∷ tail) x rest) t (record { is = tt; ended = refl; text = ap (λ (n : ℕ). n ∷ tail) (eqb-true byte 59 h.0) ∙ ap (λ (x : List ℕ). 59 ∷ x) r })
          | inr h59 ↦ elim (chosen (eqb byte 39) _ _ _ h59.1) [
            | inl h ↦ single_found byte tail token rest h.0 h.1
            | inr h39 ↦ elim (chosen (eqb byte 34) _ _ _ h39.1) [
              | inl h ↦ double_found byte tail token rest h.0 h.1
              | inr h34 ↦ elim (chosen (eqb byte 36 && starts_quote tail) _ _ _ h34.1) [
                | inl h ↦ let both = and_parts (eqb byte 36) (starts_quote tail) h.0 in hexadecimal_found byte tail token rest both.0 both.1 h.1
                | inr h36 ↦ word_found byte tail token rest (is_word byte (not-true (is_blank byte) no_blank) h61.0 h59.0 h35.0 h39.0 h34.0) h36.1
              ]
            ]
          ]
        ]
      ]
    ]

never_end_closed : (token : Token) (parts : List ℕ) → closed_at token parts ≡ End → ⊥
never_end_closed token [] e = absurd cc
never_end_closed token (quote ∷ rest) e = elim (chosen (is_at_boundary rest) _ _ _ e) [ inl h ↦ let bad : Taken token rest ≡ End = h.1 in absurd cc | inr h ↦ let bad : Fault ≡ End = h.1 in absurd cc ]

-- where the end is read is a comment, or nothing
pub end_found : (line : List ℕ) → token_front line ≡ End → is_comment line ≡ true
end_found [] e = refl
end_found (byte ∷ tail) e =
    elim (chosen (eqb byte 35) _ _ _ e) [
      | inl h ↦ h.0
      | inr h35 ↦ elim (chosen (eqb byte 61) _ _ _ h35.1) [
        | inl h ↦ let bad : Taken Equals tail ≡ End = h.1 in absurd cc
        | inr h61 ↦ elim (chosen (eqb byte 59) _ _ _ h61.1) [
          | inl h ↦ let bad : Taken Semicolon tail ≡ End = h.1 in absurd cc
          | inr h59 ↦ elim (chosen (eqb byte 39) _ _ _ h59.1) [
            | inl h ↦ absurd (never_end_closed (Single (front (is_quote 39) tail)) (after (is_quote 39) tail) h.1)
            | inr h39 ↦ elim (chosen (eqb byte 34) _ _ _ h39.1) [
              | inl h ↦ absurd (never_end_closed (Double (front (is_quote 34) tail)) (after (is_quote 34) tail) h.1)
              | inr h34 ↦ elim (chosen (eqb byte 36 && starts_quote tail) _ _ _ h34.1) [
                | inl h ↦ absurd (never_end_closed (Hexadecimal (front (is_quote 34) (drop 1 tail))) (after (is_quote 34) (drop 1 tail)) h.1)
                | inr h36 ↦ elim (chosen (is_at_boundary (after is_no_word_byte (byte ∷ tail))) _ _ _ h36.1) [
                  | inl h ↦ let bad : Taken (Word (front is_no_word_byte (byte ∷ tail))) (after is_no_word_byte (byte ∷ tail)) ≡ End = h.1 in absurd cc
                  | inr h ↦ let bad : Fault ≡ End = h.1 in absurd cc
                ]
              ]
            ]
          ]
        ]
      ]
    ]

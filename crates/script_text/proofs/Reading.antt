-- The tokens of a line, read one by one.
use Rattle.std.proofs.Common.{◌≡◌, ℕ, List, [], ◌∷◌, ◌++◌, refl, sym, ap, subst, ◌∙◌, append_assoc, append-nil}
use Rattle.script_text.specs.Tokens.{Token, AreTokens, TakesToken}

-- the line begins with these tokens, and goes on with those of the rest
pub record Reading (line rest : List ℕ) (read : List Token) : Type 0 where
  pub there : (more : List Token) → AreTokens rest more → AreTokens line (read ++ more)
  pub back : (all : List Token) → AreTokens line all → (more : List Token) × (all ≡ read ++ more) × AreTokens rest more

-- one token more
pub reading_more : (line rest after : List ℕ) (read : List Token) (token : Token) → Reading line rest read → TakesToken rest token after → Reading line after (read ++ token ∷ [])
reading_more line rest after read token r takes = record { there = there; back = back }
  where
    there : (more : List Token) → AreTokens after more → AreTokens line ((read ++ token ∷ []) ++ more)
    there more h = subst (λ (t : List Token). AreTokens line t) (sym (append_assoc read (token ∷ []) more)) (r.there (token ∷ more) ((takes (token ∷ more)).1 (more, refl, h)))

    back : (all : List Token) → AreTokens line all → (more : List Token) × (all ≡ (read ++ token ∷ []) ++ more) × AreTokens after more
    back all h =
        let found = r.back all h in
        let next = (takes found.0).0 found.2 in
        (next.0, found.1 ∙ ap (λ (t : List Token). read ++ t) next.1 ∙ sym (append_assoc read (token ∷ []) next.0), next.2)

-- the end of the line
pub reading_all : (line rest : List ℕ) (read : List Token) → Reading line rest read → AreTokens rest [] → AreTokens line read
reading_all line rest read r h = subst (λ (t : List Token). AreTokens line t) (append-nil read) (r.there [] h)

-- How far a name's text is read.
use Rattle.std.proofs.Common.{◌≡◌, ◌≢◌, ℕ, ◌<◌, ◌⊎◌, inl, inr, ◌↔◌, Option, Some, None, Result, Ok, Err, IfOk, option_map, List, [], ◌∷◌, ◌++◌, length, refl, sym, ap, ◌∙◌, subst, arith, append_assoc, append-nil}
use Rattle.fork_list.specs.Names.{NamesBytes, NamesFirst, ShowsName, Unquotes}

isn't_x : (byte : ℕ) → (byte ≡ 34) ⊎ (byte ≡ 92) → byte ≢ 120
isn't_x byte (inl is) e = omega arith
isn't_x byte (inr is) e = omega arith

-- the same text names the same byte first
pub same_first : (text : List ℕ) (a b : ℕ) (r s : List ℕ) → NamesFirst text a r → NamesFirst text b s → (a ≡ b) × (r ≡ s)
same_first text a b r s (inl p) (inl q) = let whole = p.0 in let again = q.0 in (cc, cc)
same_first text a b r s (inl p) (inr (inl q)) = let whole = p.0 in let again = q.0 in let is : a ≡ 92 = cc in absurd (p.1 is)
same_first text a b r s (inl p) (inr (inr q)) = let whole = p.0 in let again = q.2 in let is : a ≡ 92 = cc in absurd (p.1 is)
same_first text a b r s (inr (inl p)) (inl q) = let whole = p.0 in let again = q.0 in let is : b ≡ 92 = cc in absurd (q.1 is)
same_first text a b r s (inr (inl p)) (inr (inl q)) = let whole = p.0 in let again = q.0 in (cc, cc)
same_first text a b r s (inr (inl p)) (inr (inr q)) = let whole = p.0 in let again = q.2 in let is : a ≡ 120 = cc in absurd (isn't_x a p.1 is)
same_first text a b r s (inr (inr p)) (inl q) = let whole = p.2 in let again = q.0 in let is : b ≡ 92 = cc in absurd (q.1 is)
same_first text a b r s (inr (inr p)) (inr (inl q)) = let whole = p.2 in let again = q.0 in let is : b ≡ 120 = cc in absurd (isn't_x b q.1 is)
same_first text a b r s (inr (inr p)) (inr (inr q)) =
    let whole = p.2 in
    let again = q.2 in
    let high : p.0 ≡ q.0 = cc in
    let low : p.1 ≡ q.1 = cc in
    let one = p.5 in
    let other = q.5 in
    (cc, cc)

-- what is after the first byte is shorter
pub shorter : (text : List ℕ) (byte : ℕ) (rest : List ℕ) → NamesFirst text byte rest → length rest < length text
shorter text byte rest (inl p) = omega (arith, ap (λ (t : List ℕ). length t) p.0)
shorter text byte rest (inr (inl p)) = omega (arith, ap (λ (t : List ℕ). length t) p.0)
shorter text byte rest (inr (inr p)) = omega (arith, ap (λ (t : List ℕ). length t) p.2)

-- no text names no bytes
nothing_named : (bytes : List ℕ) → NamesBytes [] bytes → bytes ≡ []
nothing_named [] is = refl
nothing_named (byte ∷ bytes) (rest, first, more) = let short = shorter [] byte rest first in absurd (omega arith)

-- these bytes are named first, and what is after them names the others
abbrev pub Reads : List ℕ → List ℕ → List ℕ → Type 0
Reads inner done rest = ((bytes : List ℕ) → NamesBytes rest bytes → NamesBytes inner (done ++ bytes))
    × ((bytes : List ℕ) → NamesBytes inner bytes → (tail : List ℕ) × (bytes ≡ done ++ tail) × NamesBytes rest tail)

-- what is after the first byte names the others
next_of : (rest after : List ℕ) (byte : ℕ) (tail : List ℕ) → rest ≢ [] → NamesFirst rest byte after → NamesBytes rest tail
    → (more : List ℕ) × (tail ≡ byte ∷ more) × NamesBytes after more
next_of rest after byte [] some first is = absurd (some is)
next_of rest after byte (b ∷ more) some first is =
    let same = same_first rest byte b after is.0 first is.1 in
    (more, ap (λ (n : ℕ). n ∷ more) (sym same.0), subst (λ (t : List ℕ). NamesBytes t more) (sym same.1) is.2)

-- one byte more
pub reads_more : (inner done rest after : List ℕ) (byte : ℕ) → rest ≢ [] → NamesFirst rest byte after → Reads inner done rest → Reads inner (done ++ byte ∷ []) after
reads_more inner done rest after byte some first reads = (
  λ bytes is. subst (λ (t : List ℕ). NamesBytes inner t) (sym (append_assoc done (byte ∷ []) bytes)) (reads.0 (byte ∷ bytes) (after, first, is)),
  λ bytes is.
      let found = reads.1 bytes is in
      let next = next_of rest after byte found.0 some first found.2 in
      (next.0, found.1 ∙ ap (λ (t : List ℕ). done ++ t) next.1 ∙ sym (append_assoc done (byte ∷ []) next.0), next.2),
)

none_next : (rest tail : List ℕ) → rest ≢ [] → ((byte : ℕ) → (after : List ℕ) → ¬ NamesFirst rest byte after) → NamesBytes rest tail → ⊥
none_next rest [] some none is = some is
none_next rest (byte ∷ tail) some none is = none byte is.0 is.1

-- the next byte isn't named
pub none_named : (inner done rest : List ℕ) → rest ≢ [] → ((byte : ℕ) → (after : List ℕ) → ¬ NamesFirst rest byte after) → Reads inner done rest
    → (name : List ℕ) → (None ≡ Some name) ↔ NamesBytes inner name
none_named inner done rest some none reads name = (
  λ is. absurd cc,
  λ names. let found = reads.1 name names in absurd (none_next rest found.0 some none found.2),
)

-- all is read
pub all_named : (inner done rest : List ℕ) → rest ≡ [] → Reads inner done rest → (name : List ℕ) → (Some done ≡ Some name) ↔ NamesBytes inner name
all_named inner done rest empty reads name = (
  λ is.
      let same : done ≡ name = cc in
      subst (λ (t : List ℕ). NamesBytes inner t) (append-nil done ∙ same) (reads.0 [] empty),
  λ names.
      let found = reads.1 name names in
      let nothing : found.0 ≡ [] = nothing_named found.0 (subst (λ (t : List ℕ). NamesBytes t found.0) empty found.2) in
      ap (λ (t : List ℕ). Some t) (sym (found.1 ∙ ap (λ (t : List ℕ). done ++ t) nothing ∙ append-nil done)),
)

-- what is between the quotes is one
one_inner : (text between inner : List ℕ) → ((other : List ℕ) → text ≡ 34 ∷ (other ++ 34 ∷ []) → between ≡ other)
    → (((other : List ℕ) → text ≢ 34 ∷ (other ++ 34 ∷ [])) → between ≡ text) → Unquotes text inner → inner ≡ between
one_inner text between inner quoted bare (inl is) = sym (quoted inner is)
one_inner text between inner quoted bare (inr is) = sym is.0 ∙ sym (bare is.1)

-- it shows the name that the text shows
pub name_exact : (text between : List ℕ) (given : Option (List ℕ)) → ((other : List ℕ) → text ≡ 34 ∷ (other ++ 34 ∷ []) → between ≡ other)
    → (((other : List ℕ) → text ≢ 34 ∷ (other ++ 34 ∷ [])) → between ≡ text) → Unquotes text between
    → ((name : List ℕ) → (given ≡ Some name) ↔ NamesBytes between name) → (name : List ℕ) → (given ≡ Some name) ↔ ShowsName text name
name_exact text between given quoted bare stands exact name = (
  λ is. (between, stands, (exact name).0 is),
  λ (inner, around, names). (exact name).1 (subst (λ (t : List ℕ). NamesBytes t name) (one_inner text between inner quoted bare around) names),
)

-- where the host has memory for it
pub all_exact : {E X : Type 0} (items : X → List ℕ) (text between : List ℕ) (made : Result (Option X) E)
    → ((other : List ℕ) → text ≡ 34 ∷ (other ++ 34 ∷ []) → between ≡ other)
    → (((other : List ℕ) → text ≢ 34 ∷ (other ++ 34 ∷ [])) → between ≡ text) → Unquotes text between
    → IfOk made (λ found. (name : List ℕ) → (option_map items found ≡ Some name) ↔ NamesBytes between name)
    → IfOk made (λ found. (name : List ℕ) → (option_map items found ≡ Some name) ↔ ShowsName text name)
all_exact items text between (Ok found) quoted bare stands exact = name_exact text between (option_map items found) quoted bare stands exact
all_exact items text between (Err none) quoted bare stands exact = tt

-- What is skipped, and words.
use Rattle.std.proofs.Common.{◌≡◌, ℕ, zero, suc, Bool, true, false, eqb, List, [], ◌∷◌, ◌++◌, length, take, replicate, Option, Some, None, Ok, refl, ap, ◌∙◌, inl, inr, append_assoc}
use Rattle.std.specs.Prelude.{◌&&◌, bytes_eq, map}
use Rattle.std.proofs.lemmas.List.{take_at, drop_at}
use Rattle.std.proofs.lemmas.Bool.{cond-true, cond-false, cases_Bool, eq-eqb}
use Rattle.fork_rez.specs.declared.blanks.Skipping.{Skipping}
use Rattle.fork_rez.specs.declared.blanks.Skipping.TheVariants.{Between, Block}
use Rattle.fork_rez.specs.Text.{gap_of, is_printable, shown}
use Rattle.fork_rez.specs.Reading.{after_blanks, after_word, if_there, is_blank, is_map, skip, skipped, skipping}

-- bytes are the same as themselves
pub same : (word : List ℕ) → bytes_eq word word ≡ true
same [] = refl
same (byte ∷ word) = rw (eq-eqb byte byte refl) (same word)

-- a word is read where it is written
pub own_word : (word rest : List ℕ) → after_word word (word ++ rest) ≡ Some rest
own_word word rest =
    let front : take (length word) (word ++ rest) ≡ word = take_at word rest (length word) refl in
    let is : bytes_eq (take (length word) (word ++ rest)) word ≡ true = ap (λ (t : List ℕ). bytes_eq t word) front ∙ same word in
    cond-true _ _ _ is ∙ ap (λ (t : List ℕ). Some t) (drop_at word rest (length word) refl)

-- a mark that isn't there
pub other_mark : (mark byte : ℕ) (rest : List ℕ) → eqb byte mark ≡ false → after_word (mark ∷ []) (byte ∷ rest) ≡ None
other_mark mark byte rest other = rw other refl

-- a byte that is skipped, and one that isn't
pub goes : (at next : Skipping) (byte : ℕ) (text : List ℕ) → is_map at (byte ∷ text) ≡ false → skipping at byte ≡ Some next → skip at (byte ∷ text) ≡ skip next text
goes at next byte text apart is = cond-false _ _ _ apart ∙ ap (λ (o : Option Skipping). if_there o (λ after. skip after text) (skipped at (byte ∷ text))) is

pub ends : (at : Skipping) (byte : ℕ) (text : List ℕ) → is_map at (byte ∷ text) ≡ false → skipping at byte ≡ None → skip at (byte ∷ text) ≡ skipped at (byte ∷ text)
ends at byte text apart is = cond-false _ _ _ apart ∙ ap (λ (o : Option Skipping). if_there o (λ after. skip after text) (skipped at (byte ∷ text))) is

-- no comment begins with another byte
no_map : (byte : ℕ) (rest : List ℕ) → eqb byte 47 ≡ false → is_map Between (byte ∷ rest) ≡ false
no_map byte rest other = rw other refl

-- a byte that is no blank and begins no comment
pub stays : (byte : ℕ) (rest : List ℕ) → is_blank byte ≡ false → eqb byte 47 ≡ false → after_blanks (byte ∷ rest) ≡ Ok (byte ∷ rest)
unfolding after_blanks
stays byte rest blank slash = ends Between byte rest (no_map byte rest slash) (cond-false _ _ _ blank ∙ cond-false _ _ _ slash)

-- blanks
pub blanks : (n : ℕ) (rest : List ℕ) → skip Between (replicate n 32 ++ rest) ≡ skip Between rest
blanks zero rest = refl
blanks (suc n) rest = blanks n rest

or_none : (b : Bool) → (b && false) ≡ false
or_none true = refl
or_none false = refl

-- a byte that a comment shows isn't `*`
pub shown_apart : (byte : ℕ) → eqb (shown byte) 42 ≡ false
shown_apart byte =
    elim (cases_Bool (eqb byte 42)) [
      | inl star ↦ rw (star, or_none (is_printable byte)) refl
      | inr other ↦ rw other (elim (cases_Bool (is_printable byte)) [ inl plain ↦ rw plain other | inr not ↦ rw not refl ])
    ]

-- a comment
pub comment : (bytes rest : List ℕ) → skip Block (map shown bytes ++ 32 ∷ 42 ∷ 47 ∷ rest) ≡ skip Between rest
comment [] rest = refl
comment (byte ∷ bytes) rest =
    goes Block Block (shown byte) (map shown bytes ++ 32 ∷ 42 ∷ 47 ∷ rest) refl (cond-false _ _ _ (shown_apart byte)) ∙ comment bytes rest

-- what is between a line of data and the next
abbrev pub gap : List ℕ → List ℕ
gap bytes = replicate (gap_of (length bytes)) 32 ++ (47 ∷ 42 ∷ 32 ∷ (map shown bytes ++ 32 ∷ 42 ∷ 47 ∷ 10 ∷ []))

pub gap_skipped : (bytes rest : List ℕ) → after_blanks (gap bytes ++ rest) ≡ after_blanks rest
unfolding after_blanks
gap_skipped bytes rest =
    let tail : List ℕ = 32 ∷ 42 ∷ 47 ∷ 10 ∷ [] in
    ap (skip Between) (append_assoc (replicate (gap_of (length bytes)) 32) (47 ∷ 42 ∷ 32 ∷ (map shown bytes ++ tail)) rest)
    ∙ blanks (gap_of (length bytes)) (47 ∷ 42 ∷ 32 ∷ ((map shown bytes ++ tail) ++ rest))
    ∙ ap (skip Block) (append_assoc (map shown bytes) tail rest)
    ∙ comment bytes (10 ∷ rest)

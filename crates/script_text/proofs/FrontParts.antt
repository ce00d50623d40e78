-- A text up to the first byte that stops.
use Rattle.std.proofs.Common.{◌≡◌, ℕ, ◌+◌, Bool, true, false, List, [], ◌∷◌, ◌++◌, take, drop, refl, ap, ◌∙◌, add-one, add_comm}
use Rattle.std.specs.Prelude.{not}
use Rattle.std.specs.List.{list_all, position_or_len}
use Rattle.std.proofs.lemmas.List.{take-append-drop}
use Rattle.std.proofs.lemmas.Bool.{not-true, and_parts}
use Rattle.script_text.specs.Front.{front, after}

-- nothing, or a byte that stops
abbrev pub halts : (ℕ → Bool) → List ℕ → Bool
halts stops [] = true
halts stops (byte ∷ bytes) = stops byte

one_more : (n : ℕ) (byte : ℕ) (bytes : List ℕ) → take (1 + n) (byte ∷ bytes) ≡ byte ∷ take n bytes
one_more n byte bytes = rw (add_comm 1 n, add-one) refl

one_less : (n : ℕ) (byte : ℕ) (bytes : List ℕ) → drop (1 + n) (byte ∷ bytes) ≡ drop n bytes
one_less n byte bytes = rw (add_comm 1 n, add-one) refl

-- a first byte that passes
pub front-pass : (stops : ℕ → Bool) (byte : ℕ) (bytes : List ℕ) → stops byte ≡ false → front stops (byte ∷ bytes) ≡ byte ∷ front stops bytes
front-pass stops byte bytes e = rw e (one_more (position_or_len stops bytes) byte bytes)

after-pass : (stops : ℕ → Bool) (byte : ℕ) (bytes : List ℕ) → stops byte ≡ false → after stops (byte ∷ bytes) ≡ after stops bytes
after-pass stops byte bytes e = rw e (one_less (position_or_len stops bytes) byte bytes)

front-stop : (stops : ℕ → Bool) (bytes : List ℕ) → halts stops bytes ≡ true → front stops bytes ≡ []
front-stop stops [] e = refl
front-stop stops (byte ∷ bytes) e = rw e refl

after-stop : (stops : ℕ → Bool) (bytes : List ℕ) → halts stops bytes ≡ true → after stops bytes ≡ bytes
after-stop stops [] e = refl
after-stop stops (byte ∷ bytes) e = rw e refl

-- bytes that pass, and then a stop
pub front-append : (stops : ℕ → Bool) (passed rest : List ℕ) → list_all (λ byte. not (stops byte)) passed ≡ true → halts stops rest ≡ true → front stops (passed ++ rest) ≡ passed
front-append stops [] rest all halt = front-stop stops rest halt
front-append stops (byte ∷ passed) rest all halt =
    let both = and_parts _ _ all in
    front-pass stops byte (passed ++ rest) (not-true _ both.0) ∙ ap (λ (t : List ℕ). byte ∷ t) (front-append stops passed rest both.1 halt)

-- what is after them
pub after-append : (stops : ℕ → Bool) (passed rest : List ℕ) → list_all (λ byte. not (stops byte)) passed ≡ true → halts stops rest ≡ true → after stops (passed ++ rest) ≡ rest
after-append stops [] rest all halt = after-stop stops rest halt
after-append stops (byte ∷ passed) rest all halt =
    let both = and_parts _ _ all in
    after-pass stops byte (passed ++ rest) (not-true _ both.0) ∙ after-append stops passed rest both.1 halt

-- the front passes, and what is after it stops
front-passes-at : (stops : ℕ → Bool) (byte : ℕ) (bytes : List ℕ) (b : Bool) → stops byte ≡ b → list_all (λ x. not (stops x)) (front stops bytes) ≡ true → list_all (λ x. not (stops x)) (front stops (byte ∷ bytes)) ≡ true
front-passes-at stops byte bytes true e rest = rw (front-stop stops (byte ∷ bytes) e) refl
front-passes-at stops byte bytes false e rest = rw (front-pass stops byte bytes e, e) rest

-- each byte of the front passes
pub front-passes : (stops : ℕ → Bool) (bytes : List ℕ) → list_all (λ x. not (stops x)) (front stops bytes) ≡ true
front-passes stops [] = refl
front-passes stops (byte ∷ bytes) = front-passes-at stops byte bytes (stops byte) refl (front-passes stops bytes)

after-halts-at : (stops : ℕ → Bool) (byte : ℕ) (bytes : List ℕ) (b : Bool) → stops byte ≡ b → halts stops (after stops bytes) ≡ true → halts stops (after stops (byte ∷ bytes)) ≡ true
after-halts-at stops byte bytes true e rest = rw (after-stop stops (byte ∷ bytes) e) e
after-halts-at stops byte bytes false e rest = rw (after-pass stops byte bytes e) rest

-- what is after the front stops
pub after-halts : (stops : ℕ → Bool) (bytes : List ℕ) → halts stops (after stops bytes) ≡ true
after-halts stops [] = refl
after-halts stops (byte ∷ bytes) = after-halts-at stops byte bytes (stops byte) refl (after-halts stops bytes)

-- the front and what is after it are the text
pub front-after : (stops : ℕ → Bool) (bytes : List ℕ) → front stops bytes ++ after stops bytes ≡ bytes
front-after stops bytes = take-append-drop (position_or_len stops bytes) bytes

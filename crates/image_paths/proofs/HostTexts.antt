-- A host's name for a file leads to no other folder.
use Rattle.std.proofs.Common.{◌≡◌, ◌≢◌, ℕ, suc, ◌+◌, ◌<◌, ◌&&◌, Bool, true, false, eqb, List, [], ◌∷◌, ◌++◌, length, slice_index, take, drop, ◌-◌, ◌≤◌, ap, refl, sym, ◌∙◌, subst, arith}
use Rattle.std.specs.Prelude.{All, nat_lt}
use Rattle.std.specs.List.{flat_map, list_all}
use Rattle.std.proofs.lemmas.Bool.{agree_below_at, eqb-false, ltb-true}
use Rattle.fork_list.specs.Roman.{AreBytes}
use Rattle.std.proofs.Math.Seq.{take-length}
use Rattle.std.proofs.lemmas.List.{get_or_append_left}
use Rattle.image_paths.specs.HostNames.{IsHostName, first_letter, is_harmless, letter}

-- texts one after the other
one : (b rest all : Bool) → (b && rest) ≡ true → (rest ≡ true → all ≡ true) → (b && all) ≡ true
one true rest all h f = f h
one false rest all h f = absurd cc

both : (xs ys : List ℕ) → list_all is_harmless xs ≡ true → list_all is_harmless ys ≡ true → list_all is_harmless (xs ++ ys) ≡ true
both [] ys hx hy = hy
both (x ∷ xs) ys hx hy = one (is_harmless x) (list_all is_harmless xs) (list_all is_harmless (xs ++ ys)) hx (λ rest. both xs ys rest hy)

-- texts of letters, by what is so of each letter
module _ (first_of text_of : ℕ → List ℕ) (first_harmless : (byte : ℕ) → byte < 256 → list_all is_harmless (first_of byte) ≡ true) (first_some : (byte : ℕ) → byte < 256 → 0 < length (first_of byte))
    (first_no_dot : (byte : ℕ) → byte < 256 → slice_index (first_of byte) 0 ≢ 46) (harmless : (byte : ℕ) → byte < 256 → list_all is_harmless (text_of byte) ≡ true) where
  letters_harmless : (name : List ℕ) → AreBytes name → list_all is_harmless (flat_map text_of name) ≡ true
  letters_harmless [] h = refl
  letters_harmless (byte ∷ name) h =
      both (text_of byte) (flat_map text_of name) (harmless byte (h 0 0 (omega arith))) (letters_harmless name (λ k d within. h (suc k) d (omega arith)))

  has_some : (xs ys : List ℕ) → 0 < length xs → (xs ++ ys) ≢ []
  has_some [] ys h is = omega arith
  has_some (x ∷ xs) ys h is = absurd cc

  letters_name : (first : ℕ) (rest : List ℕ) → AreBytes (first ∷ rest) → IsHostName (first_of first ++ flat_map text_of rest)
  letters_name first rest h =
      let fits : first < 256 = h 0 0 (omega arith) in
      record {
        harmless = both (first_of first) (flat_map text_of rest) (first_harmless first fits) (letters_harmless rest (λ k d within. h (suc k) d (omega arith)));
        some = has_some (first_of first) (flat_map text_of rest) (first_some first fits);
        no_dot = λ is. first_no_dot first fits (sym (get_or_append_left (first_of first) (flat_map text_of rest) 0 0 (first_some first fits)) ∙ is);
      }

letter_harmless : (byte : ℕ) → byte < 256 → list_all is_harmless (letter byte) ≡ true
unfolding lib.Utf8.encode
letter_harmless byte h = agree_below_at (λ b. list_all is_harmless (letter b)) (λ _. true) 256 byte refl h

first_is_harmless : (byte : ℕ) → byte < 256 → list_all is_harmless (first_letter byte) ≡ true
unfolding lib.Utf8.encode
first_is_harmless byte h = agree_below_at (λ b. list_all is_harmless (first_letter b)) (λ _. true) 256 byte refl h

first_has_some : (byte : ℕ) → byte < 256 → 0 < length (first_letter byte)
unfolding lib.Utf8.encode
first_has_some byte h = ltb-true _ _ (agree_below_at (λ b. nat_lt 0 (length (first_letter b))) (λ _. true) 256 byte refl h)

first_is_no_dot : (byte : ℕ) → byte < 256 → slice_index (first_letter byte) 0 ≢ 46
unfolding lib.Utf8.encode
first_is_no_dot byte h = eqb-false _ _ (agree_below_at (λ b. eqb (slice_index (first_letter b) 0) 46) (λ _. false) 256 byte refl h)

rest_is : (first : ℕ) (rest : List ℕ) → take (length (first ∷ rest) - 1) rest ≡ rest
rest_is first rest = ap (λ (n : ℕ). take n rest) (omega arith) ∙ take-length rest

-- a name with some bytes
pub letters_host_name : (name text : List ℕ) → 1 ≤ length name → AreBytes name
    → text ≡ first_letter (slice_index name 0) ++ flat_map letter (take (length name - 1) (drop 1 name)) → IsHostName text
letters_host_name [] text some h is = absurd (omega arith)
letters_host_name (first ∷ rest) text some h is =
    subst IsHostName (sym (is ∙ ap (λ (others : List ℕ). first_letter first ++ flat_map letter others) (rest_is first rest)))
    (letters_name first_letter letter first_is_harmless first_has_some first_is_no_dot letter_harmless first rest h)

pub percent : IsHostName (37 ∷ [])
percent = record { harmless = refl; some = λ is. absurd cc; no_dot = λ is. absurd cc }

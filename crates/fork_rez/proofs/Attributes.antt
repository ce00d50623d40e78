-- Names and attributes are read again.
use Rattle.std.proofs.Common.{◌≡◌, ℕ, suc, ◌<◌, ◌≤◌, inl, inr, Bool, true, false, eqb, List, [], ◌∷◌, ◌++◌, length, Option, Some, None, Ok, refl, sym, ap, subst, ◌∙◌, append_assoc, arith}
use Rattle.std.specs.Prelude.{◌||◌, ◌==◌, not, filter, IfSome}
use Rattle.std.specs.Int.RustNames.{bit_and, bit_or}
use Rattle.std.specs.List.{flat_map, fold, AllByRecursion}
use Rattle.std.proofs.lemmas.Bool.{agree_below_at, cond-true, cond-false, cases_Bool, eqb-true, le-ltb}
use Rattle.fork_rez.specs.declared.attribute.Attribute.{Attribute}
use Rattle.fork_rez.specs.declared.attribute.Attribute.TheVariants.{SysHeap, Purgeable, Locked, Protected, Preload}
use Rattle.fork_rez.specs.Text.{attribute_text, attributes, attributes_text, bit_of, hexadecimal, name_text, word_of, written}
use Rattle.fork_rez.specs.Reading.{after_blanks, all_of, attribute_at, attributes_at, bits_at, name_at, name_in}
use Rattle.fork_rez.proofs.Many.{many_again, few}
use Rattle.fork_rez.proofs.Bytes.{byte_again, name_characters}
use Rattle.fork_rez.proofs.Numbers.{Stops}

-- what an attribute is written as
abbrev spelled : Attribute → List ℕ
spelled attribute = 44 ∷ 32 ∷ word_of attribute

-- an attribute
spelled_here : (attribute : Attribute) (rest : List ℕ) → attribute_at (spelled attribute ++ rest) ≡ Ok (Some (bit_of attribute), rest)
unfolding attribute_at after_blanks bits_at
spelled_here SysHeap rest = refl
spelled_here Purgeable rest = refl
spelled_here Locked rest = refl
spelled_here Protected rest = refl
spelled_here Preload rest = refl

-- no name begins so
spelled_unnamed : (attribute : Attribute) (rest : List ℕ) → name_at (spelled attribute ++ rest) ≡ Ok (None, spelled attribute ++ rest)
unfolding name_at after_blanks
spelled_unnamed SysHeap rest = refl
spelled_unnamed Purgeable rest = refl
spelled_unnamed Locked rest = refl
spelled_unnamed Protected rest = refl
spelled_unnamed Preload rest = refl

-- a name, or none, and a text that a number stops at
record Follows (text : List ℕ) : Type 0 where
  unnamed : name_at text ≡ Ok (None, text)
  stops : Stops text

closed : (rest : List ℕ) → Follows (41 ∷ rest)
unfolding name_at after_blanks
closed rest = record { unnamed = refl; stops = λ limit so_far. refl }

words_follow : (bits : ℕ) (xs : List Attribute) (rest : List ℕ) → Follows (flat_map (attribute_text bits) xs ++ 41 ∷ rest)
words_follow bits [] rest = closed rest
words_follow bits (x ∷ xs) rest =
    let tail : List ℕ = 41 ∷ rest in
    let others : List ℕ = flat_map (attribute_text bits) xs in
    elim (cases_Bool (eqb (bit_and bits (bit_of x)) 0)) [
      | inl unset ↦ subst Follows (ap (λ (t : List ℕ). (t ++ others) ++ tail) (sym (cond-true _ _ _ unset))) (words_follow bits xs rest)
      | inr set ↦
          subst Follows (sym (append_assoc (spelled x) others tail) ∙ ap (λ (t : List ℕ). (t ++ others) ++ tail) (sym (cond-false _ _ _ set)))
          (record { unnamed = spelled_unnamed x (others ++ tail); stops = λ limit so_far. refl })
    ]

digits_unnamed : (text : List ℕ) → name_at (44 ∷ 32 ∷ 36 ∷ text) ≡ Ok (None, 44 ∷ 32 ∷ 36 ∷ text)
unfolding name_at after_blanks
digits_unnamed text = refl

attributes_follow : (bits : ℕ) (rest : List ℕ) → Follows (attributes_text bits ++ 41 ∷ rest)
attributes_follow bits rest =
    elim (cases_Bool (eqb (bit_and bits 131) 0)) [
      | inl worded ↦ subst Follows (ap (λ (t : List ℕ). t ++ 41 ∷ rest) (sym (cond-true _ _ _ worded))) (words_follow bits attributes rest)
      | inr wordless ↦
          subst Follows (ap (λ (t : List ℕ). t ++ 41 ∷ rest) (sym (cond-false _ _ _ wordless)))
          (record { unnamed = digits_unnamed (hexadecimal bits ++ 41 ∷ rest); stops = λ limit so_far. refl })
    ]

-- a name is read again, and none where there is none
named : (name rest : List ℕ) → AllByRecursion (λ byte. byte < 256) name → length name ≤ 255 → name_in (flat_map (written 34) name ++ 34 ∷ rest) ≡ Ok (Some name, rest)
unfolding name_in
named name rest all short = rw (name_characters name rest all) (cond-false _ _ _ (le-ltb 255 (length name) short))

name_begins : (text : List ℕ) → name_at (44 ∷ 32 ∷ 34 ∷ text) ≡ name_in text
unfolding name_at after_blanks
name_begins text = refl

pub name_again : (name : Option (List ℕ)) (bits : ℕ) (rest : List ℕ) → IfSome name (λ n. AllByRecursion (λ byte. byte < 256) n) → IfSome name (λ n. length n ≤ 255)
    → name_at (name_text name ++ (attributes_text bits ++ 41 ∷ rest)) ≡ Ok (name, attributes_text bits ++ 41 ∷ rest)
name_again None bits rest all short = (attributes_follow bits rest).unnamed
name_again (Some name) bits rest all short =
    let tail : List ℕ = attributes_text bits ++ 41 ∷ rest in
    ap (λ (t : List ℕ). name_at (44 ∷ 32 ∷ 34 ∷ t)) (append_assoc (flat_map (written 34) name) (34 ∷ []) tail)
    ∙ name_begins (flat_map (written 34) name ++ 34 ∷ tail) ∙ named name tail all short

pub name_stops : (name : Option (List ℕ)) (bits : ℕ) (rest : List ℕ) → Stops (name_text name ++ (attributes_text bits ++ 41 ∷ rest))
name_stops None bits rest = (attributes_follow bits rest).stops
name_stops (Some name) bits rest = λ limit so_far. refl

-- the attributes that are set
abbrev set_of : ℕ → List Attribute → List Attribute
set_of bits xs = filter (λ x. not (bit_and bits (bit_of x) == 0)) xs

set_text : (bits : ℕ) (xs : List Attribute) → flat_map (attribute_text bits) xs ≡ flat_map spelled (set_of bits xs)
set_text bits [] = refl
set_text bits (x ∷ xs) =
    elim (cases_Bool (eqb (bit_and bits (bit_of x)) 0)) [
      | inl unset ↦ rw unset (set_text bits xs)
      | inr set ↦ rw set (ap (λ (t : List ℕ). spelled x ++ t) (set_text bits xs))
    ]

-- their bits together are all, where each bit has a word
abbrev united : ℕ → ℕ
united bits = fold (λ b x. bit_or b (bit_of x)) 0 (set_of bits attributes)

or_at : (a b : Bool) → a ≡ true → (not a || b) ≡ true → b ≡ true
or_at true b worded is = is
or_at false b worded is = absurd cc

united_all : (bits : ℕ) → bits < 256 → eqb (bit_and bits 131) 0 ≡ true → united bits ≡ bits
united_all bits small worded =
    eqb-true _ _ (or_at (eqb (bit_and bits 131) 0) (eqb (united bits) bits) worded
    (agree_below_at (λ n. not (eqb (bit_and n 131) 0) || eqb (united n) n) (λ _. true) 256 bits refl small))

attributes_end : (rest : List ℕ) → attribute_at (41 ∷ rest) ≡ Ok (None, 41 ∷ rest)
unfolding attribute_at after_blanks
attributes_end rest = refl

every : (xs : List Attribute) → AllByRecursion (λ _. Unit {0}) xs
every [] = tt
every (x ∷ xs) = (tt, every xs)

some_spelled : (x : Attribute) → Unit {0} → 0 < length (spelled x)
some_spelled x any = omega arith

words_again : (bits : ℕ) (rest : List ℕ) → bits < 256 → eqb (bit_and bits 131) 0 ≡ true → attributes_at (flat_map (attribute_text bits) attributes ++ 41 ∷ rest) ≡ Ok (bits, 41 ∷ rest)
unfolding attributes_at
words_again bits rest small worded =
    let set : List Attribute = set_of bits attributes in
    let end : List ℕ = 41 ∷ rest in
    let all = every set in
    ap (λ (t : List ℕ). all_of bit_or attribute_at 0 (t ++ end)) (set_text bits attributes)
    ∙ many_again bit_or attribute_at spelled (λ _. []) bit_of (λ _. Unit {0}) (λ x tail any. spelled_here x tail) (λ x tail any. refl) end end (attributes_end rest) set all
    (suc (length (flat_map spelled set ++ end))) 0 (few spelled (λ _. Unit {0}) some_spelled set end all)
    ∙ ap (λ (n : ℕ). Ok (n, end)) (united_all bits small worded)

digits_here : (bits : ℕ) (rest : List ℕ) → bits < 256 → attribute_at (44 ∷ 32 ∷ 36 ∷ (hexadecimal bits ++ rest)) ≡ Ok (Some bits, rest)
unfolding attribute_at after_blanks bits_at
digits_here bits rest small = rw (byte_again bits rest small) refl

wordless_again : (bits : ℕ) (rest : List ℕ) → bits < 256 → attributes_at (44 ∷ 32 ∷ 36 ∷ (hexadecimal bits ++ 41 ∷ rest)) ≡ Ok (bits, 41 ∷ rest)
unfolding attributes_at
wordless_again bits rest small = rw (digits_here bits (41 ∷ rest) small) (rw (attributes_end rest) refl)

pub attributes_again : (bits : ℕ) (rest : List ℕ) → bits < 256 → attributes_at (attributes_text bits ++ 41 ∷ rest) ≡ Ok (bits, 41 ∷ rest)
attributes_again bits rest small =
    elim (cases_Bool (eqb (bit_and bits 131) 0)) [
      | inl worded ↦ ap (λ (t : List ℕ). attributes_at (t ++ 41 ∷ rest)) (cond-true _ _ _ worded) ∙ words_again bits rest small worded
      | inr wordless ↦ ap (λ (t : List ℕ). attributes_at (t ++ 41 ∷ rest)) (cond-false _ _ _ wordless) ∙ wordless_again bits rest small
    ]

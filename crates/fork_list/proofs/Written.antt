-- What a text shows first.
use Rattle.std.proofs.Common.{◌≡◌, ◌≢◌, ℕ, ◌+◌, ◌-◌, length, get_or, take, drop, ◌*◌, ◌/◌, ◌%◌, ◌<◌, ◌≤◌, ◌⊎◌, inl, inr, true, false, eqb, leb, List, [], ◌∷◌, ◌++◌, refl, sym, ap, ◌∙◌, subst, arith}
use Rattle.std.specs.Prelude.{◌&&◌, ◌||◌}
use Rattle.std.specs.Char.{digit_value}
use Rattle.std.specs.Fmt.{digit_glyph}
use Rattle.std.proofs.lemmas.Bool.{eqb-true, eqb-false, leb-true, cond-true, cond-false, cases_Bool, cases_lt, or_cases, or_parts, or_from, or_left, or_right, and_parts, and_from, eq-eqb, ne_eqb, le-leb, agree_below_at}
use Rattle.std.proofs.lemmas.List.{take_rest}
use Rattle.fork_list.specs.declared.letters.Letters.TheVariants.{Roman}
use Rattle.fork_list.specs.Quoted.{is_letter}
use Rattle.fork_list.specs.Kind.{IsHexadecimal, ShowsFirst, written}

-- the byte stands for itself
abbrev pub Plain : List ℕ → ℕ → List ℕ → Type 0
Plain text byte rest = (text ≡ byte ∷ rest) × (32 ≤ byte) × (byte ≢ 127) × (byte ≢ 39) × (byte ≢ 92) × (byte < 256)

-- the byte is after a backslash
abbrev pub After : List ℕ → ℕ → List ℕ → Type 0
After text byte rest = (text ≡ 92 ∷ byte ∷ rest) × ((byte ≡ 39) ⊎ (byte ≡ 92))

-- the byte is written as two digits
abbrev pub Digits : List ℕ → ℕ → List ℕ → Type 0
Digits text byte rest = (high : ℕ) × (low : ℕ) × (text ≡ 92 ∷ 120 ∷ high ∷ low ∷ rest) × (digit_value high < 16) × (digit_value low < 16)
    × (byte ≡ 16 * digit_value high + digit_value low)

-- the value of the digit that writes a number below 16
glyph_value : (d : ℕ) → d < 16 → digit_value (digit_glyph true d) ≡ d
glyph_value d small = eqb-true _ _ (agree_below_at (λ n. eqb (digit_value (digit_glyph true n)) n) (λ _. true) 16 d refl small)

-- what a byte is written as where no form is for it alone
hexadecimal_of : (byte : ℕ) → byte < 256 → IsHexadecimal (92 ∷ 120 ∷ digit_glyph true (byte / 16) ∷ digit_glyph true (byte % 16) ∷ []) byte
hexadecimal_of byte small =
    let high : byte / 16 < 16 = omega arith in
    let low : byte % 16 < 16 = omega arith in
    let high_is = glyph_value (byte / 16) high in
    let low_is = glyph_value (byte % 16) low in (
      digit_glyph true (byte / 16),
      digit_glyph true (byte % 16),
      refl,
      subst (λ (n : ℕ). n < 16) (sym high_is) high,
      subst (λ (n : ℕ). n < 16) (sym low_is) low,
      (let whole : byte ≡ 16 * (byte / 16) + byte % 16 = omega arith in whole) ∙ sym (ap (λ (n : ℕ). 16 * n + digit_value (digit_glyph true (byte % 16))) high_is ∙ ap (λ (n : ℕ). 16 * (byte / 16) + n) low_is),
    )

either : (byte : ℕ) → (eqb byte 39 || eqb byte 92) ≡ true → (byte ≡ 39) ⊎ (byte ≡ 92)
either byte e = elim (or_cases (eqb byte 39) (eqb byte 92) e) [ inl is ↦ inl (eqb-true byte 39 is) | inr is ↦ inr (eqb-true byte 92 is) ]

-- which bytes are letters
letter_range : (byte : ℕ) → is_letter Roman byte ≡ true → (32 ≤ byte) × (byte ≢ 127)
letter_range byte is =
    elim (or_cases (leb 32 byte && leb byte 126) (leb 128 byte) is) [
      | inl ascii ↦
          let range = and_parts (leb 32 byte) (leb byte 126) ascii in
          let low = leb-true 32 byte range.0 in
          let high = leb-true byte 126 range.1 in
          (low, omega arith)
      | inr upper ↦ let high = leb-true 128 byte upper in (omega arith, omega arith)
    ]

letter_from : (byte : ℕ) → 32 ≤ byte → byte ≢ 127 → is_letter Roman byte ≡ true
letter_from byte low isn't_delete =
    elim (cases_lt byte 127) [
      | inl below ↦
          let high : byte ≤ 126 = omega arith in
          or_left (leb 32 byte && leb byte 126) (leb 128 byte) (and_from (leb 32 byte) (leb byte 126) (le-leb 32 byte low) (le-leb byte 126 high))
      | inr above ↦
          let high : 128 ≤ byte = omega arith in
          or_right (leb 32 byte && leb byte 126) (leb 128 byte) (le-leb 128 byte high)
    ]

-- how a byte is written
written_forms : (byte : ℕ) → byte < 256
    → ((written byte ≡ 92 ∷ byte ∷ []) × ((byte ≡ 39) ⊎ (byte ≡ 92)))
    ⊎ (((written byte ≡ byte ∷ []) × (32 ≤ byte) × (byte ≢ 127) × (byte ≢ 39) × (byte ≢ 92) × (byte < 256)) ⊎ IsHexadecimal (written byte) byte)
written_forms byte small =
    elim (cases_Bool (eqb byte 39 || eqb byte 92)) [
      | inl marked ↦ inl (cond-true _ _ _ marked, either byte marked)
      | inr bare ↦
          let parts = or_parts (eqb byte 39) (eqb byte 92) bare in
          elim (cases_Bool (is_letter Roman byte)) [
            | inl shown ↦
                let range = letter_range byte shown in
                inr (inl (cond-false _ _ _ bare ∙ cond-true _ _ _ shown, range.0, range.1, eqb-false byte 39 parts.0, eqb-false byte 92 parts.1, small))
            | inr hidden ↦
                inr (inr (subst (λ (piece : List ℕ). IsHexadecimal piece byte) (sym (cond-false _ _ _ bare ∙ cond-false _ _ _ hidden)) (hexadecimal_of byte small)))
          ]
    ]

-- the three forms
pub forms : (text : List ℕ) (byte : ℕ) (rest : List ℕ) → ShowsFirst text byte rest → After text byte rest ⊎ (Plain text byte rest ⊎ Digits text byte rest)
forms text byte rest (piece, inl (small, is), whole) =
    elim (written_forms byte small) [
      | inl marked ↦ inl (whole ∙ ap (λ (p : List ℕ). p ++ rest) (is ∙ marked.0), marked.1)
      | inr (inl plain) ↦ inr (inl (whole ∙ ap (λ (p : List ℕ). p ++ rest) (is ∙ plain.0), plain.1, plain.2, plain.3, plain.4, plain.5))
      | inr (inr digits) ↦ inr (inr (digits.0, digits.1, whole ∙ ap (λ (p : List ℕ). p ++ rest) (is ∙ digits.2), digits.3, digits.4, digits.5))
    ]
forms text byte rest (piece, inr digits, whole) =
    inr (inr (digits.0, digits.1, whole ∙ ap (λ (p : List ℕ). p ++ rest) digits.2, digits.3, digits.4, digits.5))

-- a byte after a backslash isn't `x`
isn't_x : (byte : ℕ) → (byte ≡ 39) ⊎ (byte ≡ 92) → byte ≢ 120
isn't_x byte (inl is) e = omega arith
isn't_x byte (inr is) e = omega arith

after_alone : (text : List ℕ) (a b : ℕ) (r s : List ℕ) → After text a r → After text b s ⊎ (Plain text b s ⊎ Digits text b s) → (a ≡ b) × (r ≡ s)
after_alone text a b r s p (inl q) = let whole = p.0 in let again = q.0 in (cc, cc)
after_alone text a b r s p (inr (inl q)) = let whole = p.0 in let again = q.0 in let is : b ≡ 92 = cc in absurd (q.4 is)
after_alone text a b r s p (inr (inr q)) = let whole = p.0 in let again = q.2 in let is : a ≡ 120 = cc in absurd (isn't_x a p.1 is)

plain_alone : (text : List ℕ) (a b : ℕ) (r s : List ℕ) → Plain text a r → After text b s ⊎ (Plain text b s ⊎ Digits text b s) → (a ≡ b) × (r ≡ s)
plain_alone text a b r s p (inl q) = let whole = p.0 in let again = q.0 in let is : a ≡ 92 = cc in absurd (p.4 is)
plain_alone text a b r s p (inr (inl q)) = let whole = p.0 in let again = q.0 in (cc, cc)
plain_alone text a b r s p (inr (inr q)) = let whole = p.0 in let again = q.2 in let is : a ≡ 92 = cc in absurd (p.4 is)

digits_alone : (text : List ℕ) (a b : ℕ) (r s : List ℕ) → Digits text a r → After text b s ⊎ (Plain text b s ⊎ Digits text b s) → (a ≡ b) × (r ≡ s)
digits_alone text a b r s p (inl q) = let whole = p.2 in let again = q.0 in let is : b ≡ 120 = cc in absurd (isn't_x b q.1 is)
digits_alone text a b r s p (inr (inl q)) = let whole = p.2 in let again = q.0 in let is : b ≡ 92 = cc in absurd (q.4 is)
digits_alone text a b r s p (inr (inr q)) =
    let whole = p.2 in
    let again = q.2 in
    let high : p.0 ≡ q.0 = cc in
    let low : p.1 ≡ q.1 = cc in
    let one = p.5 in
    let other = q.5 in
    (cc, cc)

-- the same text shows the same byte first
pub same_first : (text : List ℕ) (a b : ℕ) (r s : List ℕ) → ShowsFirst text a r → ShowsFirst text b s → (a ≡ b) × (r ≡ s)
same_first text a b r s one other =
    elim (forms text a r one) [
      | inl p ↦ after_alone text a b r s p (forms text b s other)
      | inr (inl p) ↦ plain_alone text a b r s p (forms text b s other)
      | inr (inr p) ↦ digits_alone text a b r s p (forms text b s other)
    ]

-- a byte that stands for itself is shown
pub plain_first : (text : List ℕ) (byte : ℕ) (rest : List ℕ) → Plain text byte rest → ShowsFirst text byte rest
plain_first text byte rest p =
    let marked : (eqb byte 39 || eqb byte 92) ≡ false = or_from (eqb byte 39) (eqb byte 92) (ne_eqb byte 39 p.3) (ne_eqb byte 92 p.4) in
    (byte ∷ [], inl (p.5, sym (cond-false _ _ _ marked ∙ cond-true _ _ _ (letter_from byte p.1 p.2))), p.0)

-- a byte after a backslash is shown
pub after_first : (text : List ℕ) (byte : ℕ) (rest : List ℕ) → After text byte rest → ShowsFirst text byte rest
after_first text byte rest (whole, inl is) =
    let small : byte < 256 = omega arith in
    (92 ∷ byte ∷ [], inl (small, sym (cond-true _ _ _ (or_left (eqb byte 39) (eqb byte 92) (eq-eqb byte 39 is)))), whole)
after_first text byte rest (whole, inr is) =
    let small : byte < 256 = omega arith in
    (92 ∷ byte ∷ [], inl (small, sym (cond-true _ _ _ (or_right (eqb byte 39) (eqb byte 92) (eq-eqb byte 92 is)))), whole)

-- two digits show a byte
pub digits_first : (text : List ℕ) (byte : ℕ) (rest : List ℕ) → Digits text byte rest → ShowsFirst text byte rest
digits_first text byte rest p = (92 ∷ 120 ∷ p.0 ∷ p.1 ∷ [], inr (p.0, p.1, refl, p.3, p.4, p.5), p.2)

-- the first element of a list, and the rest
pub first_and_rest : (xs : List ℕ) → 1 ≤ length xs → xs ≡ get_or xs 0 0 ∷ take (length xs - 1) (drop 1 xs)
first_and_rest [] some = absurd (omega arith)
first_and_rest (x ∷ xs) some = ap (λ (t : List ℕ). x ∷ t) (sym (take_rest (x ∷ xs) 1))

-- the first two elements of a list, and the rest
pub two_and_rest : (xs : List ℕ) → 2 ≤ length xs → xs ≡ get_or xs 0 0 ∷ get_or xs 1 0 ∷ take (length xs - 2) (drop 2 xs)
two_and_rest [] some = absurd (omega arith)
two_and_rest (x ∷ []) some = absurd (omega arith)
two_and_rest (x ∷ y ∷ xs) some = ap (λ (t : List ℕ). x ∷ y ∷ t) (sym (take_rest (x ∷ y ∷ xs) 2))

-- The table has each character once.
use Rattle.std.proofs.Common.{◌≡◌, ℕ, ◌+◌, ◌-◌, ◌<◌, ◌≤◌, ◌↔◌, ◌==◌, true, eqb, leb, Some, None, inl, inr, refl, sym, ap, ◌∙◌, subst, arith, slice_index}
use Rattle.std.specs.List.{position, position_or_len}
use Rattle.std.proofs.lemmas.Bool.{agree_below_at, eqb-true, leb-true, cond-true, cond-false, lt-ltb, le-ltb, cases_lt}
use Rattle.std.proofs.lemmas.List.Quantifiers.{position-Some}
use Rattle.fork_list.specs.declared.roman.TheConstants.{UPPER}
use Rattle.fork_list.specs.Roman.{roman_char}

-- a character of the table is first in its own place
own_place : (k : ℕ) → k < 128 → position_or_len (λ upper. upper == slice_index UPPER k) UPPER ≡ k
own_place k within = eqb-true _ _ (agree_below_at (λ k. eqb (position_or_len (λ upper. upper == slice_index UPPER k) UPPER) k) (λ _. true) 128 k refl within)

found_own : (k : ℕ) → k < 128 → position (λ upper. upper == slice_index UPPER k) UPPER ≡ Some k
found_own k within = let own = own_place k within in rw own (cond-true _ _ _ (lt-ltb k 128 within))

-- none of them is ASCII
not_ascii : (k : ℕ) → k < 128 → 128 ≤ slice_index UPPER k
not_ascii k within = leb-true _ _ (agree_below_at (λ k. leb 128 (slice_index UPPER k)) (λ _. true) 128 k refl within)

-- the character of a byte that is ASCII, or isn't
low_char : (byte : ℕ) → byte < 128 → roman_char byte ≡ byte
low_char byte low = cond-true _ _ _ (lt-ltb byte 128 low)

high_char : (byte : ℕ) → 128 ≤ byte → roman_char byte ≡ slice_index UPPER (byte - 128)
high_char byte high = cond-false _ _ _ (le-ltb byte 128 high)

-- a character of ASCII is that of its own byte alone
pub ascii_exact : (c : ℕ) → c < 128 → (byte : ℕ) → byte < 256 → (Some c ≡ Some byte) ↔ (roman_char byte ≡ c)
ascii_exact c low byte small = (
  λ is. let same : c ≡ byte = cc in subst (λ (n : ℕ). roman_char n ≡ c) same (low_char c low),
  λ is.
      elim (cases_lt byte 128) [
        | inl below ↦ ap (λ (n : ℕ). Some n) (sym is ∙ low_char byte below)
        | inr above ↦
            let within : byte - 128 < 128 = omega arith in
            let big = not_ascii (byte - 128) within in
            let value : roman_char byte ≡ slice_index UPPER (byte - 128) = high_char byte above in
            absurd (omega arith)
      ],
)

-- where the character of a byte that isn't ASCII is
placed : (c : ℕ) → 128 ≤ c → (byte : ℕ) → byte < 256 → roman_char byte ≡ c
    → (128 ≤ byte) × (position (λ upper. upper == c) UPPER ≡ Some (byte - 128))
placed c high byte small is =
    elim (cases_lt byte 128) [
      | inl below ↦ let same = low_char byte below in absurd (omega arith)
      | inr above ↦
          let within : byte - 128 < 128 = omega arith in
          let value : slice_index UPPER (byte - 128) ≡ c = sym (high_char byte above) ∙ is in
          (above, subst (λ (n : ℕ). position (λ upper. upper == n) UPPER ≡ Some (byte - 128)) value (found_own (byte - 128) within))
    ]

-- a character that the table lacks is none
pub none_exact : (c : ℕ) → 128 ≤ c → position (λ upper. upper == c) UPPER ≡ None → (byte : ℕ) → byte < 256 → (None ≡ Some byte) ↔ (roman_char byte ≡ c)
none_exact c high lacks byte small = (
  λ is. absurd cc,
  λ is. let found = (placed c high byte small is).1 in absurd cc,
)

-- a character that the table has is that of the byte of its place alone
pub upper_exact : (c place : ℕ) → 128 ≤ c → position (λ upper. upper == c) UPPER ≡ Some place → (byte : ℕ) → byte < 256 → (Some (128 + place) ≡ Some byte) ↔ (roman_char byte ≡ c)
upper_exact c place high found byte small =
    let here = position-Some (λ upper. upper == c) UPPER place 0 found in (
      λ is.
          let same : 128 + place ≡ byte = cc in
          let above : 128 ≤ byte = omega arith in
          let back : byte - 128 ≡ place = omega arith in
          high_char byte above ∙ ap (λ (n : ℕ). slice_index UPPER n) back ∙ eqb-true _ _ here.1,
      λ is.
          let other = placed c high byte small is in
          let same : place ≡ byte - 128 = let own = other.1 in cc in
          let above = other.0 in
          ap (λ (n : ℕ). Some n) (let whole : 128 + place ≡ byte = omega arith in whole),
    )

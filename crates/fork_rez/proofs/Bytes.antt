-- Bytes between quotes are read again.
use Rattle.std.proofs.Common.{◌≡◌, ℕ, zero, suc, ◌+◌, ◌*◌, ◌/◌, ◌%◌, ◌<◌, inl, inr, true, false, eqb, List, [], ◌∷◌, ◌++◌, length, Some, None, Ok, refl, sym, ap, ◌∙◌, append_assoc, append-nil, arith}
use Rattle.std.specs.Prelude.{◌||◌, ◌&&◌, ◌==◌, nat_lt, if◌then◌else◌}
use Rattle.std.specs.List.{flat_map, push, AllByRecursion}
use Rattle.std.specs.Char.{digit_value}
use Rattle.std.specs.Fmt.{digit_glyph}
use Rattle.std.proofs.lemmas.Bool.{eqb-true, cond-true, cond-false, cases_Bool, or_cases, or_parts, agree_below, agree_below_at, lt-ltb, eq-eqb}
use Rattle.std.proofs.lemmas.List.{length-append}
use Rattle.fork_rez.specs.declared.quoted.Quotes.TheVariants.{Single, Double, Hexadecimal}
use Rattle.fork_rez.specs.Text.{digits_text, hexadecimal, is_printable, written}
use Rattle.fork_rez.specs.Reading.{after_blanks, all_of, byte_at, character_at, digits_at, escape_at, is_blank, many, quoted_at}
use Rattle.fork_rez.proofs.Many.{many_again, few, pushed, map_same}
use Rattle.fork_rez.proofs.Words.{other_mark, stays}

-- the digit of a number below 16
abbrev pub glyph : ℕ → ℕ
glyph d = digit_glyph true d

-- its value
glyph_value : (d : ℕ) → d < 16 → digit_value (glyph d) ≡ d
glyph_value d small = eqb-true _ _ (agree_below_at (λ n. eqb (digit_value (glyph n)) n) (λ _. true) 16 d refl small)

-- two digits
pub byte_again : (byte : ℕ) (rest : List ℕ) → byte < 256 → byte_at (hexadecimal byte ++ rest) ≡ Ok (byte, rest)
unfolding byte_at
byte_again byte rest small =
    let high : byte / 16 < 16 = omega arith in
    let low : byte % 16 < 16 = omega arith in
    let whole_byte : 16 * (byte / 16) + byte % 16 ≡ byte = omega arith in
    rw (glyph_value (byte / 16) high, glyph_value (byte % 16) low, lt-ltb (byte / 16) 16 high, lt-ltb (byte % 16) 16 low, whole_byte) refl

-- a digit is no blank, no quote, and begins no comment
glyph_apart : (other : ℕ) (d : ℕ) → agree_below (λ n. eqb (glyph n) other) (λ _. false) 16 ≡ true → d < 16 → eqb (glyph d) other ≡ false
glyph_apart other d apart small = agree_below_at (λ n. eqb (glyph n) other) (λ _. false) 16 d apart small

glyph_stays : (d : ℕ) (rest : List ℕ) → d < 16 → after_blanks (glyph d ∷ rest) ≡ Ok (glyph d ∷ rest)
glyph_stays d rest small =
    stays (glyph d) rest (agree_below_at (λ n. is_blank (glyph n)) (λ _. false) 16 d refl small) (glyph_apart 47 d refl small)

-- a byte in digits
digits_here : (byte : ℕ) (rest : List ℕ) → byte < 256 → digits_at (hexadecimal byte ++ rest) ≡ Ok (Some byte, rest)
unfolding digits_at
digits_here byte rest small =
    let high : byte / 16 < 16 = omega arith in
    let text : List ℕ = glyph (byte % 16) ∷ rest in
    rw (glyph_stays (byte / 16) text high, other_mark 34 (glyph (byte / 16)) text (glyph_apart 34 (byte / 16) refl high), byte_again byte rest small) refl

-- a blank before it
blank_first : (text : List ℕ) → digits_at (32 ∷ text) ≡ digits_at text
unfolding digits_at after_blanks
blank_first text = refl

-- the end of digits
digits_end : (rest : List ℕ) → digits_at (34 ∷ rest) ≡ Ok (None, rest)
unfolding digits_at after_blanks
digits_end rest = refl

-- what is before a byte in digits
abbrev before : ℕ → List ℕ
before at = if nat_lt 0 at && at % 2 == 0 then 32 ∷ [] else []

digits_next : (at byte : ℕ) (rest : List ℕ) → byte < 256 → digits_at (before at ++ (hexadecimal byte ++ rest)) ≡ Ok (Some byte, rest)
digits_next at byte rest small =
    elim (cases_Bool (nat_lt 0 at && at % 2 == 0)) [
      | inl spaced ↦ ap (λ (t : List ℕ). digits_at (t ++ (hexadecimal byte ++ rest))) (cond-true _ _ _ spaced) ∙ blank_first (hexadecimal byte ++ rest) ∙ digits_here byte rest small
      | inr close ↦ ap (λ (t : List ℕ). digits_at (t ++ (hexadecimal byte ++ rest))) (cond-false _ _ _ close) ∙ digits_here byte rest small
    ]

-- bytes in digits
digits_many : (at : ℕ) (bytes rest : List ℕ) → AllByRecursion (λ byte. byte < 256) bytes → (n : ℕ) (so_far : List ℕ) → length bytes < n
    → many push digits_at n so_far (digits_text at bytes ++ 34 ∷ rest) ≡ Ok (so_far ++ bytes, rest)
digits_many at [] rest all zero so_far short = absurd (omega arith)
digits_many at [] rest all (suc n) so_far short = rw (digits_end rest) (ap (λ (t : List ℕ). Ok (t, rest)) (sym (append-nil so_far)))
digits_many at (byte ∷ bytes) rest all zero so_far short = absurd (omega arith)
digits_many at (byte ∷ bytes) rest all (suc n) so_far short =
    let end : List ℕ = 34 ∷ rest in
    let others : List ℕ = digits_text (at + 1) bytes in
    let regrouped : digits_text at (byte ∷ bytes) ++ end ≡ before at ++ (hexadecimal byte ++ (others ++ end)) =
    append_assoc (before at) (hexadecimal byte ++ others) end ∙ ap (λ (t : List ℕ). before at ++ t) (append_assoc (hexadecimal byte) others end) in
    ap (many push digits_at (suc n) so_far) regrouped
    ∙ rw (digits_next at byte (others ++ end) all.0) (digits_many (at + 1) bytes rest all.1 n (push so_far byte) (omega arith)
    ∙ ap (λ (t : List ℕ). Ok (t, rest)) (append_assoc so_far (byte ∷ []) bytes))

digits_long : (at : ℕ) (bytes end : List ℕ) → length bytes < suc (length (digits_text at bytes ++ end))
digits_long at [] end = omega arith
digits_long at (byte ∷ bytes) end =
    let others = digits_long (at + 1) bytes end in
    let rest : List ℕ = digits_text (at + 1) bytes in
    let long : length (digits_text at (byte ∷ bytes) ++ end) ≡ length (before at) + suc (suc (length (rest ++ end))) =
    ap (λ (t : List ℕ). length t) (append_assoc (before at) (hexadecimal byte ++ rest) end) ∙ length-append (before at) (hexadecimal byte ++ (rest ++ end)) in
    omega arith

-- a string of digits
pub digits_again : (bytes rest : List ℕ) → AllByRecursion (λ byte. byte < 256) bytes → quoted_at Hexadecimal (digits_text 0 bytes ++ 34 ∷ rest) ≡ Ok (bytes, rest)
unfolding quoted_at
digits_again bytes rest all = digits_many 0 bytes rest all (suc (length (digits_text 0 bytes ++ 34 ∷ rest))) [] (digits_long 0 bytes (34 ∷ rest))

-- between these quotes a backslash may be before a quote
module _ (quote : ℕ) (apart : eqb 92 quote ≡ false) (known : (eqb quote 34 || (eqb quote 39 || eqb quote 92)) ≡ true) where
  escaped : (byte : ℕ) → (eqb byte quote || eqb byte 92) ≡ true → (eqb byte 34 || (eqb byte 39 || eqb byte 92)) ≡ true
  escaped byte marked =
      elim (or_cases (eqb byte quote) (eqb byte 92) marked) [
        | inl is ↦ ap (λ (n : ℕ). eqb n 34 || (eqb n 39 || eqb n 92)) (eqb-true byte quote is) ∙ known
        | inr is ↦ ap (λ (n : ℕ). eqb n 34 || (eqb n 39 || eqb n 92)) (eqb-true byte 92 is)
      ]

  marked_here : (byte : ℕ) (rest : List ℕ) → (eqb byte quote || eqb byte 92) ≡ true → character_at quote (92 ∷ byte ∷ rest) ≡ Ok (Some byte, rest)
  unfolding character_at escape_at
  marked_here byte rest marked = rw (apart, escaped byte marked) refl

  plain_here : (byte : ℕ) (rest : List ℕ) → eqb byte quote ≡ false → eqb byte 92 ≡ false → is_printable byte ≡ true → character_at quote (byte ∷ rest) ≡ Ok (Some byte, rest)
  unfolding character_at
  plain_here byte rest a b plain = rw (a, b, plain) refl

  coded_here : (byte : ℕ) (rest : List ℕ) → byte < 256 → character_at quote (92 ∷ 48 ∷ 120 ∷ (hexadecimal byte ++ rest)) ≡ Ok (Some byte, rest)
  unfolding character_at escape_at
  coded_here byte rest small = rw (apart, byte_again byte rest small) refl

  character_again : (byte : ℕ) (rest : List ℕ) → byte < 256 → character_at quote (written quote byte ++ rest) ≡ Ok (Some byte, rest)
  character_again byte rest small =
      elim (cases_Bool (eqb byte quote || eqb byte 92)) [
        | inl marked ↦ ap (λ (t : List ℕ). character_at quote (t ++ rest)) (cond-true _ _ _ marked) ∙ marked_here byte rest marked
        | inr bare ↦
            let parts = or_parts (eqb byte quote) (eqb byte 92) bare in
            elim (cases_Bool (is_printable byte)) [
              | inl plain ↦ ap (λ (t : List ℕ). character_at quote (t ++ rest)) (cond-false _ _ _ bare ∙ cond-true _ _ _ plain) ∙ plain_here byte rest parts.0 parts.1 plain
              | inr not ↦ ap (λ (t : List ℕ). character_at quote (t ++ rest)) (cond-false _ _ _ bare ∙ cond-false _ _ _ not) ∙ coded_here byte rest small
            ]
      ]

  character_end : (rest : List ℕ) → character_at quote (quote ∷ rest) ≡ Ok (None, rest)
  unfolding character_at
  character_end rest = rw (eq-eqb quote quote refl) refl

  some_written : (byte : ℕ) → 0 < length (written quote byte)
  some_written byte =
      elim (cases_Bool (eqb byte quote || eqb byte 92)) [
        | inl marked ↦ rw marked (omega arith)
        | inr bare ↦ rw bare (elim (cases_Bool (is_printable byte)) [ inl plain ↦ rw plain (omega arith) | inr not ↦ rw not (omega arith) ])
      ]

  pub characters_again : (bytes rest : List ℕ) → AllByRecursion (λ byte. byte < 256) bytes
      → all_of push (character_at quote) [] (flat_map (written quote) bytes ++ quote ∷ rest) ≡ Ok (bytes, rest)
  characters_again bytes rest all =
      many_again push (character_at quote) (written quote) (λ _. []) (λ byte. byte) (λ byte. byte < 256) character_again (λ byte tail small. refl) (quote ∷ rest) rest (character_end rest) bytes all
      (suc (length (flat_map (written quote) bytes ++ quote ∷ rest))) [] (few (written quote) (λ byte. byte < 256) (λ byte small. some_written byte) bytes (quote ∷ rest) all)
      ∙ ap (λ (t : List ℕ). Ok (t, rest)) (pushed (λ byte. byte) [] bytes ∙ map_same bytes)

-- a type, and the name or a string
pub kind_characters : (bytes rest : List ℕ) → AllByRecursion (λ byte. byte < 256) bytes → quoted_at Single (flat_map (written 39) bytes ++ 39 ∷ rest) ≡ Ok (bytes, rest)
unfolding quoted_at
kind_characters bytes rest all = characters_again 39 refl refl bytes rest all

pub name_characters : (bytes rest : List ℕ) → AllByRecursion (λ byte. byte < 256) bytes → quoted_at Double (flat_map (written 34) bytes ++ 34 ∷ rest) ≡ Ok (bytes, rest)
unfolding quoted_at
name_characters bytes rest all = characters_again 34 refl refl bytes rest all

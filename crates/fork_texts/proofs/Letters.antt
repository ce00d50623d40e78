-- Bytes that were written are read again.
use Rattle.std.proofs.Common.{◌≡◌, ℕ, zero, suc, ◌+◌, ◌*◌, ◌/◌, ◌%◌, ◌<◌, inl, inr, Bool, true, false, eqb, cond, List, [], ◌∷◌, ◌++◌, length, take, Option, Some, None, Result, Ok, Err, refl, sym, subst, ap, ◌∙◌, append_assoc, append-nil, arith}
use Rattle.std.specs.Prelude.{◌||◌, ◌&&◌, ◌==◌, not, nat_le, nat_lt}
use Rattle.std.specs.List.{flat_map, AllByRecursion}
use Rattle.std.specs.Char.{digit_value}
use Rattle.std.specs.Fmt.{digit_glyph}
use Rattle.std.proofs.lemmas.Bool.{eqb-true, eqb-false, cond-true, cond-false, cases_Bool, or_cases, or_parts, or_from, agree_below_at, lt-ltb, ne_eqb, false≢true}
use Rattle.std.proofs.lemmas.List.{length-append}
use Rattle.fork_texts.specs.declared.fault.Fault.{Fault}
use Rattle.fork_texts.specs.declared.reading.Stop.{Stop}
use Rattle.fork_texts.specs.declared.reading.Stop.TheVariants.{Blank, Quote}
use Rattle.fork_texts.specs.Laws.{AreBytes}
use Rattle.fork_texts.specs.Lines.{bare_length, digits, is_letter, kind_text, kind_written, written}
use Rattle.fork_texts.specs.Reading.{byte_at, digits_at, escape_at, is_blank, is_stop, kind_at, kind_of, run_at, stops}

-- the digit of a number below 16
abbrev glyph : ℕ → ℕ
glyph d = digit_glyph true d

glyph_value : (d : ℕ) → d < 16 → digit_value (glyph d) ≡ d
glyph_value d small = eqb-true _ _ (agree_below_at (λ n. eqb (digit_value (glyph n)) n) (λ _. true) 16 d refl small)

coded : (byte : ℕ) (rest : List ℕ) → byte < 256 → byte_at (digits byte ++ rest) ≡ Ok (byte, rest)
unfolding byte_at escape_at digits_at
coded byte rest small =
    let high : byte / 16 < 16 = omega arith in
    let low : byte % 16 < 16 = omega arith in
    let whole_byte : 16 * (byte / 16) + byte % 16 ≡ byte = omega arith in
    rw (glyph_value (byte / 16) high, glyph_value (byte % 16) low, lt-ltb (byte / 16) 16 high, lt-ltb (byte % 16) 16 low, whole_byte) refl

escaped_end : (rest : List ℕ) → byte_at (92 ∷ 110 ∷ rest) ≡ Ok (13, rest)
unfolding byte_at escape_at
escaped_end rest = refl

escaped_tab : (rest : List ℕ) → byte_at (92 ∷ 116 ∷ rest) ≡ Ok (9, rest)
unfolding byte_at escape_at
escaped_tab rest = refl

escaped_quote : (rest : List ℕ) → byte_at (92 ∷ 34 ∷ rest) ≡ Ok (34, rest)
unfolding byte_at escape_at
escaped_quote rest = refl

escaped_slash : (rest : List ℕ) → byte_at (92 ∷ 92 ∷ rest) ≡ Ok (92, rest)
unfolding byte_at escape_at
escaped_slash rest = refl

escaped : (byte : ℕ) (rest : List ℕ) → (eqb byte 34 || eqb byte 92) ≡ true → byte_at (92 ∷ byte ∷ rest) ≡ Ok (byte, rest)
escaped byte rest marked =
    let P : ℕ → Type 0 = λ b. byte_at (92 ∷ b ∷ rest) ≡ Ok (b, rest) in
    elim (or_cases (eqb byte 34) (eqb byte 92) marked) [
      | inl is ↦ subst P (sym (eqb-true byte 34 is)) (escaped_quote rest)
      | inr is ↦ subst P (sym (eqb-true byte 92 is)) (escaped_slash rest)
    ]

plain : (byte : ℕ) (rest : List ℕ) → byte < 256 → eqb byte 92 ≡ false → is_letter byte ≡ true → byte_at (byte ∷ rest) ≡ Ok (byte, rest)
unfolding byte_at
plain byte rest small other letter =
    let shown : (nat_le 32 byte && not (eqb byte 127)) ≡ true = sym (agree_below_at is_letter (λ b. nat_le 32 b && not (eqb b 127)) 256 byte refl small) ∙ letter in
    rw (other, shown) refl

-- a piece is read as a byte, and doesn't begin with a stop
abbrev pub Reads : Stop → ℕ → List ℕ → Type 0
Reads stop byte piece = (rest : List ℕ) → (stops stop (piece ++ rest) ≡ false) × (byte_at (piece ++ rest) ≡ Ok (byte, rest))

-- a letter that isn't escaped
letter_reads : (stop : Stop) (byte : ℕ) → byte < 256 → is_stop stop 92 ≡ false → (is_letter byte ≡ true → is_stop stop byte ≡ false) → eqb byte 92 ≡ false
    → Reads stop byte (cond (is_letter byte) (byte ∷ []) (digits byte))
letter_reads stop byte small slash apart other =
    let P : List ℕ → Type 0 = λ piece. Reads stop byte piece in
    elim (cases_Bool (is_letter byte)) [
      | inl letter ↦ subst P (sym (cond-true (is_letter byte) (byte ∷ []) (digits byte) letter)) (λ rest. (apart letter, plain byte rest small other letter))
      | inr not ↦ subst P (sym (cond-false (is_letter byte) (byte ∷ []) (digits byte) not)) (λ rest. (slash, coded byte rest small))
    ]

abbrev marked_or : ℕ → List ℕ
marked_or byte = cond (eqb byte 34 || eqb byte 92) (92 ∷ byte ∷ []) (cond (is_letter byte) (byte ∷ []) (digits byte))

marked_reads : (stop : Stop) (byte : ℕ) → byte < 256 → is_stop stop 92 ≡ false → ((eqb byte 34 || eqb byte 92) ≡ false → is_letter byte ≡ true → is_stop stop byte ≡ false)
    → Reads stop byte (marked_or byte)
marked_reads stop byte small slash apart =
    let P : List ℕ → Type 0 = λ piece. Reads stop byte piece in
    let others : List ℕ = cond (is_letter byte) (byte ∷ []) (digits byte) in
    elim (cases_Bool (eqb byte 34 || eqb byte 92)) [
      | inl marked ↦ subst P (sym (cond-true (eqb byte 34 || eqb byte 92) (92 ∷ byte ∷ []) others marked)) (λ rest. (slash, escaped byte rest marked))
      | inr bare ↦ subst P (sym (cond-false (eqb byte 34 || eqb byte 92) (92 ∷ byte ∷ []) others bare)) (letter_reads stop byte small slash (apart bare) (or_parts (eqb byte 34) (eqb byte 92) bare).1)
    ]

abbrev tab_or : ℕ → List ℕ
tab_or byte = cond (eqb byte 9) (92 ∷ 116 ∷ []) (marked_or byte)

written_reads : (stop : Stop) (byte : ℕ) → byte < 256 → is_stop stop 92 ≡ false
    → (eqb byte 13 ≡ false → eqb byte 9 ≡ false → (eqb byte 34 || eqb byte 92) ≡ false → is_letter byte ≡ true → is_stop stop byte ≡ false) → Reads stop byte (written byte)
written_reads stop byte small slash apart =
    let P : List ℕ → Type 0 = λ piece. Reads stop byte piece in
    elim (cases_Bool (eqb byte 13)) [
      | inl end ↦ subst P (sym (cond-true (eqb byte 13) (92 ∷ 110 ∷ []) (tab_or byte) end))
          (λ rest. let Q : ℕ → Type 0 = λ b. byte_at (92 ∷ 110 ∷ rest) ≡ Ok (b, rest) in (slash, subst Q (sym (eqb-true byte 13 end)) (escaped_end rest)))
      | inr more ↦ subst P (sym (cond-false (eqb byte 13) (92 ∷ 110 ∷ []) (tab_or byte) more)) (elim (cases_Bool (eqb byte 9)) [
        | inl tab ↦ subst P (sym (cond-true (eqb byte 9) (92 ∷ 116 ∷ []) (marked_or byte) tab))
            (λ rest. let Q : ℕ → Type 0 = λ b. byte_at (92 ∷ 116 ∷ rest) ≡ Ok (b, rest) in (slash, subst Q (sym (eqb-true byte 9 tab)) (escaped_tab rest)))
        | inr other ↦ subst P (sym (cond-false (eqb byte 9) (92 ∷ 116 ∷ []) (marked_or byte) other)) (marked_reads stop byte small slash (apart more other))
      ])
    ]

-- a byte of a text
pub text_reads : (byte : ℕ) → byte < 256 → Reads Quote byte (written byte)
text_reads byte small = written_reads Quote byte small refl (λ more other bare letter. (or_parts (eqb byte 34) (eqb byte 92) bare).0)

-- a byte of a type
pub kind_reads : (byte : ℕ) → byte < 256 → Reads Blank byte (kind_written byte)
kind_reads byte small =
    let P : List ℕ → Type 0 = λ piece. Reads Blank byte piece in
    elim (cases_Bool (eqb byte 32)) [
      | inl blank ↦ subst P (sym (cond-true (eqb byte 32) (digits byte) (written byte) blank)) (λ rest. (refl, coded byte rest small))
      | inr some ↦ subst P (sym (cond-false (eqb byte 32) (digits byte) (written byte) some))
          (written_reads Blank byte small refl (λ more other bare letter. or_from (eqb byte 32) (eqb byte 9 || eqb byte 13) some (or_from (eqb byte 9) (eqb byte 13) other more)))
    ]

some_piece : (stop : Stop) (byte : ℕ) (piece : List ℕ) → Reads stop byte piece → 0 < length piece
unfolding byte_at
some_piece stop byte [] reads = absurd (let e = (reads []).1 in cc)
some_piece stop byte (first ∷ piece) reads = omega arith

module _ (stop : Stop) (write : ℕ → List ℕ) (each : (byte : ℕ) → byte < 256 → Reads stop byte (write byte)) where
  run_again : (bytes rest : List ℕ) → AreBytes bytes → stops stop rest ≡ true → (n : ℕ) (so_far : List ℕ) → length bytes < n
      → run_at stop n so_far (flat_map write bytes ++ rest) ≡ Ok (so_far ++ bytes, rest)
  unfolding run_at
  run_again [] rest all end zero so_far short = absurd (omega arith)
  run_again [] rest all end (suc n) so_far short = rw end (ap (λ (t : List ℕ). Ok (t, rest)) (sym (append-nil so_far)))
  run_again (byte ∷ bytes) rest all end zero so_far short = absurd (omega arith)
  run_again (byte ∷ bytes) rest all end (suc n) so_far short =
      let tail : List ℕ = flat_map write bytes ++ rest in
      let one = each byte all.0 tail in
      let apart = one.0 in
      let read = one.1 in
      ap (run_at stop (suc n) so_far) (append_assoc (write byte) (flat_map write bytes) rest)
      ∙ rw (apart, read) (run_again bytes rest all.1 end n (so_far ++ byte ∷ []) (omega arith) ∙ ap (λ (t : List ℕ). Ok (t, rest)) (append_assoc so_far (byte ∷ []) bytes))

  few : (bytes rest : List ℕ) → AreBytes bytes → stops stop rest ≡ true → length bytes < length (flat_map write bytes ++ rest)
  few [] [] all end = absurd (false≢true end)
  few [] (first ∷ rest) all end = omega arith
  few (byte ∷ bytes) rest all end =
      let others = few bytes rest all.1 end in
      let one = some_piece stop byte (write byte) (each byte all.0) in
      let long : length (flat_map write (byte ∷ bytes) ++ rest) ≡ length (write byte) + length (flat_map write bytes ++ rest) =
      ap (λ (t : List ℕ). length t) (append_assoc (write byte) (flat_map write bytes) rest) ∙ length-append (write byte) (flat_map write bytes ++ rest) in
      omega arith

  pub whole_run : (bytes rest : List ℕ) → AreBytes bytes → stops stop rest ≡ true
      → run_at stop (length (flat_map write bytes ++ rest)) [] (flat_map write bytes ++ rest) ≡ Ok (bytes, rest)
  whole_run bytes rest all end = run_again bytes rest all end (length (flat_map write bytes ++ rest)) [] (few bytes rest all end)

front_bytes : (n : ℕ) (bytes : List ℕ) → AreBytes bytes → AreBytes (take n bytes)
front_bytes zero bytes all = tt
front_bytes (suc n) [] all = tt
front_bytes (suc n) (byte ∷ bytes) all = (all.0, front_bytes n bytes all.1)

bare_is : (kind : List ℕ) → length kind ≡ 4 → kind_of (take (bare_length kind) kind) ≡ Some kind
bare_is [] four = absurd (omega arith)
bare_is (a ∷ []) four = absurd (omega arith)
bare_is (a ∷ b ∷ []) four = absurd (omega arith)
bare_is (a ∷ b ∷ c ∷ []) four = absurd (omega arith)
bare_is (a ∷ b ∷ c ∷ d ∷ e ∷ more) four = absurd (omega arith)
bare_is (a ∷ b ∷ c ∷ d ∷ []) four =
    let S : ℕ → Type 0 = λ x. kind_of (take (bare_length (a ∷ b ∷ c ∷ x ∷ [])) (a ∷ b ∷ c ∷ x ∷ [])) ≡ Some (a ∷ b ∷ c ∷ x ∷ []) in
    elim (cases_Bool (eqb d 32)) [
      | inl blank ↦ subst S (sym (eqb-true d 32 blank)) (third a b c)
      | inr last ↦ rw last refl
    ]
  where
    second : (a b : ℕ) → kind_of (take (bare_length (a ∷ b ∷ 32 ∷ 32 ∷ [])) (a ∷ b ∷ 32 ∷ 32 ∷ [])) ≡ Some (a ∷ b ∷ 32 ∷ 32 ∷ [])
    second a b =
        let S : ℕ → Type 0 = λ x. kind_of (take (bare_length (a ∷ x ∷ 32 ∷ 32 ∷ [])) (a ∷ x ∷ 32 ∷ 32 ∷ [])) ≡ Some (a ∷ x ∷ 32 ∷ 32 ∷ []) in
        elim (cases_Bool (eqb b 32)) [ inl blank ↦ subst S (sym (eqb-true b 32 blank)) refl | inr last ↦ rw last refl ]

    third : (a b c : ℕ) → kind_of (take (bare_length (a ∷ b ∷ c ∷ 32 ∷ [])) (a ∷ b ∷ c ∷ 32 ∷ [])) ≡ Some (a ∷ b ∷ c ∷ 32 ∷ [])
    third a b c =
        let S : ℕ → Type 0 = λ x. kind_of (take (bare_length (a ∷ b ∷ x ∷ 32 ∷ [])) (a ∷ b ∷ x ∷ 32 ∷ [])) ≡ Some (a ∷ b ∷ x ∷ 32 ∷ []) in
        elim (cases_Bool (eqb c 32)) [ inl blank ↦ subst S (sym (eqb-true c 32 blank)) (second a b) | inr last ↦ rw last refl ]

-- a type
pub kind_again : (kind rest : List ℕ) → length kind ≡ 4 → AreBytes kind → kind_at (kind_text kind ++ 32 ∷ rest) ≡ Ok (kind, 32 ∷ rest)
unfolding kind_at
kind_again kind rest four all =
    rw (whole_run Blank kind_written kind_reads (take (bare_length kind) kind) (32 ∷ rest) (front_bytes (bare_length kind) kind all) refl, bare_is kind four) refl

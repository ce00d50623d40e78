-- A text whose bytes are looked for.
use Rattle.std.proofs.Common.{◌≡◌, ℕ, ◌<◌, suc, List, [], ◌∷◌, ◌++◌, length, sym, ap, ◌∙◌, append_assoc, append-nil, length-append, arith}
use Rattle.std.specs.Prelude.{encode_utf8}
use Rattle.std.proofs.lemmas.Str.{encode_same, length-encode, len_utf8_bounds}
use Rattle.fork_list.specs.Roman.{AreBytes, roman_char, roman_text}

-- one byte more
pub text_more : (bytes : List ℕ) (byte : ℕ) → roman_text (bytes ++ byte ∷ []) ≡ roman_text bytes ++ encode_utf8 (roman_char byte)
text_more [] byte = append-nil (encode_utf8 (roman_char byte))
text_more (first ∷ bytes) byte = ap (λ (t : List ℕ). encode_utf8 (roman_char first) ++ t) (text_more bytes byte) ∙ sym (append_assoc (encode_utf8 (roman_char first)) (roman_text bytes) (encode_utf8 (roman_char byte)))

-- a character that no byte has isn't in the text of bytes
pub lacking : (done bytes : List ℕ) (c : ℕ) (rest : List ℕ) → ((byte : ℕ) → byte < 256 → ¬ (roman_char byte ≡ c)) → AreBytes bytes
    → ¬ (roman_text bytes ≡ roman_text done ++ (encode_utf8 c ++ rest))
lacking [] [] c rest none are is =
    let some = len_utf8_bounds c in
    let count : length (encode_utf8 c ++ rest) ≡ 0 = sym (ap (λ (t : List ℕ). length t) is) in
    absurd (omega (arith, length-append (encode_utf8 c) rest, length-encode c))
lacking [] (byte ∷ bytes) c rest none are is =
    none byte (are 0 0 (omega arith)) (encode_same (roman_char byte) c (roman_text bytes) rest is).0
lacking (first ∷ done) [] c rest none are is =
    let some = len_utf8_bounds (roman_char first) in
    let tail = roman_text done ++ (encode_utf8 c ++ rest) in
    let count : length (encode_utf8 (roman_char first) ++ tail) ≡ 0 = sym (ap (λ (t : List ℕ). length t) (is ∙ append_assoc (encode_utf8 (roman_char first)) (roman_text done) (encode_utf8 c ++ rest))) in
    absurd (omega (arith, length-append (encode_utf8 (roman_char first)) tail, length-encode (roman_char first)))
lacking (first ∷ done) (byte ∷ bytes) c rest none are is =
    lacking done bytes c rest none (λ k d within. are (suc k) d (omega arith))
    (encode_same (roman_char byte) (roman_char first) (roman_text bytes) (roman_text done ++ (encode_utf8 c ++ rest)) (is ∙ append_assoc (encode_utf8 (roman_char first)) (roman_text done) (encode_utf8 c ++ rest))).1

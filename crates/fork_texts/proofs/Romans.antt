-- A text in MacRoman with one byte more.
use Rattle.std.proofs.Common.{◌≡◌, ℕ, List, [], ◌∷◌, ◌++◌, sym, ap, ◌∙◌, append_assoc, append-nil}
use Rattle.std.specs.Prelude.{encode_utf8}
use Rattle.fork_list.specs.Roman.{roman_char, roman_text}

pub text_more : (bytes : List ℕ) (byte : ℕ) → roman_text (bytes ++ byte ∷ []) ≡ roman_text bytes ++ encode_utf8 (roman_char byte)
text_more [] byte = append-nil (encode_utf8 (roman_char byte))
text_more (first ∷ bytes) byte =
    ap (λ (t : List ℕ). encode_utf8 (roman_char first) ++ t) (text_more bytes byte) ∙ sym (append_assoc (encode_utf8 (roman_char first)) (roman_text bytes) (encode_utf8 (roman_char byte)))
